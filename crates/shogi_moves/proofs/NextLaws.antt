-- The least legal move at or above a code, by the destinations of a piece or of a kind in hand.
use Rattle.std.proofs.Common.{◌≡◌, ℕ, ◌+◌, ◌*◌, ◌<◌, ◌≤◌, Bool, true, false, not, List, [], ◌∷◌, Option, None, Some, sym, ◌∙◌, arith, inl, inr, bit_or, ap}
use Rattle.std.specs.Prelude.{IsNone, IfSome}
use Rattle.std.proofs.lemmas.Bool.{cases_Bool, or_cases, both_ways}
use Rattle.shogi_core.specs.declared.moves.TheConstants.{MOVE_CODE_COUNT, FIRST_DROP, SQUARE_CODES}
use Rattle.shogi_core.specs.declared.moves.Move.{Move}
use Rattle.shogi_core.specs.declared.moves.Move.TheVariants.{Board}
use Rattle.shogi_core.specs.Bits.{has_bit}
use Rattle.shogi_core.specs.Cell.{is_piece_of}
use Rattle.shogi_core.specs.Codes.{move_of, code_of}
use Rattle.shogi_core.specs.Movement.{piece_at}
use Rattle.shogi_core.specs.Position.{Shogi}
use Rattle.shogi_core.proofs.BitLaws.{has_bit-none, has_bit-or}
use Rattle.shogi_core.proofs.CodesBack.{move_of-board}
use Rattle.shogi_moves.specs.Legal.{is_legal, is_legal_code}
use Rattle.shogi_moves.specs.LegalMoves.{legal_from}
use Rattle.shogi_moves.specs.Sweeps.{Keeps, matching_from}
use Rattle.shogi_moves.specs.Walks.{IsNextOf, TakesNext}
use Rattle.shogi_moves.proofs.LegalLaws.{is_legal_code_of, legal_from_found, no_piece, run_without}
use Rattle.shogi_moves.proofs.SweepLaws.{keeps_first, keeps_from, fails_all, fails_to_plain, fails_to_promoting, all_drops}

-- the first legal move at or above a code
pub record IsLeast (p : Shogi) (code : ℕ) (m : Move) : Type 0 where
  pub next : legal_from p code ≡ code_of m ∷ legal_from p (code_of m + 1)
  pub legal : is_legal p m ≡ true

least_at : (p : Shogi) (code : ℕ) (m : Move) → move_of (code_of m) ≡ Some m → code_of m < MOVE_CODE_COUNT → code ≤ code_of m → is_legal_code p (code_of m) ≡ true → ((c : ℕ) → code ≤ c → c < code_of m → is_legal_code p c ≡ false) → IsLeast p code m
least_at p code m back small low legal none = record {
  next = run_without p code (code_of m) low (omega arith) none ∙ legal_from_found p (code_of m) small legal;
  legal = sym (is_legal_code_of p (code_of m) m back) ∙ legal;
}

-- no piece of the side to move stands on the square
pub nobody : (p : Shogi) (from code : ℕ) → from < 81 → from * SQUARE_CODES ≤ code → code ≤ from * SQUARE_CODES + SQUARE_CODES → is_piece_of p.side (piece_at p.cells from) ≡ false → legal_from p code ≡ legal_from p (from * SQUARE_CODES + SQUARE_CODES)
nobody p from code hf low high e = run_without p code (from * SQUARE_CODES + SQUARE_CODES) high (omega arith) (λ c above under. no_piece p from c hf e (omega arith) under)

-- a square without an own piece has no destination
pub nowhere : (p : Shogi) (promote : Bool) (from n : ℕ) → from < 81 → n < 81 → is_piece_of p.side (piece_at p.cells from) ≡ false → has_bit 0 n ≡ is_legal_code p (code_of (Board from n promote))
nowhere p promote from n hf h e = grind (arith, has_bit-none n, no_piece p from (code_of (Board from n promote)) hf e)

-- the destinations at or above a code, among all
pub destinations_from : (p : Shogi) (promote : Bool) (from code destinations less to : ℕ) → ((n : ℕ) → n < 81 → has_bit destinations n ≡ is_legal_code p (code_of (Board from n promote))) → from * SQUARE_CODES ≤ code
    → ((n : ℕ) → n < to → code_of (Board from n promote) < code) → ((n : ℕ) → to ≤ n → code ≤ code_of (Board from n promote)) → ((i : ℕ) → i < 81 → to ≤ i → has_bit less i ≡ has_bit destinations i) → ((i : ℕ) → i < to → has_bit less i ≡ false)
    → Keeps (is_legal_code p) (λ n. code_of (Board from n promote)) code less
destinations_from p promote from code destinations less to bits low falls rises same none =
    keeps_from (is_legal_code p) (λ n. code_of (Board from n promote)) (from * SQUARE_CODES) code destinations less to
    (keeps_first (is_legal_code p) (λ n. code_of (Board from n promote)) (from * SQUARE_CODES) destinations bits (λ n. first n promote)) low falls rises same none
  where
    first : (n : ℕ) (b : Bool) → from * SQUARE_CODES ≤ code_of (Board from n b)
    first n b = grind arith

module _ (p : Shogi) (from code non_promoting promoting : ℕ) (hf : from < 81) (low : from * SQUARE_CODES ≤ code) (a : Keeps (is_legal_code p) (λ n. code_of (Board from n false)) code non_promoting) (b : Keeps (is_legal_code p) (λ n. code_of (Board from n true)) code promoting) where
  pub no_destination : code ≤ from * SQUARE_CODES + SQUARE_CODES → bit_or non_promoting promoting ≡ 0 → legal_from p code ≡ legal_from p (from * SQUARE_CODES + SQUARE_CODES)
  no_destination high none = run_without p code (from * SQUARE_CODES + SQUARE_CODES) high (omega arith) (fails_all (is_legal_code p) from code non_promoting promoting low a b none)

  -- the least move is the one without promotion if both are legal
  pub least_destination : (to : ℕ) → to < 81 → ((n : ℕ) → has_bit (bit_or non_promoting promoting) n ≡ true → to ≤ n) → has_bit (bit_or non_promoting promoting) to ≡ true → IsLeast p code (Board from to (not (has_bit non_promoting to)))
  least_destination to ht least set = elim (cases_Bool (has_bit non_promoting to)) [
    | inl here ↦ (
        let at : (code ≤ code_of (Board from to false)) × (is_legal_code p (code_of (Board from to false)) ≡ true) = a.set to ht here in
        rw here (least_at p code (Board from to false) (move_of-board from to false hf ht) (omega arith) at.0 at.1 (fails_to_plain (is_legal_code p) from code non_promoting promoting low a b to ht least)))
    | inr out ↦ (
        let at : (code ≤ code_of (Board from to true)) × (is_legal_code p (code_of (Board from to true)) ≡ true) = b.set to ht (elim (or_cases (has_bit non_promoting to) (has_bit promoting to) (sym (has_bit-or non_promoting promoting to) ∙ set)) [ inl one ↦ absurd (both_ways (has_bit non_promoting to) out one) | inr other ↦ other ]) in
        rw out (least_at p code (Board from to true) (move_of-board from to true hf ht) (omega arith) at.0 at.1 (fails_to_promoting (is_legal_code p) from code non_promoting promoting low a b to ht least out)))
  ]

pub on_board : (from to : ℕ) (promote : Bool) → from < 81 → to < 81 → code_of (Board from to promote) < FIRST_DROP
on_board from to promote hf ht = grind arith

-- the next of the drops is the next of a walk
pub takes_drop : (codes old new : List ℕ) (found : Option Move) → codes ≡ old → IsNextOf found old new [] → (IsNone found → new ≡ []) → TakesNext found codes new
takes_drop codes old new found same next end = grind arith

-- the drops above the next one are left
pub above_drop : (p : Shogi) (new : ℕ) (found : Option Move) → FIRST_DROP ≤ new → IfSome found (λ m. new ≡ code_of m + 1) → IfSome found (λ m. matching_from p false new ≡ legal_from p (code_of m + 1))
above_drop p new None low at = at
above_drop p new (Some m) low at = all_drops p new low ∙ ap (legal_from p) at
