-- Laws of the legal moves.
use Rattle.std.proofs.Common.{◌≡◌, ℕ, ◌+◌, ◌-◌, ◌*◌, ◌/◌, ◌%◌, ◌<◌, ◌≤◌, Bool, true, false, not, [], ◌∷◌, Option, Some, None, refl, sym, ◌∙◌, ap, subst, arith, inl, inr}
use Rattle.std.specs.Prelude.{zero, suc, nat_lt, ◌==◌, ◌&&◌}
use Rattle.std.proofs.lemmas.Bool.{cond-true, cond-false, cases_lt, lt-ltb, le-ltb, both_ways, false_from_ne_true}
use Rattle.shogi_core.specs.declared.moves.TheConstants.{MOVE_CODE_COUNT, FIRST_DROP, SQUARE_CODES}
use Rattle.shogi_core.specs.declared.moves.Move.{Move}
use Rattle.shogi_core.specs.declared.moves.Move.TheVariants.{Board, Drop}
use Rattle.shogi_core.specs.Bits.{has_bit}
use Rattle.shogi_core.specs.Cell.{is_piece_of}
use Rattle.shogi_core.specs.Codes.{move_of, code_of, codes_from, kind_at}
use Rattle.shogi_core.specs.Movement.{piece_at}
use Rattle.shogi_core.specs.Position.{Shogi}
use Rattle.shogi_core.specs.Sets.{HasNone}
use Rattle.shogi_moves.specs.After.{after, after_code, after_some}
use Rattle.shogi_moves.specs.Legal.{is_safe, is_some_and_safe, is_safe_code, is_legal, is_legal_code, is_some_and_legal}
use Rattle.shogi_moves.specs.LegalMoves.{legal_from, legal_codes, legal_above}
use Rattle.shogi_moves.specs.Rising.{is_in, IsRising}
use Rattle.shogi_moves.proofs.Rising.{kept_rising, kept_passes, kept_low, passes_kept}

-- a legal code comes first, followed by those above it
pub legal_from_found : (p : Shogi) (code : ℕ) → code < MOVE_CODE_COUNT → is_legal_code p code ≡ true → legal_from p code ≡ code ∷ legal_from p (code + 1)
unfolding legal_from codes_from
legal_from_found p code h e = let n : MOVE_CODE_COUNT - code ≡ suc (MOVE_CODE_COUNT - (code + 1)) = omega arith in rw n (cond-true (is_legal_code p code) _ _ e)

-- a code without a legal move is left out
pub legal_from_skips : (p : Shogi) (code : ℕ) → code < MOVE_CODE_COUNT → is_legal_code p code ≡ false → legal_from p code ≡ legal_from p (code + 1)
unfolding legal_from codes_from
legal_from_skips p code h e = let n : MOVE_CODE_COUNT - code ≡ suc (MOVE_CODE_COUNT - (code + 1)) = omega arith in rw n (cond-false (is_legal_code p code) _ _ e)

-- no legal move lies above the last code
pub legal_from_end : (p : Shogi) (code : ℕ) → MOVE_CODE_COUNT ≤ code → legal_from p code ≡ []
unfolding legal_from codes_from
legal_from_end p code h = let n : MOVE_CODE_COUNT - code ≡ 0 = omega arith in rw n refl

jump : (p : Shogi) (n first : ℕ) → first + n ≤ MOVE_CODE_COUNT → ((c : ℕ) → first ≤ c → c < first + n → is_legal_code p c ≡ false) → legal_from p first ≡ legal_from p (first + n)
jump p zero first h none = ap (legal_from p) (omega arith)
jump p (suc n) first h none =
    legal_from_skips p first (omega arith) (none first (omega arith) (omega arith))
    ∙ jump p n (first + 1) (omega arith) (λ c low high. none c (omega arith) (omega arith))
    ∙ ap (legal_from p) (omega arith)

-- the legal moves are the same from either end of a run of codes without one
pub run_without : (p : Shogi) (first end : ℕ) → first ≤ end → end ≤ MOVE_CODE_COUNT → ((c : ℕ) → first ≤ c → c < end → is_legal_code p c ≡ false) → legal_from p first ≡ legal_from p end
run_without p first end low high none =
    let there : first + (end - first) ≡ end = omega arith in
    jump p (end - first) first (omega arith) (λ c l h. none c l (omega arith)) ∙ ap (legal_from p) there

-- the codes of the legal moves rise
pub legal_rising : (p : Shogi) (first : ℕ) → IsRising (legal_from p first)
unfolding legal_from codes_from
legal_rising p first = kept_rising (is_legal_code p) (MOVE_CODE_COUNT - first) first

-- each code of the list is that of a legal move
pub legal_in : (p : Shogi) (first code : ℕ) → is_in code (legal_from p first) ≡ true → is_legal_code p code ≡ true
unfolding legal_from codes_from
legal_in p first code h = kept_passes (is_legal_code p) (MOVE_CODE_COUNT - first) first code h

-- no code of the list is below the first
pub legal_in_above : (p : Shogi) (first code : ℕ) → is_in code (legal_from p first) ≡ true → first ≤ code
unfolding legal_from codes_from
legal_in_above p first code h = kept_low (is_legal_code p) (MOVE_CODE_COUNT - first) first code h

-- no code at or above the number of codes has a move
pub none_beyond : (code : ℕ) → MOVE_CODE_COUNT ≤ code → move_of code ≡ None
none_beyond code h = cond-false (nat_lt code FIRST_DROP) _ _ (le-ltb code FIRST_DROP (omega arith)) ∙ cond-false (nat_lt code MOVE_CODE_COUNT) _ _ (le-ltb code MOVE_CODE_COUNT h)

-- a legal code is one of a move
pub legal_code_below : (p : Shogi) (code : ℕ) → is_legal_code p code ≡ true → code < MOVE_CODE_COUNT
unfolding is_legal_code
legal_code_below p code e = grind (arith, cases_lt code MOVE_CODE_COUNT, none_beyond code)

-- the move of a code, by its quotients and remainders
pub board_code : (code : ℕ) → code < FIRST_DROP → move_of code ≡ Some (Board (code / 2 / 81) (code / 2 % 81) (code % 2 == 1))
board_code code h = cond-true (nat_lt code FIRST_DROP) _ _ (lt-ltb code FIRST_DROP h)

pub drop_code : (code : ℕ) → FIRST_DROP ≤ code → code < MOVE_CODE_COUNT → move_of code ≡ Some (Drop (kind_at ((code - FIRST_DROP) / 81)) ((code - FIRST_DROP) % 81))
drop_code code low high = cond-false (nat_lt code FIRST_DROP) _ _ (le-ltb code FIRST_DROP low) ∙ cond-true (nat_lt code MOVE_CODE_COUNT) _ _ (lt-ltb code MOVE_CODE_COUNT high)

-- an unsafe move is not legal
legal_unsafe : (p : Shogi) (m : Option Move) → is_some_and_safe p m ≡ false → is_some_and_legal p m ≡ false
unfolding is_legal
legal_unsafe p m e = grind arith

pub legal_code_unsafe : (p : Shogi) (code : ℕ) → is_safe_code p code ≡ false → is_legal_code p code ≡ false
unfolding is_legal_code
legal_code_unsafe p code e = legal_unsafe p (move_of code) e

-- no piece of the side to move stands on the square
not_own : (p : Shogi) (from to : ℕ) (promote : Bool) → is_piece_of p.side (piece_at p.cells from) ≡ false → is_safe p (Board from to promote) ≡ false
unfolding is_safe
not_own p from to promote e = rw e refl

pub no_piece : (p : Shogi) (from code : ℕ) → from < 81 → is_piece_of p.side (piece_at p.cells from) ≡ false → from * SQUARE_CODES ≤ code → code < from * SQUARE_CODES + SQUARE_CODES → is_legal_code p code ≡ false
no_piece p from code hf e low high =
    let same : code / 2 / 81 ≡ from = omega arith in
    legal_code_unsafe p code (ap (is_some_and_safe p) (board_code code (omega arith)) ∙ not_own p (code / 2 / 81) (code / 2 % 81) (code % 2 == 1) (subst (λ (n : ℕ). is_piece_of p.side (piece_at p.cells n) ≡ false) (sym same) e))

-- squares without a piece of the side have no legal move
pub run_squares : (p : Shogi) (from next : ℕ) → from ≤ next → next ≤ 81 → ((n : ℕ) → from ≤ n → n < next → is_piece_of p.side (piece_at p.cells n) ≡ false) → legal_from p (from * SQUARE_CODES) ≡ legal_from p (next * SQUARE_CODES)
run_squares p from next up h none = run_without p (from * SQUARE_CODES) (next * SQUARE_CODES) (omega arith) (omega arith) (λ c low high. no_piece p (c / SQUARE_CODES) c (omega arith) (none (c / SQUARE_CODES) (omega arith) (omega arith)) (omega arith) (omega arith))

-- the set has the squares of the side's pieces at or above a square
pub record HasPiecesFrom (p : Shogi) (left first : ℕ) : Type 0 where
  pub within : first ≤ 81
  pub below : (n : ℕ) → n < first → has_bit left n ≡ false
  pub above : (n : ℕ) → first ≤ n → n < 81 → has_bit left n ≡ is_piece_of p.side (piece_at p.cells n)

pub pieces_first : (p : Shogi) (own : ℕ) → ((n : ℕ) → n < 81 → has_bit own n ≡ is_piece_of p.side (piece_at p.cells n)) → HasPiecesFrom p own 0
pieces_first p own bits = record { within = omega arith; below = λ n low. absurd (omega arith); above = λ n low high. bits n high }

-- the lowest of the set is the next piece, and no legal move starts before it
pub next_piece : (p : Shogi) (left first square : ℕ) → HasPiecesFrom p left first → square < 81 → has_bit left square ≡ true → ((n : ℕ) → has_bit left n ≡ true → square ≤ n)
    → (first ≤ square) × (is_piece_of p.side (piece_at p.cells square) ≡ true) × (legal_from p (first * SQUARE_CODES) ≡ legal_from p (square * SQUARE_CODES))
next_piece p left first square h range on least =
    let up : first ≤ square = elim (cases_lt square first) [ inl low ↦ absurd (both_ways (has_bit left square) (h.below square low) on) | inr high ↦ high ] in
    (up, sym (h.above square up range) ∙ on, run_squares p first square up (omega arith) (λ n low high. sym (h.above n low (omega arith)) ∙ false_from_ne_true (has_bit left n) (λ there. (let late : square ≤ n = least n there in omega arith))))

pub pieces_after : (p : Shogi) (left next first square : ℕ) → HasPiecesFrom p left first → first ≤ square → square < 81 → ((n : ℕ) → has_bit left n ≡ true → square ≤ n) → ((i : ℕ) → has_bit next i ≡ (has_bit left i && not (i == square))) → HasPiecesFrom p next (square + 1)
pieces_after p left next first square h up range least less = record {
  within = omega arith;
  below = λ n low. grind (arith, less n, least n);
  above = λ n low high. grind (arith, less n, h.above n);
}

pub no_piece_left : (p : Shogi) (left first : ℕ) → HasPiecesFrom p left first → HasNone left → legal_from p (first * SQUARE_CODES) ≡ legal_from p FIRST_DROP
no_piece_left p left first h none = run_squares p first 81 h.within (omega arith) (λ n low high. sym (h.above n low high) ∙ none n)

-- each code of a legal move is in the list
pub in_legal : (p : Shogi) (first code : ℕ) → first ≤ code → is_legal_code p code ≡ true → is_in code (legal_from p first) ≡ true
unfolding legal_from codes_from
in_legal p first code low e = let high : code < MOVE_CODE_COUNT = legal_code_below p code e in passes_kept (is_legal_code p) (MOVE_CODE_COUNT - first) first code low (omega arith) e

-- a legal move above a given one is among the legal moves above it
pub legal_above_in : (p : Shogi) (passed : Option Move) (code : ℕ) → is_in code (legal_above p passed) ≡ true → is_in code (legal_codes p) ≡ true
legal_above_in p None code h = h
legal_above_in p (Some m) code h = in_legal p 0 code (omega arith) (legal_in p (code_of m + 1) code h)

-- a legal code is that of a legal move
pub is_legal_code_of : (p : Shogi) (code : ℕ) (m : Move) → move_of code ≡ Some m → is_legal_code p code ≡ is_legal p m
unfolding is_legal_code
is_legal_code_of p code m e = ap (is_some_and_legal p) e

-- the position after a code is that after its move
pub after_code_at : (p : Shogi) (code : ℕ) (m : Move) → move_of code ≡ Some m → after_code p code ≡ after p m
unfolding after_code
after_code_at p code m e = ap (after_some p) e

-- the code of a move leads to the position after it
pub after_code_of : (p : Shogi) (m : Move) → move_of (code_of m) ≡ Some m → after_code p (code_of m) ≡ after p m
after_code_of p m e = after_code_at p (code_of m) m e

-- a move is legal exactly if its code is in the list
pub legal_to_listed : (p : Shogi) (m : Move) → move_of (code_of m) ≡ Some m → is_legal p m ≡ true → is_in (code_of m) (legal_codes p) ≡ true
legal_to_listed p m back e = in_legal p 0 (code_of m) (omega arith) (is_legal_code_of p (code_of m) m back ∙ e)

pub listed_to_legal : (p : Shogi) (m : Move) → move_of (code_of m) ≡ Some m → is_in (code_of m) (legal_codes p) ≡ true → is_legal p m ≡ true
listed_to_legal p m back h = sym (is_legal_code_of p (code_of m) m back) ∙ legal_in p 0 (code_of m) h

pub ruleset listing = (legal_to_listed, listed_to_legal)

pub ruleset steps = (legal_from_found, legal_from_skips, legal_from_end)
