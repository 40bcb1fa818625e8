-- Laws of runs of codes without a legal move of a kind.
use Rattle.std.proofs.Common.{◌≡◌, ℕ, ◌+◌, ◌-◌, ◌*◌, ◌<◌, ◌≤◌, Bool, true, false, [], ◌∷◌, Some, filter, sym, ◌∙◌, ap, arith, subst, inl, inr}
use Rattle.std.specs.Prelude.{zero, suc, ◌&&◌, ◌/◌}
use Rattle.std.proofs.lemmas.Bool.{cond-true, cases_lt, and_right, and_parts}
use Rattle.shogi_core.specs.declared.moves.TheConstants.{MOVE_CODE_COUNT, FIRST_DROP, SQUARE_CODES}
use Rattle.shogi_core.specs.declared.moves.Move.{Move}
use Rattle.shogi_core.specs.Bits.{has_bit}
use Rattle.shogi_core.specs.Cell.{is_piece_of}
use Rattle.shogi_core.specs.Codes.{move_of}
use Rattle.shogi_core.specs.Movement.{piece_at}
use Rattle.shogi_core.specs.Position.{Shogi}
use Rattle.shogi_moves.specs.Captures.{captures, matches, is_capture, matches_kind, is_matching}
use Rattle.shogi_moves.specs.Legal.{is_legal_code}
use Rattle.shogi_moves.specs.LegalMoves.{legal_from}
use Rattle.shogi_moves.proofs.LegalLaws.{drop_code, legal_from_found, legal_from_skips, legal_from_end, no_piece}

-- the moves of the kind at or above the code are drops, or start from squares of the set
pub record HasMatchingOn (p : Shogi) (capture : Bool) (code mask : ℕ) : Type 0 where
  pub on : (c : ℕ) → code ≤ c → c < FIRST_DROP → is_matching p capture c ≡ true
      → has_bit mask (c / SQUARE_CODES) ≡ true

-- no code from the first up to the end is that of a legal move of the kind
pub record HasNoneMatching (p : Shogi) (capture : Bool) (first end : ℕ) : Type 0 where
  pub none : (code : ℕ) → first ≤ code → code < end → is_matching p capture code ≡ false

-- a conjunction fails if its left test fails
left_fails : (a b : Bool) → a ≡ false → (a && b) ≡ false
left_fails a b e = grind arith

-- the kind of a code is that of its move
pub matches_kind_of : (p : Shogi) (code : ℕ) (m : Move) → move_of code ≡ Some m → is_capture p code ≡ captures p (Some m)
unfolding is_capture
matches_kind_of p code m e = ap (captures p) e

-- no piece of the side to move stands on the square
pub none_square : (p : Shogi) (capture : Bool) (from code end : ℕ) → from < 81 → from * SQUARE_CODES ≤ code → end ≤ from * SQUARE_CODES + SQUARE_CODES → is_piece_of p.side (piece_at p.cells from) ≡ false → HasNoneMatching p capture code end
none_square p capture from code end small low high e = record { none = λ c above below. left_fails _ _ (no_piece p from c small e (omega arith) (omega arith)) }

-- drops take nothing
pub none_drop : (p : Shogi) (capture : Bool) (code end : ℕ) → FIRST_DROP ≤ code → end ≤ MOVE_CODE_COUNT → matches capture false ≡ false → HasNoneMatching p capture code end
none_drop p capture code end low high e = record {
  none = λ c above below. and_right _ _ (ap (matches capture) (matches_kind_of p c _ (drop_code c (omega arith) (omega arith))) ∙ e);
}

-- two adjoining runs join
pub none_join : (p : Shogi) (capture : Bool) (first middle end : ℕ) → HasNoneMatching p capture first middle → HasNoneMatching p capture middle end → HasNoneMatching p capture first end
none_join p capture first middle end h k = record { none = λ code low high. elim (cases_lt code middle) [ inl below ↦ h.none code low below | inr above ↦ k.none code above high ] }

-- a run of one code
pub skip_one : (p : Shogi) (capture : Bool) (code : ℕ) → code < MOVE_CODE_COUNT → is_matching p capture code ≡ false → filter (matches_kind p capture) (legal_from p code) ≡ filter (matches_kind p capture) (legal_from p (code + 1))
skip_one p capture code h e = grind (arith, legal_from_found p code h, legal_from_skips p code h)

jump : (p : Shogi) (capture : Bool) (n first : ℕ) → first + n ≤ MOVE_CODE_COUNT → HasNoneMatching p capture first (first + n) → filter (matches_kind p capture) (legal_from p first) ≡ filter (matches_kind p capture) (legal_from p (first + n))
jump p capture zero first h none = ap (λ (k : ℕ). filter (matches_kind p capture) (legal_from p k)) (omega arith)
jump p capture (suc n) first h none =
    skip_one p capture first (omega arith) (none.none first (omega arith) (omega arith))
    ∙ jump p capture n (first + 1) (omega arith) (record { none = λ code low high. none.none code (omega arith) (omega arith) })
    ∙ ap (λ (k : ℕ). filter (matches_kind p capture) (legal_from p k)) (omega arith)

-- the legal moves of the kind are the same from either end of a run without one
pub matching_jumps : (p : Shogi) (capture : Bool) (first end : ℕ) → first ≤ end → end ≤ MOVE_CODE_COUNT → HasNoneMatching p capture first end → filter (matches_kind p capture) (legal_from p first) ≡ filter (matches_kind p capture) (legal_from p end)
matching_jumps p capture first end low high none =
    let there : first + (end - first) ≡ end = omega arith in
    subst (λ (k : ℕ). filter (matches_kind p capture) (legal_from p first) ≡ filter (matches_kind p capture) (legal_from p k)) there (jump p capture (end - first) first (omega arith) (subst (λ (k : ℕ). HasNoneMatching p capture first k) (sym there) none))

-- a code that matches comes first, followed by those above it
pub matching_found : (p : Shogi) (capture : Bool) (code : ℕ) → code < MOVE_CODE_COUNT → is_matching p capture code ≡ true → filter (matches_kind p capture) (legal_from p code) ≡ code ∷ filter (matches_kind p capture) (legal_from p (code + 1))
matching_found p capture code h e =
    let both : (is_legal_code p code ≡ true) × (matches_kind p capture code ≡ true) = and_parts _ _ e in
    ap (filter (matches_kind p capture)) (legal_from_found p code h both.0) ∙ cond-true (matches_kind p capture code) _ _ both.1

-- no move of the kind lies above the last code
pub matching_end : (p : Shogi) (capture : Bool) (code : ℕ) → MOVE_CODE_COUNT ≤ code → filter (matches_kind p capture) (legal_from p code) ≡ []
matching_end p capture code h = ap (filter (matches_kind p capture)) (legal_from_end p code h)
