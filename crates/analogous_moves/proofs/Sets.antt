-- Sets of squares visited one by one.
use Rattle.std.proofs.Common.{◌≡◌, ◌≢◌, ℕ, ◌-◌, ◌^◌, ◌<◌, true, false, not, Some, refl, sym, subst, ◌∙◌, inl, inr, arith, bit_and, set}
use Rattle.std.specs.Prelude.{Bool, ◌&&◌, ◌==◌, ◌||◌}
use Rattle.std.proofs.lemmas.Bool.{and_from, and_parts, both_ways, cases_Bool, cases_eq, cases_lt, eq-eqb, false_from_ne_true, true_from_ne_false, ne_eqb, not-true, not_from_false, or_parts}
use Rattle.shogi_core.proofs.LineBits.{has_bit-not}
use Rattle.std.proofs.lemmas.Nat.Bits.{bit_at_ones}
use Rattle.shogi_core.specs.declared.piece.Piece.{Piece}
use Rattle.shogi_core.specs.Bits.{has_bit}
use Rattle.shogi_core.specs.Sets.{IsSifted}
use Rattle.shogi_core.specs.Movement.{Cells, cell_reaches}
use Rattle.shogi_core.specs.Pieces.{opponent_of}
use Rattle.shogi_core.proofs.BitLaws.{has_bit-above, has_bit-and}
use Rattle.analogous_moves.specs.Analogies.{LeavesReplySquare}
use Rattle.shogi_replies.proofs.CheckLaws.{reach_both_ways}

pub has_bit-all : (n : ℕ) → n < 81 → has_bit (2 ^ 81 - 1) n ≡ true
unfolding has_bit
has_bit-all n h = eq-eqb _ 1 (bit_at_ones 81 n h)

-- a square of the first set and not of the second
pub out_parts : (a b n : ℕ) → b < 2 ^ 81 → n < 81 → has_bit (bit_and a (2 ^ 128 - 1 - b)) n ≡ true → (has_bit a n ≡ true) × (has_bit b n ≡ false)
out_parts a b n fits h on =
    let both : (has_bit a n ≡ true) × (has_bit (2 ^ 128 - 1 - b) n ≡ true) = and_parts _ _ (sym (has_bit-and a (2 ^ 128 - 1 - b) n) ∙ on) in
    (both.0, not-true _ (sym (has_bit-not b n (omega (arith, fits)) (omega (arith, h))) ∙ both.1))

pub not_false : (b : Bool) → not b ≡ false → b ≡ true
not_false true e = refl
not_false false e = absurd (cc)

-- ---- squares from which a piece covers others

-- from a square outside the covering set, one of the squares is not attacked
pub covers_next : (quiet_only : Bool) (cells : Cells) (piece : Piece) (squares covered targets closing square : ℕ) → ((n : ℕ) → n < 81 → has_bit covered n ≡ false → LeavesReplySquare quiet_only cells (Some piece) n squares) → square < 81 → has_bit squares square ≡ true
    → ((n : ℕ) → n < 81 → has_bit targets n ≡ cell_reaches cells (Some (record { color = opponent_of piece.color; role = piece.role })) square n) → ((n : ℕ) → has_bit closing n ≡ false → (has_bit targets n ≡ false) × (quiet_only ≡ true → square ≢ n)) → (n : ℕ) → n < 81 → has_bit (bit_and covered closing) n ≡ false → LeavesReplySquare quiet_only cells (Some piece) n squares
covers_next quiet_only cells piece squares covered targets closing square leaves low set reach closes n h out = elim (cases_Bool (has_bit covered n)) [
  | inr before ↦ leaves n h before
  | inl was ↦ (
      let off = closes n (false_from_ne_true _ (λ on. both_ways (has_bit (bit_and covered closing) n) out (has_bit-and covered closing n ∙ and_from _ _ was on))) in
      (square, low, set, false_from_ne_true _ (λ r. both_ways (has_bit targets n) off.0 (reach n h ∙ reach_both_ways cells piece n square h r)), off.1))
]

-- a square outside the targets and their origin is neither
pub off_closing : (quiet_only : Bool) (targets closing square n : ℕ) → ((i : ℕ) → has_bit closing i ≡ (has_bit targets i || i == square)) → has_bit closing n ≡ false → (has_bit targets n ≡ false) × (quiet_only ≡ true → square ≢ n)
off_closing quiet_only targets closing square n bits out =
    let both : (has_bit targets n ≡ false) × ((n == square) ≡ false) = or_parts (has_bit targets n) (n == square) (sym (bits n) ∙ out) in
    (both.0, λ only at. both_ways (n == square) both.1 (eq-eqb n square (sym at)))

-- ---- squares visited one by one

-- the fact holds for each square visited
abbrev pub OnRest : (ℕ → Type 0) → ℕ → (ℕ → Type 0) → Type 0
OnRest among left fact = (n : ℕ) → n < 81 → among n → has_bit left n ≡ false → fact n

-- one square more, if the fact before implies the fact after
pub one_more : (among : ℕ → Type 0) (left next square : ℕ) (old new : ℕ → Type 0) → OnRest among left old → ((i : ℕ) → has_bit next i ≡ (has_bit left i && not (i == square))) → ((n : ℕ) → old n → new n) → new square → OnRest among next new
one_more among left next square old new all bits up here n h e out = elim (cases_eq n square) [
  | inl same ↦ subst new (sym same) here
  | inr other ↦ up n (all n h e (false_from_ne_true (has_bit left n) (λ still. both_ways (has_bit next n) out (bits n ∙ and_from _ _ still (not_from_false _ (ne_eqb n square other))))))
]

-- a fact that a call ensures when it answers yes holds of each square kept
pub sifted_fact : (post : ℕ → Bool → Type 0) (squares kept : ℕ) (fact : ℕ → Type 0) → IsSifted post squares kept → ((n : ℕ) → post n true → fact n) → (n : ℕ) → n < 81 → has_bit kept n ≡ true → fact n
sifted_fact post squares kept fact s says n h set = elim (cases_Bool (has_bit squares n)) [
  | inl on ↦ (let tried = s.tried n h on in says n (subst (post n) (sym tried.2 ∙ set) tried.1))
  | inr off ↦ absurd (both_ways (has_bit kept n) (s.out n h off) set)
]

-- a fact that a call ensures when it answers no holds of each square dropped
pub sifted_rest : (post : ℕ → Bool → Type 0) (squares kept : ℕ) (fact : ℕ → Type 0) → IsSifted post squares kept → ((n : ℕ) → post n false → fact n) → (n : ℕ) → n < 81 → has_bit squares n ≡ true → has_bit kept n ≡ false → fact n
sifted_rest post squares kept fact s says n h on out =
    let tried = s.tried n h on in
    says n (subst (post n) (sym tried.2 ∙ out) tried.1)

-- squares kept are among the given ones
pub sifted_among : (post : ℕ → Bool → Type 0) (squares kept : ℕ) → kept < 2 ^ 81 → IsSifted post squares kept → (n : ℕ) → has_bit kept n ≡ true → has_bit squares n ≡ true
sifted_among post squares kept fits s n set = true_from_ne_false (has_bit squares n) (λ off. both_ways (has_bit kept n) (elim (cases_lt n 81) [ inl h ↦ s.out n h off | inr above ↦ has_bit-above kept 81 n fits above ]) set)
