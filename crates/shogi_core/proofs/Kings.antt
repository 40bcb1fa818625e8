-- A valid position has at most one king a side.
use Rattle.std.proofs.Common.{◌≡◌, ℕ, ◌<◌, ◌≤◌, Bool, true, false, None, not, refl, sym, ap, ◌∙◌, inl, inr, arith, length}
use Rattle.std.specs.Prelude.{◌==◌, ◌&&◌, count_by}
use Rattle.std.proofs.lemmas.Bool.{ne_eqb, both_ways, cases_lt, false_from_ne_true}
use Rattle.shogi_core.specs.declared.piece.Color.{Color}
use Rattle.shogi_core.specs.Bits.{has_bit}
use Rattle.shogi_core.specs.Cell.{is_king, HasNoKing, HasNoOtherKing}
use Rattle.shogi_core.specs.Movement.{Cells, piece_at}
use Rattle.shogi_core.specs.Position.{Shogi}
use Rattle.shogi_core.specs.Validity.{IsValid}
use Rattle.shogi_core.proofs.BitLaws.{has_bit-none}
use Rattle.shogi_core.proofs.Counting.{two_counted}
use Rattle.shogi_core.proofs.Faults.{faultless_from}

-- removing the only king of the mask leaves no other
pub lone_king : (cells : Cells) (side : Color) (kings rest from : ℕ) → ((n : ℕ) → n < 81 → has_bit kings n ≡ is_king side (piece_at cells n)) → ((i : ℕ) → has_bit rest i ≡ (has_bit kings i && not (i == from))) → rest ≡ 0 → HasNoOtherKing cells side from
lone_king cells side kings rest from b r none x h other =
    sym (b x h) ∙ go (has_bit kings x) (x == from) (ne_eqb x from other) (sym (r x) ∙ (ap (λ m. has_bit m x) none ∙ has_bit-none x))
  where
    go : (a e : Bool) → e ≡ false → (a && not e) ≡ false → a ≡ false
    go true e f h = absurd (both_ways (not e) h (ap not f))
    go false e f h = refl

-- in a valid position a king is the only one of its side
pub only_king : (p : Shogi) (side : Color) (k : ℕ) → IsValid p → k < 81 → is_king side (piece_at p.cells k) ≡ true → HasNoOtherKing p.cells side k
only_king p side k v low king x below other = false_from_ne_true (is_king side (piece_at p.cells x)) (λ crown. (
    let one : count_by (is_king side) p.cells ≤ 1 = (faultless_from p v.no_fault).kings side in
    let len : length p.cells ≡ 81 = v.cells_fit in
    elim (cases_lt x k) [
      | inl before ↦ (let two : 2 ≤ count_by (is_king side) p.cells = two_counted (is_king side) p.cells x k None before (omega arith) crown king in omega arith)
      | inr after ↦ (let two : 2 ≤ count_by (is_king side) p.cells = two_counted (is_king side) p.cells k x None (omega arith) (omega arith) king crown in omega arith)
    ]))

-- in a valid position a king of the mask is the side's only one
pub king_lone : (p : Shogi) (side : Color) (kings k : ℕ) → IsValid p → k < 81 → ((n : ℕ) → n < 81 → has_bit kings n ≡ is_king side (piece_at p.cells n)) → has_bit kings k ≡ true → HasNoOtherKing p.cells side k
king_lone p side kings k v low bits set = only_king p side k v low (sym (bits k low) ∙ set)

pub no_king : (p : Shogi) (side : Color) (kings : ℕ) → ((n : ℕ) → n < 81 → has_bit kings n ≡ is_king side (piece_at p.cells n)) → kings ≡ 0 → HasNoKing p.cells side
no_king p side kings bits none n h = sym (bits n h) ∙ (ap (λ (m : ℕ). has_bit m n) none ∙ has_bit-none n)

pub ruleset one_king = (king_lone, no_king)
