-- A drop discovers nothing: it attacks the other king with the dropped piece or not at all.
use Rattle.std.proofs.Common.{◌≡◌, ℕ, ◌<◌, ◌⊎◌, Bool, true, false, None, refl, sym, ◌∙◌, arith, inl, inr, length, subst, get_or-set_same, get_or-set_other}
use Rattle.std.specs.Prelude.{◌||◌}
use Rattle.std.proofs.lemmas.Bool.{cases_eq, both_ways, false_from_ne_true}
use Rattle.shogi_core.specs.declared.piece.Color.{Color}
use Rattle.shogi_core.specs.declared.piece.Color.TheVariants.{Black, White}
use Rattle.shogi_core.specs.declared.piece.Kind.{Kind}
use Rattle.shogi_core.specs.declared.piece.Kind.TheVariants as kinds
use Rattle.shogi_core.specs.declared.moves.Move.TheVariants.{Drop}
use Rattle.shogi_core.specs.declared.piece.Role.TheVariants.{Pawn}
use Rattle.shogi_core.specs.Attack.{in_check}
use Rattle.shogi_core.specs.Bits.{has_bit}
use Rattle.shogi_core.specs.Validity.{IsValid}
use Rattle.shogi_core.proofs.Faults.{faultless_from}
use Rattle.shogi_core.specs.Cell.{is_king, HasNoKing, HasNoOtherKing}
use Rattle.shogi_core.specs.Movement.{Cells, piece_at, reaches, has_step, leads, up, down}
use Rattle.shogi_core.specs.Pieces.{opponent_of}
use Rattle.shogi_core.specs.Position.{Shogi}
use Rattle.shogi_core.specs.Lines.{back}
use Rattle.shogi_core.specs.declared.offset.Offset.{Offset}
use Rattle.shogi_core.proofs.Discovered.{check_was_but}
use Rattle.shogi_core.proofs.SeenLaws.{leads_back}
use Rattle.shogi_moves.specs.After.{cells_after, dropped}
use Rattle.shogi_moves.specs.Legal.{is_pawn_drop_mate}

pub no_king : (side : Color) (kind : Kind) → is_king (opponent_of side) (dropped side kind) ≡ false
no_king side kind = grind arith

module _ (cells : Cells) (side : Color) (kind : Kind) (to : ℕ) (len : length cells ≡ 81) (ht : to < 81) where
  pub look : (x : ℕ) → ((x ≡ to) × (piece_at (cells_after cells side (Drop kind to)) x ≡ dropped side kind)) ⊎ (piece_at (cells_after cells side (Drop kind to)) x ≡ piece_at cells x)
  look x = grind (arith, cases_eq x to, get_or-set_same, get_or-set_other)

  pub drop_shut : in_check cells (opponent_of side) ≡ false → ((k : ℕ) → k < 81 → is_king (opponent_of side) (piece_at (cells_after cells side (Drop kind to)) k) ≡ true → reaches (cells_after cells side (Drop kind to)) to k ≡ false)
      → in_check (cells_after cells side (Drop kind to)) (opponent_of side) ≡ false
  drop_shut safe short =
      check_was_but cells (cells_after cells side (Drop kind to)) (λ x. ⊥)
      (λ x e. grind (arith, look x))
      (opponent_of side)
      (λ a e. elim (look a) [ inl there ↦ inr (λ k h king. rw there.0 (short k h king)) | inr same ↦ inl (sym same) ])
      (λ k e. grind (arith, look k, no_king side kind))
      (λ x left. absurd left)
      safe

-- a dropped pawn that attacks no king does not mate
pub non_mating_pawn : (p : Shogi) (to : ℕ) → length p.cells ≡ 81 → to < 81 → in_check p.cells (opponent_of p.side) ≡ false
    → ((k : ℕ) → k < 81 → is_king (opponent_of p.side) (piece_at (cells_after p.cells p.side (Drop kinds.Pawn to)) k) ≡ true → reaches (cells_after p.cells p.side (Drop kinds.Pawn to)) to k ≡ false)
    → is_pawn_drop_mate p (Drop kinds.Pawn to) ≡ false
non_mating_pawn p to len ht safe short = rw (drop_shut p.cells p.side kinds.Pawn to len ht safe short) refl

step_alone : (a : Bool) → (a || false) ≡ a
step_alone a = grind arith

pawn_reaches : (cells : Cells) (side : Color) (to k : ℕ) → length cells ≡ 81 → to < 81 → reaches (cells_after cells side (Drop kinds.Pawn to)) to k ≡ has_step (record { color = side; role = Pawn }) to k
unfolding reaches
pawn_reaches cells side to k len ht = rw (get_or-set_same cells to (dropped side kinds.Pawn) None (omega arith)) (step_alone (has_step (record { color = side; role = Pawn }) to k))

step_back : (o : Offset) (n k : ℕ) → n < 81 → (leads 1 o n k || false) ≡ true → (leads 1 (back o) k n || false) ≡ true
step_back o n k h e = step_alone (leads 1 (back o) k n) ∙ leads_back o n k h (sym (step_alone (leads 1 o n k)) ∙ e)

-- a pawn of the other side on the king's square would step to the square from which a pawn attacks the king
pub pawn_back : (side : Color) (n k : ℕ) → n < 81 → has_step (record { color = side; role = Pawn }) n k ≡ true → has_step (record { color = opponent_of side; role = Pawn }) k n ≡ true
pawn_back Black n k h e = step_back up n k h e
pawn_back White n k h e = step_back down n k h e

-- a king of the other side after the drop was one before it
old_king : (p : Shogi) (to : ℕ) → length p.cells ≡ 81 → to < 81 → (k : ℕ) → is_king (opponent_of p.side) (piece_at (cells_after p.cells p.side (Drop kinds.Pawn to)) k) ≡ true → is_king (opponent_of p.side) (piece_at p.cells k) ≡ true
old_king p to len ht k e = grind (arith, look p.cells p.side kinds.Pawn to len ht k, no_king p.side kinds.Pawn)

-- a pawn mates a king only from the square to which a pawn on the king's square would step
pub far_pawn : (p : Shogi) (to king faces : ℕ) → IsValid p → to < 81 → HasNoOtherKing p.cells (opponent_of p.side) king → ((n : ℕ) → n < 81 → has_bit faces n ≡ has_step (record { color = opponent_of p.side; role = Pawn }) king n) → has_bit faces to ≡ false → is_pawn_drop_mate p (Drop kinds.Pawn to) ≡ false
far_pawn p to king faces v ht lone bits out = non_mating_pawn p to v.cells_fit ht (faultless_from p v.no_fault).shut (λ k h crown.
    pawn_reaches p.cells p.side to k v.cells_fit ht
    ∙ false_from_ne_true (has_step (record { color = p.side; role = Pawn }) to k) (λ step. elim (cases_eq k king) [
      | inl same ↦ both_ways (has_bit faces to) out (bits to ht ∙ subst (λ (j : ℕ). has_step (record { color = opponent_of p.side; role = Pawn }) j to ≡ true) same (pawn_back p.side to k ht step))
      | inr other ↦ both_ways (is_king (opponent_of p.side) (piece_at p.cells k)) (lone k h other) (old_king p to v.cells_fit ht k crown)
    ]))

pub no_mate : (p : Shogi) (to : ℕ) → IsValid p → to < 81 → HasNoKing p.cells (opponent_of p.side) → is_pawn_drop_mate p (Drop kinds.Pawn to) ≡ false
no_mate p to v ht none = non_mating_pawn p to v.cells_fit ht (faultless_from p v.no_fault).shut (λ k h crown. absurd (both_ways (is_king (opponent_of p.side) (piece_at p.cells k)) (none k h) (old_king p to v.cells_fit ht k crown)))

pub ruleset facing = (far_pawn, no_mate)
