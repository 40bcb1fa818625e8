-- Moves that cannot leave the mover's king attacked.
use Rattle.std.proofs.Common.{◌≡◌, ◌≢◌, ℕ, ◌<◌, ◌⊎◌, Bool, true, false, refl, sym, subst, ◌∙◌, arith, inl, inr, Option, None, set, length, get_or-set_same, get_or-set_other, length-set, bit_or}
use Rattle.std.specs.Prelude.{is_none}
use Rattle.std.proofs.lemmas.Bool.{cases_eq, false_from_ne_true, both_ways, and_parts, or_parts}
use Rattle.shogi_core.specs.declared.piece.Color.{Color}
use Rattle.shogi_core.specs.declared.piece.Kind.{Kind}
use Rattle.shogi_core.specs.declared.piece.Piece.{Piece}
use Rattle.shogi_core.specs.declared.moves.Move.TheVariants.{Board, Drop}
use Rattle.shogi_core.specs.Attack.{in_check, is_attacked, is_open_king, StaysInCheck}
use Rattle.shogi_core.specs.Bits.{has_bit}
use Rattle.shogi_core.specs.Cell.{is_piece_of, is_king}
use Rattle.shogi_core.specs.Lines.{is_lined_with_king}
use Rattle.shogi_core.specs.Movement.{Cells, piece_at}
use Rattle.shogi_core.specs.Pieces.{opponent_of}
use Rattle.shogi_core.specs.Position.{Shogi}
use Rattle.shogi_core.proofs.Below.{some_below_no}
use Rattle.shogi_core.proofs.BitLaws.{has_bit-or}
use Rattle.shogi_core.proofs.Discovered.{check_was, attacked_was}
use Rattle.shogi_moves.specs.After.{cells_after, piece_moved, dropped}
use Rattle.shogi_moves.specs.CheckInfo.{IsCheckInfo}
use Rattle.shogi_moves.proofs.MovedPieces.{is_king-piece_moved}

-- ---- a piece that moves

pub other_side : (side : Color) (cell : Option Piece) → is_piece_of side cell ≡ true → is_piece_of (opponent_of side) cell ≡ false
other_side side cell e = grind arith

pub is_piece_of-piece_moved : (side : Color) (promote : Bool) (cell : Option Piece) → is_piece_of side (piece_moved promote cell) ≡ is_piece_of side cell
is_piece_of-piece_moved side promote cell = grind arith

pub own_some : (side : Color) (cell : Option Piece) → is_piece_of side cell ≡ true → is_none cell ≡ false
own_some side cell e = grind arith

-- ---- a piece more on the board

-- a piece put on a square opens no line on a board that differs only there
pub filled : (old cells : Cells) (side : Color) (to : ℕ) (v : Option Piece) → length cells ≡ 81 → to < 81 → ((x : ℕ) → x ≢ to → piece_at cells x ≡ piece_at old x) → is_piece_of side v ≡ true → is_king side v ≡ false → in_check old side ≡ false → in_check (set cells to v) side ≡ false
filled old cells side to v len ht beside own non_promoting safe =
    check_was old (set cells to v) (λ x. ⊥)
    (λ x e. grind (arith, look x, own_some side v own))
    side
    (λ x e. grind (arith, look x, other_side side v own))
    (λ x e. grind (arith, look x))
    (λ x left. absurd left)
    safe
  where
    look : (x : ℕ) → (piece_at (set cells to v) x ≡ v) ⊎ (piece_at (set cells to v) x ≡ piece_at old x)
    look x = grind (arith, cases_eq x to, beside x, get_or-set_same, get_or-set_other)

-- ---- in check

apart : (both some more n : ℕ) → both ≡ bit_or some more → has_bit both n ≡ false → (has_bit some n ≡ false) × (has_bit more n ≡ false)
apart both some more n is out = or_parts _ _ (sym (has_bit-or some more n) ∙ rw is at out)

-- the info of kings and evasion squares is right
pub check_info_answers : (p : Shogi) (kings answers both : ℕ) → in_check p.cells p.side ≡ true → both ≡ bit_or kings answers → ((n : ℕ) → n < 81 → has_bit kings n ≡ is_king p.side (piece_at p.cells n)) → StaysInCheck answers p.cells p.side
    → IsCheckInfo p true both
check_info_answers p kings answers both e is k stays = record {
  check = sym e;
  kings = λ n h out. sym (k n h) ∙ (apart both kings answers n is out).0;
  stays = λ _ new to h out. stays new to h (apart both kings answers to is out).1;
  free = λ c. absurd (cc);
}

-- ---- out of check

-- the info of kings and pieces that may be pinned is right
pub check_info_unpinned : (p : Shogi) (kings pinned both : ℕ) → in_check p.cells p.side ≡ false → both ≡ bit_or kings pinned → ((n : ℕ) → n < 81 → has_bit kings n ≡ is_king p.side (piece_at p.cells n))
    → ((n : ℕ) → n < 81 → has_bit pinned n ≡ false → is_piece_of p.side (piece_at p.cells n) ≡ true → in_check (set p.cells n None) p.side ≡ false)
    → IsCheckInfo p false both
check_info_unpinned p kings pinned both safe is k free = record {
  check = sym safe;
  kings = λ n h out. sym (k n h) ∙ (apart both kings pinned n is out).0;
  stays = λ c. absurd (cc);
  free = λ c n h out own. free n h (apart both kings pinned n is out).1 own;
}

module _ (cells : Cells) (side : Color) (from to : ℕ) (v : Option Piece) (len : length cells ≡ 81) (hf : from < 81) (ht : to < 81) where
  pub look : (x : ℕ) → ((x ≡ to) × (piece_at (set (set cells from None) to v) x ≡ v)) ⊎ (((x ≡ from) × (piece_at (set (set cells from None) to v) x ≡ None)) ⊎ (piece_at (set (set cells from None) to v) x ≡ piece_at cells x))
  look x = grind (arith, cases_eq x to, cases_eq x from, get_or-set_same, get_or-set_other, length-set)

  pub quiet_set : is_piece_of side v ≡ true → is_king side v ≡ false → is_lined_with_king cells side from ≡ false → in_check cells side ≡ false → in_check (set (set cells from None) to v) side ≡ false
  quiet_set own non_promoting free safe =
      check_was cells (set (set cells from None) to v) (λ x. x ≡ from)
      (λ x e. grind (arith, look x, own_some side v own))
      side
      (λ a e. grind (arith, look a, other_side side v own))
      (λ k e. grind (arith, look k))
      (λ x left. subst (λ (y : ℕ). is_lined_with_king cells side y ≡ false) (sym left) free)
      safe

  -- a move of another piece than a king to a square outside the mask leaves the check
  pub stays_set : (m : ℕ) → StaysInCheck m cells side → has_bit m to ≡ false → is_piece_of side (piece_at cells from) ≡ true → is_king side (piece_at cells from) ≡ false → is_king side (piece_at cells to) ≡ false → in_check (set (set cells from None) to v) side ≡ true
  stays_set m stays out own non_promoting bare =
      stays (set (set cells from None) to v) to ht out
      (record {
        empty = λ x e. grind (arith, look x);
        kept = λ a off e. grind (arith, look a, other_side side (piece_at cells from) own);
      })
      (λ k e. grind (arith, look k))

  -- the only king is attacked after its move only if it would be with its square left empty
  pub king_set : is_piece_of side v ≡ true → ((x : ℕ) → x < 81 → x ≢ from → is_king side (piece_at cells x) ≡ false) → is_attacked (set cells from None) (opponent_of side) to ≡ false → in_check (set (set cells from None) to v) side ≡ false
  unfolding in_check
  king_set own lone safe = some_below_no 81 (is_open_king (set (set cells from None) to v) side) (λ k l. false_from_ne_true (is_open_king (set (set cells from None) to v) side k) (λ e.
      let parts : (is_king side (piece_at (set (set cells from None) to v) k) ≡ true) × (is_attacked (set (set cells from None) to v) (opponent_of side) k ≡ true) = and_parts _ _ e in
      elim (cases_eq k to) [
        | inl there ↦ both_ways (is_attacked (set (set cells from None) to v) (opponent_of side) to)
            (attacked_was (set cells from None) (set (set cells from None) to v) (λ x. ⊥)
            (λ x f. grind (arith, cases_eq x to, filled_at x, own_some side v own, get_or-set_other (set cells from None) to x v None))
            (opponent_of side) to
            (λ a f. grind (arith, cases_eq a to, filled_at a, other_side side v own, get_or-set_other (set cells from None) to a v None))
            (λ x left. absurd left)
            safe)
            (subst (λ (y : ℕ). is_attacked (set (set cells from None) to v) (opponent_of side) y ≡ true) there parts.1)
        | inr other ↦ grind (arith, parts.0, cases_eq k from, lone k l, get_or-set_other (set cells from None) to k v None other, get_or-set_same cells from None None, get_or-set_other cells from k None None)
      ]))
    where
      filled_at : (x : ℕ) → x ≡ to → piece_at (set (set cells from None) to v) x ≡ v
      filled_at x at = rw at (get_or-set_same (set cells from None) to v None (omega (arith, length-set cells from None)))

pub quiet_board : (cells : Cells) (side : Color) (from to : ℕ) (promote : Bool) → length cells ≡ 81 → from < 81 → to < 81 → is_piece_of side (piece_at cells from) ≡ true → is_king side (piece_at cells from) ≡ false
    → is_lined_with_king cells side from ≡ false → in_check cells side ≡ false → in_check (cells_after cells side (Board from to promote)) side ≡ false
quiet_board cells side from to promote len hf ht own non_promoting free safe =
    quiet_set cells side from to (piece_moved promote (piece_at cells from)) len hf ht (is_piece_of-piece_moved side promote (piece_at cells from) ∙ own) (is_king-piece_moved side promote (piece_at cells from) ∙ non_promoting) free safe

-- ---- a piece that is dropped

pub dropped_of : (side : Color) (kind : Kind) → is_piece_of side (dropped side kind) ≡ true
dropped_of side kind = grind arith

pub dropped_plain : (side : Color) (kind : Kind) → is_king side (dropped side kind) ≡ false
dropped_plain side kind = grind arith

pub quiet_drop : (cells : Cells) (side : Color) (kind : Kind) (to : ℕ) → length cells ≡ 81 → to < 81 → in_check cells side ≡ false → in_check (cells_after cells side (Drop kind to)) side ≡ false
quiet_drop cells side kind to len ht safe = filled cells cells side to (dropped side kind) len ht (λ x other. refl) (dropped_of side kind) (dropped_plain side kind) safe

-- a drop leaves a check for one kind exactly if it does for another
pub same_drop : (cells : Cells) (side : Color) (a b : Kind) (to : ℕ) → length cells ≡ 81 → to < 81 → in_check (cells_after cells side (Drop a to)) side ≡ in_check (cells_after cells side (Drop b to)) side
same_drop cells side a b to len ht = grind (arith, over a b, over b a)
  where
    over : (a b : Kind) → in_check (cells_after cells side (Drop a to)) side ≡ false → in_check (cells_after cells side (Drop b to)) side ≡ false
    over a b safe = filled (set cells to (dropped side a)) cells side to (dropped side b) len ht (λ x other. sym (get_or-set_other cells to x (dropped side a) None other)) (dropped_of side b) (dropped_plain side b) safe

-- a drop outside the mask does not answer a check
pub stays_drop : (m : ℕ) (cells : Cells) (side : Color) (kind : Kind) (to : ℕ) → StaysInCheck m cells side → has_bit m to ≡ false → to < 81 → is_none (piece_at cells to) ≡ true → in_check (cells_after cells side (Drop kind to)) side ≡ true
stays_drop m cells side kind to stays out ht free =
    stays (set cells to (dropped side kind)) to ht out
    (record {
      empty = λ x e. grind (arith, cases_eq x to, get_or-set_other cells to x (dropped side kind) None);
      kept = λ a off e. get_or-set_other cells to a (dropped side kind) None off;
    })
    (λ k e. grind (arith, cases_eq k to, get_or-set_other cells to k (dropped side kind) None))

-- ---- consequences of check info for a move

-- a piece that is not pinned leaves no check, wherever it goes
pub unpinned_safe : (p : Shogi) (checked : Bool) (pinned_or_king from to : ℕ) (promote : Bool) → IsCheckInfo p checked pinned_or_king → length p.cells ≡ 81 → from < 81 → to < 81 → is_piece_of p.side (piece_at p.cells from) ≡ true → checked ≡ false → has_bit pinned_or_king from ≡ false
    → in_check (cells_after p.cells p.side (Board from to promote)) p.side ≡ false
unpinned_safe p checked pinned_or_king from to promote g len hf ht own unpinned off =
    filled (set p.cells from None) (set p.cells from None) p.side to (piece_moved promote (piece_at p.cells from)) (length-set p.cells from None ∙ len) ht (λ x other. refl) (is_piece_of-piece_moved p.side promote (piece_at p.cells from) ∙ own) (is_king-piece_moved p.side promote (piece_at p.cells from) ∙ g.kings from hf off) (g.free unpinned from hf off own)
