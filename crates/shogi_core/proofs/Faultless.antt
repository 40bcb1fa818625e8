-- The rules that a position without a fault keeps, one by one.
use Rattle.std.specs.Prelude.{ℕ, ◌≡◌, ◌<◌, ◌≤◌, false, count_by}
use Rattle.shogi_core.specs.declared.piece.Color.{Color}
use Rattle.shogi_core.specs.declared.piece.Kind.{Kind}
use Rattle.shogi_core.specs.Pieces.{opponent_of, set_size}
use Rattle.shogi_core.specs.Position.{Shogi}
use Rattle.shogi_core.specs.Attack.{in_check}
use Rattle.shogi_core.specs.Cell.{is_king, is_immobile_on}
use Rattle.shogi_core.specs.Validity.{count_of, pawns_on_file}

-- a position with none of the five faults
pub record IsFaultless (p : Shogi) : Type 0 where
  pub counts : (kind : Kind) → count_of kind p.cells p.hands ≤ set_size kind
  pub kings : (color : Color) → count_by (is_king color) p.cells ≤ 1
  pub pawns : (color : Color) (file : ℕ) → file < 9 → pawns_on_file color file p.cells ≤ 1
  pub alive : (square : ℕ) → square < 81 → is_immobile_on p.cells square ≡ false
  pub shut : in_check p.cells (opponent_of p.side) ≡ false
