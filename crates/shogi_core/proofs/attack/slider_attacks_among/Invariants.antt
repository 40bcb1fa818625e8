use Rattle.std.proofs.Common.{◌≡◌, ◌-◌, false}
use Rattle.shogi_core.specs.Attack.{slider_attacks_along, ShowsSnipers}
use Rattle.shogi_core.specs.Below.{some_below}
use Rattle.shogi_core.specs.Movement.{Cells}
use Rattle.shogi_core.specs.declared.piece.Color.{Color}
use Rattle.shogi_core.proofs.attack.slider_attacks_among.Given as goal

abbrev pub invariant-directions : goal.invariant-directions
invariant-directions l = (color : Color) (seen : Cells) → ShowsSnipers l.board l.square l.snipers.bits l.occupied.bits color seen → some_below l.left (slider_attacks_along seen color l.square) ≡ false

abbrev pub decreases-directions : goal.decreases-directions
decreases-directions l = 8 - l.left
