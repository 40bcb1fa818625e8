use Rattle.std.proofs.Common.{◌≡◌, ◌-◌, false}
use Rattle.shogi_core.specs.Attack.{slider_attacks_along}
use Rattle.shogi_core.specs.Below.{some_below}
use Rattle.shogi_core.proofs.attack.attacking_direction.Given as goal

abbrev pub invariant-directions : goal.invariant-directions
invariant-directions l = some_below l.left (slider_attacks_along l.board l.fn.by l.square) ≡ false

abbrev pub decreases-directions : goal.decreases-directions
decreases-directions l = 8 - l.left
