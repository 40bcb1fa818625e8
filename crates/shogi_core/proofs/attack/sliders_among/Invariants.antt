use Rattle.std.proofs.Common.{◌-◌}
use Rattle.shogi_core.specs.Attack.{TellsSlidersBelow}
use Rattle.shogi_core.proofs.attack.sliders_among.Given as goal

abbrev pub invariant-directions : goal.invariant-directions
invariant-directions l = TellsSlidersBelow l.board l.square l.snipers.bits l.occupied.bits l.left l.found.bits

abbrev pub decreases-directions : goal.decreases-directions
decreases-directions l = 8 - l.left
