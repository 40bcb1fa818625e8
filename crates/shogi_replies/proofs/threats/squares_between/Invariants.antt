use Rattle.std.proofs.Common.{◌-◌}
use Rattle.shogi_replies.proofs.PinLaws.{HasBetweenBelow}
use Rattle.shogi_replies.proofs.threats.squares_between.Given as goal

abbrev pub invariant-directions : goal.invariant-directions
invariant-directions l = HasBetweenBelow l.fn.from l.fn.to l.left l.between.bits

abbrev pub decreases-directions : goal.decreases-directions
decreases-directions l = 8 - l.left
