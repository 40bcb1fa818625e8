use Rattle.std.proofs.Common.{sym}
use Rattle.shogi_replies.proofs.PinLaws.{between_more}
use Rattle.shogi_replies.proofs.threats.squares_between.Goals as goal

pub directions-preserved : goal.directions-preserved
directions-preserved c = rw (c.bitor-between.ensures, c.bitand.ensures, c.in-Some.ensures.rest) (between_more c.args.from c.args.to c.in-Some.direction c.directions.between.bits c.ray.result.bits c.ray-in-Some.result.bits
    (rw (sym c.in-Some.ensures.some) at c.directions.invariant) c.in-Some.ensures.range c.ray.ensures.ray (rw c.opposite.ensures at c.ray-in-Some.ensures.ray))
