use Rattle.std.proofs.Common.{sym}
use Rattle.shogi_replies.proofs.EscapeLaws.{more_rays}
use Rattle.shogi_replies.proofs.escapes.squares_behind.Goals as goal

pub directions-preserved : goal.directions-preserved
directions-preserved c = rw (c.bitor-behind.ensures, c.bitand.ensures, c.ray.ensures.ray, c.ray-in-Some.ensures.ray, c.in-Some.ensures.rest)
    (more_rays c.args.from c.args.over c.in-Some.direction c.directions.behind.bits (rw (sym c.in-Some.ensures.some) at c.directions.invariant))
