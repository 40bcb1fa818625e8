use Rattle.shogi_replies.proofs.ReplyLaws.{IsSifted}
use Rattle.shogi_replies.proofs.replies.free_moving_pieces.Given as goal

abbrev pub invariant-pieces : goal.invariant-pieces
invariant-pieces l = IsSifted l.p.cells l.fn.side l.fn.lines.bits l.left l.kept.bits l.ends.bits

abbrev pub decreases-pieces : goal.decreases-pieces
decreases-pieces l = l.left
