use Rattle.shogi_replies.specs.ReplyInfo.{Aligns}
use Rattle.shogi_replies.proofs.replies.king_line_mask.Given as goal

abbrev pub invariant-kings : goal.invariant-kings
invariant-kings l = Aligns l.p.cells l.fn.side l.left l.lines.bits

abbrev pub decreases-kings : goal.decreases-kings
decreases-kings l = l.left
