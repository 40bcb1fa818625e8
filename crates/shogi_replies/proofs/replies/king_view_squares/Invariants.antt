use Rattle.shogi_replies.specs.ReplyInfo.{Sees}
use Rattle.shogi_replies.proofs.replies.king_view_squares.Given as goal

abbrev pub invariant-kings : goal.invariant-kings
invariant-kings l = Sees l.p.cells l.fn.side l.left l.king_view.bits

abbrev pub decreases-kings : goal.decreases-kings
decreases-kings l = l.left
