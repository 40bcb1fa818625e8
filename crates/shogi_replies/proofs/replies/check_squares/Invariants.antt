use Rattle.shogi_replies.proofs.CheckLaws.{ChecksWithin}
use Rattle.shogi_replies.proofs.replies.check_squares.Given as goal

abbrev pub invariant-kings : goal.invariant-kings
invariant-kings l = ChecksWithin l.p.cells l.fn.side l.fn.cell l.left l.checks.bits

abbrev pub decreases-kings : goal.decreases-kings
decreases-kings l = l.left
