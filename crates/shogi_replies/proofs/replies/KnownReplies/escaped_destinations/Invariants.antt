use Rattle.shogi_moves.specs.Origins.{move_to}
use Rattle.shogi_replies.specs.ReplyInfo.{IsQuietlyAnswered}
use Rattle.shogi_replies.proofs.EscapeLaws.{Gathers}
use Rattle.shogi_replies.proofs.replies.KnownReplies.escaped_destinations.Given as goal

abbrev pub invariant-squares : goal.invariant-squares
invariant-squares l = Gathers l.fn.destinations.bits l.left l.answered.bits (λ n. IsQuietlyAnswered l.self.position.now (move_to l.origin n))

abbrev pub decreases-squares : goal.decreases-squares
decreases-squares l = l.left
