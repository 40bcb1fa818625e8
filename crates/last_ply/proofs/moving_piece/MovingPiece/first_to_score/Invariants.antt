use Rattle.last_ply.specs.LastPly.{NoneScoresAmong}
use Rattle.last_ply.proofs.moving_piece.MovingPiece.first_to_score.Given as goal

abbrev pub invariant-ends : goal.invariant-ends
invariant-ends l = NoneScoresAmong l.self.frontier.now.node.now l.score l.self.from l.left

abbrev pub decreases-ends : goal.decreases-ends
decreases-ends l = l.left
