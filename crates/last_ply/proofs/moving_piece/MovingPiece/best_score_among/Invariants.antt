use Rattle.std.proofs.Common.{bit_and, ◌≤ℤ◌, ◌<ℤ◌}
use Rattle.last_ply.specs.LastPly.{NodeHasScore, OnRest, ScoresToAtMost}
use Rattle.last_ply.proofs.moving_piece.MovingPiece.best_score_among.Given as goal

abbrev pub invariant-ends : goal.invariant-ends
invariant-ends l = record {
  least : l.floor ≤ℤ l.best;
  all : OnRest (bit_and l.self.targets.bits l.fn.squares.bits) l.left (λ n. ScoresToAtMost l.self.frontier.now.node.now.position l.self.frontier.now.node.now.eval l.best l.self.from n l.promote);
  some : l.floor <ℤ l.best → NodeHasScore l.self.frontier.now.node.now l.best;
}

abbrev pub decreases-ends : goal.decreases-ends
decreases-ends l = l.left
