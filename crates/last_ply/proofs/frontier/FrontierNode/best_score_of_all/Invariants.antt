use Rattle.std.proofs.Common.{◌≡◌, length, ◌≤ℤ◌, ◌<ℤ◌}
use Rattle.last_ply.specs.LastPly.{score_at, NodeHasScore}
use Rattle.last_ply.proofs.Passing.{HasPassed}
use Rattle.last_ply.proofs.frontier.FrontierNode.best_score_of_all.Given as goal

abbrev pub invariant-moves : goal.invariant-moves
invariant-moves l = record {
  position : l.walk.position ≡ l.self.node.now.position;
  least : l.floor ≤ℤ l.best;
  some : l.floor <ℤ l.best → NodeHasScore l.self.node.now l.best;
  passed : HasPassed l.self.node.now.position (λ n. l.best <ℤ score_at l.self.node.now.position l.self.node.now.eval n) l.walk.codes;
}

abbrev pub decreases-moves : goal.decreases-moves
decreases-moves l = length l.walk.codes
