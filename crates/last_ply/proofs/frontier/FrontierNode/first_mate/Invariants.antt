use Rattle.std.proofs.Common.{◌≡◌, length}
use Rattle.last_ply.specs.LastPly.{LeavesNone}
use Rattle.last_ply.proofs.Passing.{HasPassed}
use Rattle.last_ply.proofs.frontier.FrontierNode.first_mate.Given as goal

abbrev pub invariant-moves : goal.invariant-moves
invariant-moves l = record {
  position : l.walk.position ≡ l.self.node.now.position;
  passed : HasPassed l.self.node.now.position (LeavesNone l.self.node.now.position) l.walk.codes;
}

abbrev pub decreases-moves : goal.decreases-moves
decreases-moves l = length l.walk.codes
