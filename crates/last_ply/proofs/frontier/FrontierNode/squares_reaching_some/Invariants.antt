use Rattle.last_ply.specs.LastPly.{HasReachers, OnRest}
use Rattle.last_ply.proofs.frontier.FrontierNode.squares_reaching_some.Given as goal

abbrev pub invariant-squares : goal.invariant-squares
invariant-squares l = OnRest l.fn.squares.bits l.left (HasReachers l.self.node.now.position.cells l.found.bits)

abbrev pub decreases-squares : goal.decreases-squares
decreases-squares l = l.left
