use Rattle.last_ply.specs.LastPly.{OnRest, Outside, TakesLittle}
use Rattle.last_ply.proofs.frontier.FrontierNode.takers_above.Given as goal

abbrev pub invariant-victims : goal.invariant-victims
invariant-victims l = OnRest l.fn.victims.bits l.left (λ t. Outside l.squares.bits (TakesLittle l.self.node.now l.floor t))

abbrev pub decreases-victims : goal.decreases-victims
decreases-victims l = l.left
