use Rattle.std.proofs.Common.{◌≡◌, true}
use Rattle.shogi_moves.specs.Destinations.{is_own}
use Rattle.last_ply.specs.LastPly.{OnEach}
use Rattle.last_ply.proofs.frontier.FrontierNode.has_quiet_move.Given as goal

abbrev pub invariant-pieces : goal.invariant-pieces
invariant-pieces l = OnEach l.left (λ n. is_own l.self.node.now.position n ≡ true)

abbrev pub decreases-pieces : goal.decreases-pieces
decreases-pieces l = l.left
