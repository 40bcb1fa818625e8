use Rattle.std.proofs.Common.{◌≡◌, true, false}
use Rattle.shogi_core.specs.Bits.{has_bit}
use Rattle.shogi_moves.specs.Destinations.{is_own}
use Rattle.last_ply.specs.LastPly.{NoneScoresFrom, OnEach, OnOwn}
use Rattle.last_ply.proofs.frontier.FrontierNode.first_on_board.Given as goal

abbrev pub invariant-pieces : goal.invariant-pieces
invariant-pieces l = record {
  passed : OnOwn l.self.node.now.position (λ n. has_bit l.left n ≡ false → NoneScoresFrom l.self.node.now l.score n);
  within : OnEach l.left (λ n. is_own l.self.node.now.position n ≡ true);
}

abbrev pub decreases-pieces : goal.decreases-pieces
decreases-pieces l = l.left
