use Rattle.std.proofs.Common.{◌≡◌, ◌≤ℤ◌, ◌<ℤ◌, true, false}
use Rattle.shogi_core.specs.Bits.{has_bit}
use Rattle.shogi_moves.specs.Destinations.{is_own}
use Rattle.last_ply.specs.LastPly.{NodeHasScore, OnEach, OnOwn, NodeScoresFromAtMost}
use Rattle.last_ply.proofs.frontier.FrontierNode.best_score.Given as goal

abbrev pub invariant-pieces : goal.invariant-pieces
invariant-pieces l = record {
  least : l.floor ≤ℤ l.best;
  all : OnOwn l.self.node.now.position (λ n. has_bit l.left n ≡ false → NodeScoresFromAtMost l.self.node.now l.best n);
  some : l.floor <ℤ l.best → NodeHasScore l.self.node.now l.best;
  within : OnEach l.left (λ n. is_own l.self.node.now.position n ≡ true);
}

abbrev pub decreases-pieces : goal.decreases-pieces
decreases-pieces l = l.left
