use Rattle.std.proofs.Common.{◌≡◌, true, false}
use Rattle.shogi_core.specs.Bits.{has_bit}
use Rattle.shogi_moves.specs.Destinations.{is_own}
use Rattle.last_ply.specs.LastPly.{LeaveSomeFrom, OnEach, OnOwn}
use Rattle.last_ply.proofs.mates.MateSearch.has_board_mate.Given as goal

abbrev pub invariant-pieces : goal.invariant-pieces
invariant-pieces l = record {
  all : OnOwn l.self.frontier.node.now.position (λ n. has_bit l.left n ≡ false → LeaveSomeFrom l.self.frontier.node.now.position n);
  within : OnEach l.left (λ n. is_own l.self.frontier.node.now.position n ≡ true);
}

abbrev pub decreases-pieces : goal.decreases-pieces
decreases-pieces l = l.left
