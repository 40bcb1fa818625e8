use Rattle.shogi_core.specs.Codes.{code_of}
use Rattle.shogi_moves.specs.Destinations.{IsWithin}
use Rattle.shogi_moves.specs.Origins.{move_to}
use Rattle.last_ply.specs.LastPly.{LeavesSome, OnRest}
use Rattle.last_ply.proofs.mates.MateSearch.mates_among.Given as goal

abbrev pub invariant-ends : goal.invariant-ends
invariant-ends l = record {
  all : OnRest l.fn.ends.bits l.left (λ n. LeavesSome l.self.frontier.node.now.position (code_of (move_to l.origin n)));
  within : IsWithin l.left l.fn.ends.bits;
}

abbrev pub decreases-ends : goal.decreases-ends
decreases-ends l = l.left
