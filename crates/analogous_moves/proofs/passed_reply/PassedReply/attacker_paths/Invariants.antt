use Rattle.std.proofs.Common.{◌≡◌, true}
use Rattle.shogi_core.specs.Bits.{has_bit}
use Rattle.analogous_moves.specs.Analogies.{ExposesOwnKing}
use Rattle.analogous_moves.specs.PassedReplies.{place_in}
use Rattle.analogous_moves.proofs.Sets.{OnRest}
use Rattle.analogous_moves.proofs.passed_reply.PassedReply.attacker_paths.Given as goal

abbrev pub invariant-ends : goal.invariant-ends
invariant-ends l = OnRest (λ n. has_bit l.fn.ends.bits n ≡ true) l.left (ExposesOwnKing (place_in l.self) l.kept_empty.bits l.from)

abbrev pub decreases-ends : goal.decreases-ends
decreases-ends l = l.left
