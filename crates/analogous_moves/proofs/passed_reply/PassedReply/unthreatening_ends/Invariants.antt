use Rattle.std.proofs.Common.{◌≡◌, ℕ, true}
use Rattle.shogi_core.specs.Bits.{has_bit}
use Rattle.analogous_moves.proofs.PassedReplyLaws.{AreUnthreateningEndsFrom}
use Rattle.analogous_moves.proofs.Sets.{OnRest}
use Rattle.analogous_moves.proofs.passed_reply.PassedReply.unthreatening_ends.Given as goal

abbrev pub invariant-pieces : goal.invariant-pieces
invariant-pieces l = record {
  fine : OnRest (λ n. has_bit l.fn.pieces.bits n ≡ true) l.left (AreUnthreateningEndsFrom l.self l.before.cells l.kept.bits);
  among : (n : ℕ) → has_bit l.kept.bits n ≡ true → has_bit l.fn.ends.bits n ≡ true;
  within : (n : ℕ) → has_bit l.left n ≡ true → has_bit l.fn.pieces.bits n ≡ true;
}

abbrev pub decreases-pieces : goal.decreases-pieces
decreases-pieces l = l.left
