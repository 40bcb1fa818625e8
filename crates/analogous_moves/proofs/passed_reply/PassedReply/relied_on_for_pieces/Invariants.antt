use Rattle.analogous_moves.specs.PassedReplies.{IsOwnIn, PieceHasNoThreatIn, PieceGetsNoThreatsIn}
use Rattle.analogous_moves.proofs.Sets.{OnRest}
use Rattle.analogous_moves.proofs.passed_reply.PassedReply.relied_on_for_pieces.Given as goal

abbrev pub invariant-pieces : goal.invariant-pieces
invariant-pieces l = record {
  no_threat : OnRest (IsOwnIn l.self) l.left (PieceHasNoThreatIn l.self l.kept_empty.bits);
  relied : OnRest (IsOwnIn l.self) l.left (λ n. PieceGetsNoThreatsIn l.self n l.pieces.bits);
}

abbrev pub decreases-pieces : goal.decreases-pieces
decreases-pieces l = l.left
