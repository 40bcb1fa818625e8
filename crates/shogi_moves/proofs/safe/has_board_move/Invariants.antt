use Rattle.std.proofs.Common.{◌≡◌, ◌*◌, ℕ}
use Rattle.shogi_core.specs.declared.moves.TheConstants.{SQUARE_CODES}
use Rattle.shogi_moves.specs.LegalMoves.{legal_from, legal_codes}
use Rattle.shogi_moves.proofs.LegalLaws.{HasPiecesFrom}
use Rattle.shogi_moves.proofs.safe.has_board_move.Given as goal

abbrev pub invariant-pieces : goal.invariant-pieces
invariant-pieces l = record {
  first : ℕ;
  pieces : HasPiecesFrom l.known.position.now l.left first;
  same : legal_codes l.known.position.now ≡ legal_from l.known.position.now (first * SQUARE_CODES);
}

abbrev pub decreases-pieces : goal.decreases-pieces
decreases-pieces l = l.left
