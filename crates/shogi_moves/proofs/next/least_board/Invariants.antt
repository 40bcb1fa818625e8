use Rattle.std.proofs.Common.{◌≡◌, ◌≤◌, ◌-◌}
use Rattle.shogi_core.specs.declared.moves.TheConstants.{FIRST_DROP}
use Rattle.shogi_moves.specs.LegalMoves.{legal_from}
use Rattle.shogi_moves.specs.Sweeps.{AreKept}
use Rattle.shogi_moves.proofs.next.least_board.Given as goal

abbrev pub invariant-squares : goal.invariant-squares
invariant-squares l = record {
  within : l.code ≤ FIRST_DROP;
  same : legal_from l.known.position.now l.fn.first ≡ legal_from l.known.position.now l.code;
  kept : AreKept l.known.position.now l.kept;
}

abbrev pub decreases-squares : goal.decreases-squares
decreases-squares l = FIRST_DROP - l.code
