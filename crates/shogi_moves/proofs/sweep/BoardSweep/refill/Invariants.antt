use Rattle.std.proofs.Common.{◌≡◌, ◌<◌, ℕ, true}
use Rattle.shogi_core.specs.Bits.{has_bit}
use Rattle.shogi_core.specs.Cell.{is_piece_of}
use Rattle.shogi_core.specs.Movement.{piece_at}
use Rattle.shogi_moves.specs.Sweeps.{IsBoardSweep}
use Rattle.shogi_moves.proofs.CaptureLaws.{HasMatchingOn}
use Rattle.shogi_moves.proofs.sweep.BoardSweep.refill.Given as goal

abbrev pub invariant-squares : goal.invariant-squares
invariant-squares l = record {
  kept : IsBoardSweep l.p l.capture l.self;
  same : l.self.code ≡ l.fn.self.code;
  matching : HasMatchingOn l.p l.capture l.fn.self.code l.left;
  mine : (n : ℕ) → n < 81 → has_bit l.left n ≡ true → (l.fn.self.from < n) × (is_piece_of l.p.side (piece_at l.p.cells n) ≡ true);
}

abbrev pub decreases-squares : goal.decreases-squares
decreases-squares l = l.left
