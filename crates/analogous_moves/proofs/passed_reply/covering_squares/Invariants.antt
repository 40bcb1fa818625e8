use Rattle.std.proofs.Common.{◌≡◌, ◌<◌, ℕ, Some, true, false}
use Rattle.shogi_core.specs.Bits.{has_bit}
use Rattle.analogous_moves.specs.Analogies.{LeavesReplySquare}
use Rattle.analogous_moves.proofs.passed_reply.covering_squares.Given as goal

abbrev pub invariant-squares : goal.invariant-squares
invariant-squares l = record {
  among : (n : ℕ) → has_bit l.left n ≡ true → has_bit l.fn.squares.bits n ≡ true;
  leaves : (n : ℕ) → n < 81 → has_bit l.covered.bits n ≡ false → LeavesReplySquare l.fn.quiet_only l.board (Some l.fn.piece) n l.fn.squares.bits;
}

abbrev pub decreases-squares : goal.decreases-squares
decreases-squares l = l.left
