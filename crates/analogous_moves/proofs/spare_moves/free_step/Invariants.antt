use Rattle.std.proofs.Common.{◌≡◌, ℕ, true}
use Rattle.shogi_core.specs.Bits.{has_bit}
use Rattle.analogous_moves.proofs.spare_moves.free_step.Given as goal

abbrev pub invariant-pieces : goal.invariant-pieces
invariant-pieces l = (n : ℕ) → has_bit l.left n ≡ true → has_bit l.fn.pieces.bits n ≡ true

abbrev pub decreases-pieces : goal.decreases-pieces
decreases-pieces l = l.left
