use Rattle.std.proofs.Common.{◌<◌, ◌^◌, ◌≡◌, ℕ, true, false}
use Rattle.shogi_core.specs.Bits.{has_bit}
use Rattle.shogi_core.proofs.squares.Squares.find.Given as goal

abbrev pub invariant-loop-left : goal.invariant-loop-left
invariant-loop-left g l = record {
  callable : goal.F-IsAlwaysCallable g l.test;
  within : (n : ℕ) → has_bit l.left n ≡ true → has_bit l.fn.self.bits n ≡ true;
  none : (n : ℕ) → n < 81 → has_bit l.fn.self.bits n ≡ true → has_bit l.left n ≡ false → goal.F-post g l.test n false;
  left : l.left < 2 ^ 81;
}

abbrev pub decreases-loop-left : goal.decreases-loop-left
decreases-loop-left g l = l.left
