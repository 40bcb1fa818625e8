use Rattle.std.proofs.Common.{◌<◌, ◌^◌}
use Rattle.shogi_core.proofs.Sifting.{Unites}
use Rattle.shogi_core.proofs.squares.Squares.union.Given as goal

abbrev pub invariant-loop-left : goal.invariant-loop-left
invariant-loop-left g l = record {
  callable : goal.F-IsAlwaysCallable g l.each;
  unites : Unites (goal.F-post g l.each) l.fn.self.bits l.left l.found;
  left : l.left < 2 ^ 81;
  fits : l.found < 2 ^ 81;
}

abbrev pub decreases-loop-left : goal.decreases-loop-left
decreases-loop-left g l = l.left
