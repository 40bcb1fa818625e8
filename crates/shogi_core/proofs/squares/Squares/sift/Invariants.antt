use Rattle.std.proofs.Common.{◌<◌, ◌^◌}
use Rattle.shogi_core.proofs.Sifting.{Sifts}
use Rattle.shogi_core.proofs.squares.Squares.sift.Given as goal

abbrev pub invariant-loop-left : goal.invariant-loop-left
invariant-loop-left g l = record {
  callable : goal.F-IsAlwaysCallable g l.test;
  sifts : Sifts (goal.F-post g l.test) l.fn.self.bits l.left l.kept;
  left : l.left < 2 ^ 81;
  fits : l.kept < 2 ^ 81;
}

abbrev pub decreases-loop-left : goal.decreases-loop-left
decreases-loop-left g l = l.left
