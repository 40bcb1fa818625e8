use Rattle.std.proofs.Common.{true, false}
use Rattle.shogi_moves.specs.Sweeps.{IsBoardSweep, IsDropSweep}
use Rattle.test_rules.proofs.comparison.assert_moves.Given as goal

abbrev pub invariant-loop-code : goal.invariant-loop-code
invariant-loop-code g l = record {
  captures : IsBoardSweep l.p true l.captures;
  quiets : IsBoardSweep l.p false l.quiets;
  drops : IsDropSweep l.p l.drops;
}
