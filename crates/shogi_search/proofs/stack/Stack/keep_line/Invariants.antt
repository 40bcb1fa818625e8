use Rattle.std.proofs.Common.{◌≤◌, ◌-◌}
use Rattle.shogi_search.specs.Stack.{OnlyAsks}
use Rattle.shogi_search.proofs.stack.Stack.keep_line.Given as goal

abbrev pub invariant-line : goal.invariant-line
invariant-line g l = record {
  fewer : l.depth ≤ l.initial.depth;
  above : 2 ≤ l.depth;
  asks : OnlyAsks g.M.Memo l.fn.memo l.memo (l.initial.depth - l.depth);
}

abbrev pub decreases-line : goal.decreases-line
decreases-line g l = l.depth
