use Rattle.std.proofs.Common.{◌≡◌, true, None, length}
use Rattle.shogi_search.specs.Calls.{CallsInSteps}
use Rattle.minimax.specs.Entries.{IsExactly}
use Rattle.minimax.specs.declared.bounds.TheConstants.{INFINITY}
use Rattle.shogi_search.specs.Progress.{left_of}
use Rattle.shogi_search.proofs.full_search.search.Given as goal

abbrev pub invariant-slices : goal.invariant-slices
invariant-slices g l = record {
  root : l.search.root ≡ l.fn.p;
  eval : l.search.eval ≡ l.fn.e;
  depth : l.search.depth ≡ l.fn.d;
  beta : l.search.beta ≡ INFINITY;
  calls : CallsInSteps g.M.Memo.called l.fn.memo l.memo 0 l.search.steps 0 (length l.search.entered) 1;
  begun : l.search.started ≡ true;
  none_found : l.search.found ≡ None;
  capacity : g.M.Memo.capacity l.memo ≡ g.M.Memo.capacity l.fn.memo;
  unknown : IsExactly (g.M.Memo.answers l.fn.memo l.fn.p l.fn.e l.fn.d) → ⊥;
}

abbrev pub decreases-slices : goal.decreases-slices
decreases-slices g l = left_of l.search
