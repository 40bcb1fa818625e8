-- What a slice of a search leaves (own choice).
use Rattle.std.specs.Prelude.{◌≡◌, ℕ, ◌+◌, ◌≤◌, ◌<◌, [], Option, IfNone, IfSome, OnSome}
use Rattle.shogi_search.specs.Progress.{FindsBest, FindsValue, FitsTree, IsFoundBy, KeepsQuestion, Progress, left_of}
use Rattle.shogi_search.specs.SearchCalls.{CallsBetween, TellsRoot}
use Rattle.shogi_search.specs.Stack.{CountsSteps}
use Rattle.shogi_search.specs.declared.found.Found.{Found}
use Rattle.shogi_search.specs.declared.memo.Memo.{Ghosts}

-- the result, if there is one, is true of the root and counts the steps
pub record Finds (old : Progress) (result : Option Found) (new : Progress) : Type 0 where
  -- the result is true below the bound
  pub below : IfSome result (IsFoundBy old)
  -- under the full window, it has the value of the root
  pub value : IfSome result (FindsValue old)
  -- under the full window, it has the best move of the root
  pub best : IfSome result (FindsBest old)
  -- it counts all steps made
  pub counted : IfSome result (λ f. f.steps ≡ new.steps)
  -- it took at most four steps for each node of the tree
  pub range : IfSome result (FitsTree old)

-- a slice of `budget` steps, or of fewer if the search ends
pub record IsSliceOf (budget : ℕ) (old : Progress) (result : Option Found) (new : Progress)
    : Type 0 where
  -- the search keeps its root, evaluation, depth and bound
  pub unchanged : KeepsQuestion old new
  -- the count rises by the budget, or by no more if the search ends
  pub counts : CountsSteps budget old.steps new.steps result
  -- until the end, the steps left fall by at least the budget
  pub left : IfNone result (left_of new + budget ≤ left_of old)
  -- the count rises by no more than the steps left fall
  pub fell : new.steps + left_of new ≤ old.steps + left_of old
  -- the result is kept
  pub found : new.found ≡ result
  -- at the end, no steps are left
  pub over : OnSome result (new.left ≡ 0)
  -- at the end, no node is entered
  pub left_all : OnSome result (new.entered ≡ [])
  -- until the end, some steps are left
  pub unfinished : IfNone result (0 < new.left)

-- the calls of a slice after the probe of the root; the last one tells the result
pub record CallsInSlice {M : Type 0} (memory : Ghosts M) (memo_before memo_after : M)
    (old : Progress) (result : Option Found) (new : Progress) : Type 0 where
  pub calls : CallsBetween memory.called memo_before memo_after old new 0
  pub told : IfSome result (TellsRoot memory.called memo_before memo_after old)
  pub capacity : memory.capacity memo_after ≡ memory.capacity memo_before
