-- A search in slices, as its caller sees it (own choice).
use Rattle.std.specs.Prelude.{◌≡◌, ℕ, ℤ, ◌*◌, ◌≤◌, ◌≤ℤ◌, ◌<ℤ◌, Bool, true, false, List, [], length, Option, None, Some, IsSome}
use Rattle.std.specs.Option.{ForSome}
use Rattle.shogi_core.specs.Position.{Shogi}
use Rattle.shogi_eval.specs.declared.eval.Eval.{Eval}
use Rattle.shogi_search.specs.declared.found.Found.{Found}
use Rattle.minimax.specs.declared.entry.Entry.{Entry}
use Rattle.minimax.specs.Minimax.{value, best, tree_size, negated}
use Rattle.shogi_search.specs.Entered.{Entered, IsPath}
use Rattle.minimax.specs.Entries.{IsEnoughBelow, IsExactly}
use Rattle.minimax.specs.declared.bounds.TheConstants.{INFINITY}

-- the question of the search (`root`, `eval`, `depth`, `beta`), whether its root is entered, the nodes entered and not left, the steps that it may still make, those made, and the result
pub record Progress : Type 0 where
  pub root : Shogi
  pub eval : Eval
  pub depth : ℕ
  pub beta : ℤ
  pub started : Bool
  pub entered : List Entered
  pub left : ℕ
  pub steps : ℕ
  pub found : Option Found

-- the steps that the search may still make
abbrev pub left_of : Progress → ℕ
left_of search = search.left

-- a search for values below `beta` before its first slice
abbrev pub untouched_below : Shogi → Eval → ℕ → ℤ → Progress
untouched_below p e d beta = record {
  root = p;
  eval = e;
  depth = d;
  beta = beta;
  started = false;
  entered = [];
  left = 4 * tree_size p d;
  steps = 0;
  found = None;
}

-- a search under the full window before its first slice
abbrev pub untouched : Shogi → Eval → ℕ → Progress
untouched p e d = untouched_below p e d INFINITY

-- the search has not started and has no result
pub record IsFresh (search : Progress) : Type 0 where
  pub unstarted : search.started ≡ false
  pub none : search.found ≡ None

-- the search has entered its root and has no result
pub record IsUnderWay (search : Progress) : Type 0 where
  pub begun : search.started ≡ true
  pub none : search.found ≡ None

-- the nodes entered form a path from the root, whose window ends at the bound of the search, or earlier while a child of the root is entered
pub record HasPath (search : Progress) : Type 0 where
  pub high : ℤ
  pub within : high ≤ℤ search.beta
  pub whole : length search.entered ≡ 1 → high ≡ search.beta
  pub path :
      IsPath search.root search.eval search.depth (negated INFINITY) high search.entered

-- a bound below which a search may look for values
pub record IsBeta (beta : ℤ) : Type 0 where
  pub above : negated INFINITY <ℤ beta
  pub most : beta ≤ℤ INFINITY

-- the memory's answer for the root is conclusive below the bound
abbrev pub IsAnsweredBy : (Shogi → Eval → ℕ → Option Entry) → Progress → Type 0
IsAnsweredBy answers search =
    IsEnoughBelow search.beta (answers search.root search.eval search.depth)

-- the memory's answer for the root is exact
abbrev pub IsExactlyAnsweredBy : (Shogi → Eval → ℕ → Option Entry) → Progress → Type 0
IsExactlyAnsweredBy answers search = IsExactly (answers search.root search.eval search.depth)

-- before the first step, a conclusive answer for the root ends the search
abbrev pub EndsWhereAnswered :
    (Shogi → Eval → ℕ → Option Entry) → Option Found → Progress → Progress → Type 0
EndsWhereAnswered answers result old new =
    old.started ≡ false → IsAnsweredBy answers old → IsSome result × (new.steps ≡ old.steps)

-- before the first step, an exact answer for the root ends the search
abbrev pub EndsWhereKnown :
    (Shogi → Eval → ℕ → Option Entry) → Option Found → Progress → Progress → Type 0
EndsWhereKnown answers result old new =
    old.started ≡ false → IsExactlyAnsweredBy answers old
    → IsSome result × (new.steps ≡ old.steps)

-- the search keeps its root, evaluation, depth and bound
abbrev pub KeepsQuestion : Progress → Progress → Type 0
KeepsQuestion old new =
    (new.root ≡ old.root)
    × ((new.eval ≡ old.eval) × ((new.depth ≡ old.depth) × (new.beta ≡ old.beta)))

-- the result of a search below a bound: the value and the best move if the value is less, otherwise a lower bound of the value and the best move or none
pub record IsFoundBelow (p : Shogi) (e : Eval) (d : ℕ) (beta : ℤ) (f : Found) : Type 0 where
  pub value_is : f.value <ℤ beta → f.value ≡ value p e d
  pub best_is : f.value <ℤ beta → f.best ≡ best p e d
  pub lower : f.value ≤ℤ value p e d
  pub best_is_true : ForSome f.best (λ m. best p e d ≡ Some m)
  pub least : negated INFINITY <ℤ f.value
  pub most : f.value <ℤ INFINITY

-- the result is true of the root below the bound of the search
abbrev pub IsFoundBy : Progress → Found → Type 0
IsFoundBy search f = IsFoundBelow search.root search.eval search.depth search.beta f

-- under the full window, the result has the value of the root
abbrev pub FindsValue : Progress → Found → Type 0
FindsValue search f =
    search.beta ≡ INFINITY → f.value ≡ value search.root search.eval search.depth

-- under the full window, the result has the best move of the root
abbrev pub FindsBest : Progress → Found → Type 0
FindsBest search f =
    search.beta ≡ INFINITY → f.best ≡ best search.root search.eval search.depth

-- the result took at most four steps for each node of the root's tree
abbrev pub FitsTree : Progress → Found → Type 0
FitsTree search f = f.steps ≤ 4 * tree_size search.root search.depth
