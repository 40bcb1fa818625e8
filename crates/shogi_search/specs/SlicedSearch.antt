-- What holds of a search between its slices, whatever memos they were given.
use Rattle.std.specs.Prelude.{◌≡◌, ℕ, ℤ, ◌+◌, ◌*◌, ◌≤◌, Bool, true, false, List, [], ◌∷◌, map, Option, None, Some}
use Rattle.std.specs.Option.{ForSome}
use Rattle.shogi_core.specs.Codes.{code_of}
use Rattle.search_nodes.specs.declared.frame.Frame.{Frame}
use Rattle.search_nodes.specs.declared.frame.NodeState.{NodeState}
use Rattle.search_nodes.specs.declared.frame.NodeState.TheVariants.{Expanding, AwaitingChild, CutOff}
use Rattle.shogi_search.specs.declared.found.Found.{Found}
use Rattle.shogi_search.specs.declared.sliced_search.Search.TheInside.{Inside}
use Rattle.shogi_search.specs.declared.stack.Stack.{Stack}
use Rattle.minimax.specs.Minimax.{tree_size}
use Rattle.shogi_search.specs.Entered.{Entered}
use Rattle.search_nodes.specs.Order.{todo}
use Rattle.shogi_search.specs.Progress.{IsBeta, Progress, IsFoundBelow}
use Rattle.shogi_search.specs.Stack.{IsReady, frames_of, steps_left}
use Rattle.minimax.specs.Window.{code_at}
use Rattle.minimax.specs.declared.bounds.TheConstants.{SEARCH_DEPTH_MAX}

-- the most steps of the search: four for each node of the tree, since children of the root may be searched twice
abbrev pub steps_of_tree : Stack → ℕ
steps_of_tree s = 4 * tree_size s.root s.depth

-- the steps left: none at the end, all before the root is entered, otherwise those of the stack
abbrev pub left_in : Option Found → Bool → ℕ → ℕ → ℕ
left_in (Some f) started whole rest = 0
left_in None false whole rest = whole
left_in None true whole rest = rest

-- the move that the node waits for
abbrev pub current_in : NodeState → Option ℕ
current_in Expanding = None
current_in (AwaitingChild m) = Some (code_of m)
current_in (CutOff v) = None

-- the lower bound that cut the node off
abbrev pub conclusive_in : NodeState → Option ℤ
conclusive_in Expanding = None
conclusive_in (AwaitingChild m) = None
conclusive_in (CutOff v) = Some v

-- the current move, if there is one, before the moves to visit
abbrev pub and_current : Option ℕ → List ℕ → List ℕ
and_current None codes = codes
and_current (Some code) codes = code ∷ codes

-- a frame of the stack as the caller sees it
abbrev pub entered_of : Frame → Entered
entered_of f = record {
  position = f.node.position;
  eval = f.node.eval;
  depth = f.depth;
  alpha = f.alpha;
  beta = f.beta;
  best_value = f.best_value;
  best_code = code_at f.best_move;
  unsearched = and_current (current_in f.state) (todo f.node.position f.picker);
  current = current_in f.state;
  conclusive = conclusive_in f.state;
}

-- the nodes entered: none before the root is, and none at the end
abbrev pub entered_in : Option Found → Bool → List Entered → List Entered
entered_in (Some f) started nodes = []
entered_in None false nodes = []
entered_in None true nodes = nodes

-- the search as its caller sees it
abbrev pub progress_of : Inside → Progress
progress_of s = record {
  root = s.stack.root;
  eval = s.stack.eval;
  depth = s.stack.depth;
  beta = s.stack.beta;
  started = s.started;
  entered = entered_in s.found s.started (map entered_of (frames_of s.stack));
  left = left_in s.found s.started (steps_of_tree s.stack) (steps_left s.stack);
  steps = s.steps;
  found = s.found;
}

-- the result is true below the bound, and counts all steps
pub record IsKnown (s : Inside) (f : Found) : Type 0 where
  pub below : IsFoundBelow s.stack.root s.stack.eval s.stack.depth s.stack.beta f
  pub steps_are : f.steps ≡ s.steps

-- depth and bound are in range, the result is true, the steps fit the tree and, while the search is under way, its stack is ready
pub record IsSearch (s : Inside) : Type 0 where
  pub shallow : s.stack.depth ≤ SEARCH_DEPTH_MAX
  pub beta : IsBeta s.stack.beta
  pub known : ForSome s.found (IsKnown s)
  pub ready : s.found ≡ None → s.started ≡ true → IsReady s.stack
  pub counted :
      s.steps + left_in s.found s.started (steps_of_tree s.stack) (steps_left s.stack)
      ≤ steps_of_tree s.stack
