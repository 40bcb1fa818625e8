-- A walk along a pv, ply by ply, and what a running `go` knows of its current depth
-- (own choice).
use Rattle.std.specs.Prelude.{ℕ, ℤ, List, [], ◌∷◌, Option, None, Some, ◌≡◌, ◌+◌, ◌-◌, ◌<◌, ◌≤◌, ◌++◌, ◌==◌, ◌&&◌, Bool, true, cond, is_some, length, slice_get, unwrap_or}
use Rattle.shogi_core.specs.Codes.{code_of}
use Rattle.shogi_core.specs.Position.{Shogi}
use Rattle.shogi_core.specs.declared.moves.Move.{Move}
use Rattle.shogi_moves.specs.After.{after}
use Rattle.shogi_moves.specs.LegalMoves.{legal_codes, legal_above}
use Rattle.shogi_eval.specs.declared.eval.Eval.{Eval}
use Rattle.shogi_eval.specs.Exchange.{resolves_captures}
use Rattle.minimax.specs.Minimax.{value, worth, best, pv, pv_cost, then_pv_cost}
use Rattle.shogi_search.specs.Progress.{Progress, untouched, untouched_below, IsFoundBelow}
use Rattle.shogi_search.specs.Ranked.{Ranking, IsTop, child_beta}
use Rattle.minimax.specs.declared.bounds.TheConstants.{INFINITY}
use Rattle.shogi_search.specs.declared.found.Found.{Found}
use Rattle.usi_lines.specs.Options.{IsDepth, IsMultiPv}
use Rattle.usi_lines.specs.declared.options.TheConstants.{DEPTH_MAX}
use Rattle.usi_session.specs.declared.go_request.GoRequest.{GoRequest}
use Rattle.usi_session.specs.GoInfos.{pv_by}
use Rattle.usi_session.specs.Roots.{Root, pv_roots, then_pv_roots}
use Rattle.usi_session.specs.GoTaskView.{GoTaskView, listed_at, lines_cost, lines_roots, current_roots}

-- the view of a walk: the evaluation, the position after the moves so far, the plies left,
-- and the whole pv with its value
pub record Walked : Type 0 where
  pub eval : Eval
  pub at : Shogi
  pub plies : ℕ
  pub pv : List Move
  pub value : ℤ

-- the walk with these moves so far and these plies left; `found` is the value, once known
abbrev pub walk_of : Eval → Shogi → ℕ → List Move → Option ℤ → Walked
walk_of eval at plies moves found = record {
  eval = eval;
  at = at;
  plies = plies;
  pv = moves ++ pv at eval plies;
  value = unwrap_or found (value at eval plies);
}

-- the invariant of a walk: its moves and the plies left are at most the greatest depth; without
-- plies left, the value is known
abbrev pub IsPvWalk : ℕ → List Move → Option ℤ → Type 0
IsPvWalk plies moves found =
    (length moves + plies ≤ DEPTH_MAX) × (plies ≡ 0 → is_some found ≡ true)

-- a walk before its first ply
abbrev pub walk_from : Shogi → Eval → ℕ → Walked
walk_from position eval plies = walk_of eval position plies [] None

-- a walk after a first move of known worth
abbrev pub walk_by : Move → Shogi → Eval → ℕ → ℤ → Walked
walk_by played next eval plies worth = walk_of eval next plies (played ∷ []) (Some worth)

-- the most steps of the searches along the rest of a walk
abbrev pub walk_cost : Walked → ℕ
walk_cost walk = pv_cost walk.at walk.eval walk.plies

-- the most steps of the searches along a walk after its current position
abbrev pub cost_after : Walked → ℕ
cost_after walk =
    then_pv_cost (λ next. pv_cost next walk.eval (walk.plies - 1)) walk.at
    (best walk.at walk.eval walk.plies)

-- the searches along the rest of a walk
abbrev pub walk_roots : Walked → List Root
walk_roots walk = pv_roots walk.at walk.eval walk.plies

-- the searches along a walk after its current position
abbrev pub roots_after : Walked → List Root
roots_after walk =
    then_pv_roots (λ next. pv_roots next walk.eval (walk.plies - 1)) walk.at
    (best walk.at walk.eval walk.plies)

-- the depth and the number of lines are in their ranges
pub record IsQuestionInRange (go_request : GoRequest) : Type 0 where
  pub depth_fits : IsDepth go_request.depth
  pub multi_pv_fits : IsMultiPv go_request.multi_pv

-- `next` is the first legal move after `passed`
abbrev pub IsNextMove : Shogi → Option Move → Move → Type 0
IsNextMove position passed next =
    legal_above position passed ≡ code_of next ∷ legal_above position (Some next)

-- the first legal move
abbrev pub IsFirstMove : Shogi → Move → Type 0
IsFirstMove position first = IsNextMove position None first

-- the search that a depth begins with
abbrev pub first_search : GoRequest → Move → ℕ → Progress
first_search go_request first depths_done =
    cond (go_request.multi_pv == 1) (untouched go_request.position go_request.eval (depths_done + 1))
    (untouched (after go_request.position first) go_request.eval depths_done)

-- the search after a root move, below the bound that a place in the list needs
abbrev pub child_search : GoRequest → ℕ → Move → Ranking → Progress
child_search go_request depths_done root_move ranks =
    untouched_below (after go_request.position root_move) go_request.eval depths_done (child_beta ranks)

-- the result is that of a search after the root move
abbrev pub IsFoundOfChild : GoRequest → ℕ → Move → Ranking → Found → Type 0
IsFoundOfChild go_request depths_done root_move ranks found =
    IsFoundBelow (after go_request.position root_move) go_request.eval depths_done
    (child_beta ranks) found

-- the view of a running `go`, by its walk and its search
abbrev pub running_go_of : GoRequest → ℕ → ℕ → Option Move → Walked → Progress → GoTaskView
running_go_of go_request depths_done lines_done root_move walk search = record {
  go_request = go_request;
  depths_done = depths_done;
  lines_done = lines_done;
  root_move = root_move;
  walk_position = walk.at;
  walk_plies = walk.plies;
  is_begun = search.started;
  steps_left = search.left;
}

-- once a child's search has ended, the searches along each listed pv are still to end
abbrev pub LeavesRoots : GoRequest → ℕ → Option Move → Walked → Progress → Type 0
LeavesRoots go_request depths_done root_move walk search =
    current_roots root_move (running_go_of go_request depths_done 0 root_move walk search)
    ≡ lines_roots go_request depths_done 0

-- a search of this position, with steps left, for values below a bound
pub record IsUnder (search : Progress) (position : Shogi) (eval : Eval) (depth : ℕ) (beta : ℤ)
    : Type 0 where
  pub root : search.root ≡ position
  pub eval_is : search.eval ≡ eval
  pub depth_is : search.depth ≡ depth
  pub beta_is : search.beta ≡ beta
  pub left : 0 < search.left

-- if plies are left of a walk, its position is searched
abbrev pub IsSearchedAlong : Walked → Progress → Type 0
IsSearchedAlong walk search = 0 < walk.plies → IsUnder search walk.at walk.eval walk.plies INFINITY

-- the worth of a move at the current depth, by its code
abbrev pub worth_at : GoRequest → ℕ → ℕ → ℤ
worth_at go_request depths_done = worth go_request.position go_request.eval depths_done

-- the root move is the last ply of its line and the evaluation resolves captures: its worth is not its child's value
abbrev pub is_settled : GoRequest → ℕ → Bool
is_settled go_request depths_done = depths_done == 0 && resolves_captures go_request.eval

-- the legal moves up to `passed` are ranked
pub record IsRankedUpTo (go_request : GoRequest) (depths_done : ℕ) (passed : Option Move)
    (ranks : Ranking) : Type 0 where
  pub seen : List ℕ
  pub whole : seen ++ legal_above go_request.position passed ≡ legal_codes go_request.position
  pub top : IsTop (worth_at go_request depths_done) seen ranks
  pub most : ranks.lines ≡ go_request.multi_pv

-- all legal moves before this one are ranked
pub record IsRankedTo (go_request : GoRequest) (depths_done : ℕ) (root_move : Move)
    (ranks : Ranking) : Type 0 where
  pub passed : Option Move
  pub next : IsNextMove go_request.position passed root_move
  pub ranked : IsRankedUpTo go_request depths_done passed ranks

-- all legal moves are ranked
pub record IsRanked (go_request : GoRequest) (depths_done : ℕ) (ranks : Ranking) : Type 0 where
  pub top : IsTop (worth_at go_request depths_done) (legal_codes go_request.position) ranks
  pub most : ranks.lines ≡ go_request.multi_pv

-- the walk is along the pv of line `lines_done`, counted from 0
pub record IsLine (go_request : GoRequest) (depths_done lines_done : ℕ) (walk : Walked) : Type 0 where
  pub code : ℕ
  pub listed_as : slice_get (listed_at go_request depths_done) lines_done ≡ Some code
  pub pv_is : walk.pv ≡ pv_by go_request.position go_request.eval (depths_done + 1) code
  pub value_is : walk.value ≡ worth_at go_request depths_done code
  pub eval_is : walk.eval ≡ go_request.eval

-- the walk has made the first move of line `lines_done`; its cost and searches are those of the rest of the line
pub record BeginsLine (go_request : GoRequest) (depths_done lines_done : ℕ) (walk : Walked)
    : Type 0 where
  pub line : IsLine go_request depths_done lines_done walk
  pub cost :
      walk_cost walk + lines_cost go_request depths_done (lines_done + 1)
      ≡ lines_cost go_request depths_done lines_done
  pub roots :
      pv_roots walk.at go_request.eval walk.plies ++ lines_roots go_request depths_done (lines_done + 1)
      ≡ lines_roots go_request depths_done lines_done
