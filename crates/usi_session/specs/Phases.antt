-- The phase of a running `go` within a depth, and its invariant (own choice).
use Rattle.std.specs.Prelude.{ℕ, [], Option, None, Some, ◌≡◌, ◌≢◌, ◌+◌, ◌<◌, ◌==◌, cond}
use Rattle.shogi_core.specs.declared.moves.Move.{Move}
use Rattle.shogi_moves.specs.After.{after}
use Rattle.shogi_search.specs.Progress.{Progress}
use Rattle.shogi_search.specs.Ranked.{child_beta}
use Rattle.usi_session.specs.declared.go_request.GoRequest.{GoRequest}
use Rattle.usi_session.specs.declared.phase.Child.{Child}
use Rattle.usi_session.specs.declared.phase.Listed.{Listed}
use Rattle.usi_session.specs.declared.phase.PvLine.{PvLine}
use Rattle.usi_session.specs.declared.phase.Phase.{Phase}
use Rattle.usi_session.specs.declared.phase.Phase.TheVariants.{AtMove, AtLine}
use Rattle.usi_session.specs.declared.state.HeldBestmove.{HeldBestmove}
use Rattle.usi_session.specs.GoTaskView.{GoTaskView, bestmove_to}
use Rattle.usi_session.specs.Walked.{Walked, IsLine, IsRanked, IsRankedTo, IsSearchedAlong, IsUnder, running_go_of, walk_from}

-- the number of lines done: 0 without a list
abbrev pub lines_done_of : Option Listed → ℕ
lines_done_of None = 0
lines_done_of (Some listed) = listed.lines_done

abbrev pub lines_done_in : Phase → ℕ
lines_done_in (AtMove child) = 0
lines_done_in (AtLine line) = lines_done_of line.listed

-- the root move whose child is searched
abbrev pub root_move_in : Phase → Option Move
root_move_in (AtMove child) = Some child.root_move
root_move_in (AtLine line) = None

-- the walk; while root moves are ranked, one with no plies left
abbrev pub walk_in : GoRequest → Phase → Walked
walk_in go_request (AtMove child) = walk_from go_request.position go_request.eval 0
walk_in go_request (AtLine line) = line.walk

-- the view of a running `go`, by its phase
abbrev pub go_at : GoRequest → ℕ → Phase → Progress → GoTaskView
go_at go_request depths_done phase search =
    running_go_of go_request depths_done (lines_done_in phase) (root_move_in phase)
    (walk_in go_request phase) search

-- with one line there is no list; with several, all root moves are ranked
abbrev pub IsListed : GoRequest → ℕ → Option Listed → Type 0
IsListed go_request depths_done None = go_request.multi_pv ≡ 1
IsListed go_request depths_done (Some listed) =
    (go_request.multi_pv ≢ 1) × IsRanked go_request depths_done listed.ranks

-- the invariant of a walk along the pv of the current line
pub record IsWalking (go_request : GoRequest) (depths_done : ℕ) (line : PvLine) (kept : HeldBestmove)
    (search : Progress) : Type 0 where
  pub line_is : IsLine go_request depths_done (lines_done_of line.listed) line.walk
  pub listed_is : IsListed go_request depths_done line.listed
  pub kept_is : 0 < lines_done_of line.listed → kept ≡ bestmove_to go_request (depths_done + 1)
  pub searched : IsSearchedAlong line.walk search

-- the invariant of ranking: a child is searched for its move's worth, below the bound that a place
-- in the list needs
pub record IsRanking (go_request : GoRequest) (depths_done : ℕ) (child : Child) (search : Progress)
    : Type 0 where
  pub several : go_request.multi_pv ≢ 1
  pub ranked : IsRankedTo go_request depths_done child.root_move child.ranks
  pub searched :
      IsUnder search (after go_request.position child.root_move) go_request.eval depths_done
      (child_beta child.ranks)

-- the invariant of a phase
abbrev pub IsAtPhase : GoRequest → ℕ → Phase → HeldBestmove → Progress → Type 0
IsAtPhase go_request depths_done (AtMove child) kept search =
    IsRanking go_request depths_done child search
IsAtPhase go_request depths_done (AtLine line) kept search =
    IsWalking go_request depths_done line kept search

-- the phase that a depth begins with
abbrev pub first_phase : GoRequest → Move → ℕ → Phase
first_phase go_request first depths_done =
    cond (go_request.multi_pv == 1)
    (AtLine (record {
      walk = walk_from go_request.position go_request.eval (depths_done + 1);
      listed = None;
    }))
    (AtMove (record {
      root_move = first;
      ranks = record { lines = go_request.multi_pv; pairs = [] };
    }))
