-- A running `go`: the bytes that it still owes, and the most steps that it may still make (own choice).
use Rattle.std.specs.Prelude.{◌≡◌, ◌≤◌, ℕ, zero, suc, ◌+◌, ◌-◌, ◌*◌, ◌==◌, List, [], ◌++◌, length, drop, Bool, true, false, OnSome, ◌||◌, ◌&&◌, cond, nat_lt, Option, Some, None, is_some, Result, IfOk, IfSome, Vec}
use Rattle.shogi_core.specs.declared.moves.Move.{Move}
use Rattle.shogi_core.specs.Position.{Shogi}
use Rattle.shogi_moves.specs.LegalMoves.{legal_above}
use Rattle.minimax.specs.Minimax.{best, pv_cost, then_pv_cost, sum_of_tree_sizes}
use Rattle.shogi_search.specs.Calls.{Call}
use Rattle.usi_lines.specs.Commands.{Command}
use Rattle.usi_lines.specs.Lines.{Line}
use Rattle.usi_lines.specs.declared.command.Hold.{Hold}
use Rattle.usi_lines.specs.declared.options.TheConstants.{DEPTH_MAX, MULTI_PV_MAX}
use Rattle.usi_session.specs.declared.go_request.GoRequest.{GoRequest}
use Rattle.usi_session.specs.declared.state.HeldBestmove.{HeldBestmove}
use Rattle.usi_session.specs.declared.state.State.{State}
use Rattle.usi_texts.specs.Texts.{info_line}
use Rattle.usi_session.specs.GoInfos.{listed_codes, numbered_lines, depth_lines}
use Rattle.usi_session.specs.Costs.{cost_of_command, cost_to, depth_cost, go_cost, pvs_cost}
use Rattle.usi_session.specs.Roots.{Root, pv_roots, pvs_roots, roots_of_depths, roots_of_go, roots_of_command, roots_to}
use Rattle.usi_session.specs.Told.{TellsEnded}
use Rattle.usi_session.specs.Answer.{Answer, answer, answer_go, bestmove_at, write_or_hold, answer_with}
use Rattle.usi_session.specs.WholeStream.{answer_to}

-- the view of a running `go`. `depths_done` is also the number of plies after a root move at the
-- current depth; `lines_done` counts at that depth.
-- `root_move` is the one whose child is searched for its worth, or none while a pv is walked.
-- `walk_position` is the position after the walk's moves, `walk_plies` the plies left of it.
-- `is_begun` and `steps_left` are of the current search
pub record GoTaskView : Type 0 where
  pub go_request : GoRequest
  pub depths_done : ℕ
  pub lines_done : ℕ
  pub root_move : Option Move
  pub walk_position : Shogi
  pub walk_plies : ℕ
  pub is_begun : Bool
  pub steps_left : ℕ

-- the moves listed at the current depth
abbrev pub listed_at : GoRequest → ℕ → List ℕ
listed_at go_request depths_done =
    listed_codes go_request.position go_request.eval go_request.multi_pv (depths_done + 1)

-- the info lines still to come at the current depth
abbrev pub rest_of_depth : GoRequest → ℕ → ℕ → List ℕ
rest_of_depth go_request depths_done lines_done =
    cond (go_request.multi_pv == 1) (info_line go_request.position go_request.eval (depths_done + 1))
    (numbered_lines go_request.position go_request.eval (depths_done + 1) (lines_done + 1)
    (drop lines_done (listed_at go_request depths_done)))

-- the info lines of the next depths, `more` of them, above those done
unfoldable pub infos_of_depths : GoRequest → ℕ → ℕ → List ℕ
infos_of_depths go_request depths_done zero = []
infos_of_depths go_request depths_done (suc more) =
    depth_lines go_request.position go_request.eval go_request.multi_pv (depths_done + 1)
    ++ infos_of_depths go_request (depths_done + 1) more

-- the info lines of the depths above the current one
abbrev pub deeper_infos : GoRequest → ℕ → List ℕ
deeper_infos go_request depths_done =
    infos_of_depths go_request (depths_done + 1) (go_request.depth - (depths_done + 1))

-- the info lines still to come before the bestmove
abbrev pub infos_to_come : GoRequest → ℕ → ℕ → List ℕ
infos_to_come go_request depths_done lines_done =
    rest_of_depth go_request depths_done lines_done ++ deeper_infos go_request depths_done

-- whether the current line is the last one of its depth
abbrev pub ends_depth : GoRequest → ℕ → ℕ → Bool
ends_depth go_request depths_done lines_done =
    lines_done + 1 == length (listed_at go_request depths_done)

-- whether the current line of a running `go` is the last one of its depth
abbrev pub is_last_of_depth : GoTaskView → Bool
is_last_of_depth go = ends_depth go.go_request go.depths_done go.lines_done

-- whether the current line is the last one of the requested depth
abbrev pub is_last : GoTaskView → Bool
is_last go = is_last_of_depth go && go.depths_done + 1 == go.go_request.depth

-- the info lines after the current one
abbrev pub infos_after_line : GoRequest → ℕ → ℕ → List ℕ
infos_after_line go_request depths_done lines_done =
    cond (ends_depth go_request depths_done lines_done) (deeper_infos go_request depths_done)
    (infos_to_come go_request depths_done (lines_done + 1))

-- the info lines that a running `go` has still to write
abbrev pub infos_left : GoTaskView → List ℕ
infos_left go = infos_to_come go.go_request go.depths_done go.lines_done

-- the info lines that a running `go` has still to write after the current one
abbrev pub infos_after : GoTaskView → List ℕ
infos_after go = infos_after_line go.go_request go.depths_done go.lines_done

-- the current line was appended: with the lines after it, the bytes are those before and the lines that were left
abbrev pub WritesLine : GoTaskView → List ℕ → List ℕ → Type 0
WritesLine go before after = after ++ infos_after go ≡ before ++ infos_left go

-- a `go` with this request has done this many depths, and this many lines of the current one
pub record HasDone (go_request : GoRequest) (depths_done lines_done : ℕ) (go : GoTaskView)
    : Type 0 where
  pub question_is : go.go_request ≡ go_request
  pub depths_done_is : go.depths_done ≡ depths_done
  pub lines_done_is : go.lines_done ≡ lines_done

-- a line more of the current depth is done
abbrev pub HasDoneLine : GoTaskView → GoTaskView → Type 0
HasDoneLine old new = HasDone old.go_request old.depths_done (old.lines_done + 1) new

-- the `go` is unchanged but for the current search and the walk's position
abbrev pub IsSameButForSearch : GoTaskView → GoTaskView → Type 0
IsSameButForSearch old new =
    new ≡ record old {
      root_move = new.root_move;
      walk_position = new.walk_position;
      walk_plies = new.walk_plies;
      is_begun = new.is_begun;
      steps_left = new.steps_left;
    }

-- the bestmove of a request at this depth
abbrev pub bestmove_to : GoRequest → ℕ → HeldBestmove
bestmove_to go_request depth = bestmove_at go_request.position go_request.eval depth go_request.hold

-- the most steps of the next depths, `more` of them, above those done
unfoldable pub cost_of_depths : GoRequest → ℕ → ℕ → ℕ
cost_of_depths go_request depths_done zero = 0
cost_of_depths go_request depths_done (suc more) =
    depth_cost go_request.position go_request.eval go_request.multi_pv (depths_done + 1)
    + cost_of_depths go_request (depths_done + 1) more

-- the rest of a running `go`: the bytes still to come, and the state after them
abbrev pub rest_of_go : State → GoTaskView → Answer
rest_of_go state go =
    write_or_hold state (infos_left go) (bestmove_to go.go_request go.go_request.depth) go.go_request.hold

-- the rest of the `go`; without one, no bytes and the state as it is
abbrev pub rest_of_go_if : State → Option GoTaskView → Answer
rest_of_go_if state None = answer_with state []
rest_of_go_if state (Some go) = rest_of_go state go

-- these bytes, followed by the rest of the `go`, if one is running
abbrev pub with_rest : List ℕ → State → Option GoTaskView → List ℕ
with_rest bytes state None = bytes
with_rest bytes state (Some go) = bytes ++ (rest_of_go state go).bytes

-- the most steps along the pvs of the current depth's lines from line `lines_done` on
abbrev pub lines_cost : GoRequest → ℕ → ℕ → ℕ
lines_cost go_request depths_done lines_done =
    pvs_cost go_request.position go_request.eval depths_done
    (drop lines_done (listed_at go_request depths_done))

-- the most steps of the depths above the current one
abbrev pub deeper_cost : GoRequest → ℕ → ℕ
deeper_cost go_request depths_done =
    cost_of_depths go_request (depths_done + 1) (go_request.depth - (depths_done + 1))

-- the most steps of the searches after each later root move and along each listed pv
abbrev pub root_moves_cost : GoRequest → ℕ → Move → ℕ
root_moves_cost go_request depths_done root_move =
    4 * sum_of_tree_sizes go_request.position depths_done
    (legal_above go_request.position (Some root_move))
    + lines_cost go_request depths_done 0

-- the load left after the search of a root move's child
abbrev pub load_after_root_move : GoRequest → ℕ → Move → ℕ
load_after_root_move go_request depths_done root_move =
    root_moves_cost go_request depths_done root_move + deeper_cost go_request depths_done

-- the most steps of the current depth after the current search: of each later root move and each
-- listed pv, or of the rest of this pv and those behind it
abbrev pub depth_load_after_search : Option Move → GoTaskView → ℕ
depth_load_after_search (Some root_move) go = root_moves_cost go.go_request go.depths_done root_move
depth_load_after_search None go =
    then_pv_cost (λ next. pv_cost next go.go_request.eval (go.walk_plies - 1)) go.walk_position
    (best go.walk_position go.go_request.eval go.walk_plies)
    + lines_cost go.go_request go.depths_done (go.lines_done + 1)

-- the most steps after the current search, at its depth and above
abbrev pub load_after_search : GoTaskView → ℕ
load_after_search go =
    depth_load_after_search go.root_move go + deeper_cost go.go_request go.depths_done

-- the load of a running `go`: the most steps of its current search and those after it
abbrev pub load_of : GoTaskView → ℕ
load_of go = go.steps_left + load_after_search go

-- the load of the running `go`, or 0 if none is running
abbrev pub load_of_if : Option GoTaskView → ℕ
load_of_if None = 0
load_of_if (Some go) = load_of go

-- the pv searches of the current depth's lines from line `lines_done` on
abbrev pub lines_roots : GoRequest → ℕ → ℕ → List Root
lines_roots go_request depths_done lines_done =
    pvs_roots go_request.position go_request.eval depths_done
    (drop lines_done (listed_at go_request depths_done))

-- the pv searches of a whole `go`
abbrev pub first_roots : GoRequest → List Root
first_roots go_request =
    roots_of_depths go_request.position go_request.eval go_request.multi_pv 0 go_request.depth

-- the pv searches of the depths above the current one
abbrev pub deeper_roots : GoRequest → ℕ → List Root
deeper_roots go_request depths_done =
    roots_of_depths go_request.position go_request.eval go_request.multi_pv (depths_done + 1)
    (go_request.depth - (depths_done + 1))

-- the pv searches still to end at the current depth: of each listed pv, or of the rest of this pv
-- and those behind it
abbrev pub current_roots : Option Move → GoTaskView → List Root
current_roots (Some root_move) go = lines_roots go.go_request go.depths_done 0
current_roots None go =
    pv_roots go.walk_position go.go_request.eval go.walk_plies
    ++ lines_roots go.go_request go.depths_done (go.lines_done + 1)

-- the pv searches that a running `go` has still to end
abbrev pub roots_of : GoTaskView → List Root
roots_of go = current_roots go.root_move go ++ deeper_roots go.go_request go.depths_done

-- of the searches that a `go` had still to end, the first have ended, as the memo was told; the
-- others are left
abbrev pub EndsSearchesOfGo : {M : Type 0} → (M → Call → M → Type 0) → M → M → GoTaskView → GoTaskView
    → Type 0
EndsSearchesOfGo called old new before after =
    TellsEnded called old new (roots_of before) (roots_of after)

-- the pv searches that the running `go` has still to end; none without one
abbrev pub roots_of_if : Option GoTaskView → List Root
roots_of_if None = []
roots_of_if (Some go) = roots_of go

-- a search is running; otherwise the current pv is whole
abbrev pub is_searching : GoTaskView → Bool
is_searching go = is_some go.root_move || nat_lt 0 go.walk_plies

-- an upper bound of the lines that a running `go` may still report
abbrev pub reports_of : GoTaskView → ℕ
reports_of go = MULTI_PV_MAX * (go.go_request.depth - go.depths_done) - go.lines_done

-- one more than the bound of lines still to report; 0 without a `go`
abbrev pub reports_of_if : Option GoTaskView → ℕ
reports_of_if None = 0
reports_of_if (Some go) = reports_of go + 1

-- the most that `reports_of_if` is for a `go` that has just started
abbrev pub most_reports : ℕ
most_reports = MULTI_PV_MAX * DEPTH_MAX + 1

-- a new `go` has the options' number of lines, and its first search has not begun
abbrev pub IsNewGo : State → GoTaskView → Type 0
IsNewGo state go =
    (go.go_request.multi_pv ≡ state.options.multi_pv) × (go.is_begun ≡ false)

-- the answer was given, or its `go` was started: the bytes written and those still due are the
-- answer. The `go` makes at most `cost` steps, in these searches
pub record IsBegun (answer : Answer) (cost : ℕ) (roots : List Root) (before after : List ℕ)
    (state : State) (go_task : Option GoTaskView) : Type 0 where
  pub bytes : with_rest after state go_task ≡ before ++ answer.bytes
  pub state_is : (rest_of_go_if state go_task).state ≡ answer.state
  pub load : load_of_if go_task ≤ cost
  pub roots_are : roots_of_if go_task ≡ roots
  pub reports : reports_of_if go_task ≤ most_reports
  pub quiet : OnSome go_task (after ≡ before)
  pub new_go : IfSome go_task (IsNewGo state)

-- on success, a `go` was started or answered at once
abbrev pub BeginsGo : {A E : Type 0} → State → ℕ → Hold → Vec ℕ A → Vec ℕ A → State
    → Result (Option GoTaskView) E → Type 0
BeginsGo old depth hold before after new result =
    IfOk result
    (IsBegun (answer_go old depth hold) (go_cost old depth) (roots_of_go old depth)
    before.items after.items new)

-- on success, a command was answered, or its `go` was started
abbrev pub Answers : {A E : Type 0} → State → Command → Vec ℕ A → Vec ℕ A → State
    → Result (Option GoTaskView) E → Type 0
Answers old command before after new result =
    IfOk result
    (IsBegun (answer old command) (cost_of_command old command) (roots_of_command old command)
    before.items after.items new)

-- on success, a line was answered, or its `go` was started
abbrev pub AnswersLine : {A E : Type 0} → State → Line → Vec ℕ A → Vec ℕ A → State
    → Result (Option GoTaskView) E → Type 0
AnswersLine old line before after new result =
    IfOk result
    (IsBegun (answer_to old line) (cost_to old line) (roots_to old line)
    before.items after.items new)

-- a session that ends has no running `go`
abbrev pub EndsIdle : State → State → Option GoTaskView → Type 0
EndsIdle old new go_task = old.is_over ≡ false → new.is_over ≡ true → go_task ≡ None
