-- A session between two calls, and what it owes (own choice).
use Rattle.std.specs.Prelude.{◌≡◌, ◌≤◌, ℕ, ◌+◌, ◌*◌, List, [], ◌∷◌, ◌++◌, length, Bool, true, false, ◌&&◌, ◌||◌, not, nat_lt, cond, Option, None, Some, is_some, ◌<◌}
use Rattle.shogi_search.specs.Calls.{Call}
use Rattle.usi_lines.specs.Lines.{Buffer, Line, ahead}
use Rattle.usi_session.specs.declared.state.State.{State}
use Rattle.usi_session.specs.Answer.{Answer, initial_state_under}
use Rattle.usi_texts.specs.declared.setup.Setup.{Setup}
use Rattle.usi_texts.specs.Setup.{default_setup}
use Rattle.usi_session.specs.GoTaskView.{GoTaskView, IsBegun, WritesLine, rest_of_go, rest_of_go_if, load_of_if, roots_of_if, is_searching, reports_of_if, most_reports}
use Rattle.usi_session.specs.WholeStream.{answer_to, replies_from, state_from}
use Rattle.usi_session.specs.Costs.{cost_to, costs_from}
use Rattle.usi_session.specs.Roots.{Root, roots_from, roots_to}
use Rattle.usi_session.specs.Told.{TellsEndedFor}
use Rattle.usi_session.specs.WholeLines.{AreWholeLines, GrowsByLines}
use Rattle.usi_session.specs.declared.limits.TheConstants.{QUEUE_FULL}

-- the view of a session: the state after the answered lines, the running `go`, the replies not yet taken, and the bytes not yet answered
pub record SessionView : Type 0 where
  pub state : State
  pub go_task : Option GoTaskView
  pub queued : List ℕ
  pub input : Buffer

-- the bytes of an answer, and the replies to the lines ahead from its state on
abbrev pub owed_after : Answer → List Line → List ℕ
owed_after answer ahead = answer.bytes ++ replies_from answer.state ahead

-- the replies still to be written: the rest of the running `go`, and those to the lines ahead; none if the session is over
abbrev pub owed : State → Option GoTaskView → List Line → List ℕ
owed state go_task ahead =
    cond state.is_over [] (owed_after (rest_of_go_if state go_task) ahead)

-- the replies due once these further bytes are fed: the queue, the rest of the `go`, and the replies to the lines ahead
abbrev pub due : SessionView → List ℕ → List ℕ
due session further =
    session.queued ++ owed session.state session.go_task (ahead session.input further)

-- the state once these further bytes are fed and all lines are answered
abbrev pub state_due : SessionView → List ℕ → State
state_due session further =
    state_from (rest_of_go_if session.state session.go_task).state (ahead session.input further)

-- after the chunk, `what` is for any bytes what it was before for the chunk and these bytes
abbrev pub IsSameAfter : {A : Type 0} → (SessionView → List ℕ → A) → List ℕ → SessionView
    → SessionView → Type 0
IsSameAfter what chunk old new = (x : List ℕ) → what new x ≡ what old (chunk ++ x)

-- the most steps still to be made for the running `go` and the `go` in these lines
abbrev pub load_ahead : State → Option GoTaskView → List Line → ℕ
load_ahead state go_task ahead =
    load_of_if go_task + costs_from (rest_of_go_if state go_task).state ahead

-- the load: the most steps still to be made for the running `go` and the unread lines
abbrev pub load : SessionView → ℕ
load session = load_ahead session.state session.go_task (ahead session.input [])

-- the pv searches still to end of the running `go` and of the `go` in these lines
abbrev pub roots_ahead : State → Option GoTaskView → List Line → List Root
roots_ahead state go_task ahead =
    roots_of_if go_task ++ roots_from (rest_of_go_if state go_task).state ahead

-- the pv searches still to end: none if the session is over
abbrev pub roots_unless_over : State → Option GoTaskView → List Line → List Root
roots_unless_over state go_task ahead = cond state.is_over [] (roots_ahead state go_task ahead)

-- the pv searches still to end once these further bytes are fed
abbrev pub roots_due : SessionView → List ℕ → List Root
roots_due session further =
    roots_unless_over session.state session.go_task (ahead session.input further)

-- the pv searches still to end with the bytes fed so far
abbrev pub roots_left : SessionView → List Root
roots_left session = roots_due session []

-- the searches still to end are unchanged, for any further bytes
abbrev pub KeepsRoots : SessionView → SessionView → Type 0
KeepsRoots old new = (further : List ℕ) → roots_due new further ≡ roots_due old further

-- for any further bytes: of the searches still to end, the first have ended, as the memo was told; the others are left
abbrev pub EndsSearches : {M : Type 0} → (M → Call → M → Type 0) → M → M → SessionView → SessionView
    → Type 0
EndsSearches called old new before after =
    TellsEndedFor called old new (roots_due before) (roots_due after)

-- the replies due and the state after them stay, the load has not grown, and the queue has only
-- grown, by whole lines
pub record KeepsDue (old new : SessionView) : Type 0 where
  pub due_is : (further : List ℕ) → due new further ≡ due old further
  pub after_is : (further : List ℕ) → state_due new further ≡ state_due old further
  pub load_most : load new ≤ load old
  pub grown : GrowsByLines old.queued new.queued

-- the replies due and the searches still to end stay
pub record KeepsDueAndRoots (old new : SessionView) : Type 0 where
  pub due : KeepsDue old new
  pub roots : KeepsRoots old new

-- the answer to a line was queued and its state taken, or its `go` was started
pub record QueuesAnswer (old : State) (line : Line) (new : State) (before after : List ℕ)
    (go_task : Option GoTaskView) : Type 0 where
  pub reply : List ℕ
  pub after_reply : after ≡ before ++ reply
  pub begun :
      IsBegun (answer_to old line) (cost_to old line) (roots_to old line) [] reply new go_task
  pub whole : AreWholeLines reply
  pub idle : new.is_over ≡ true → go_task ≡ None

-- the current line of a running `go` was queued
pub record QueuesLine (go : GoTaskView) (before after : List ℕ) : Type 0 where
  pub line : List ℕ
  pub after_line : after ≡ before ++ line
  pub writes : WritesLine go [] line
  pub whole : AreWholeLines line

-- the rest of a running `go` was queued, and its state taken
pub record QueuesEnd (go : GoTaskView) (old new : State) (before after : List ℕ) : Type 0 where
  pub after_end : after ≡ before ++ (rest_of_go old go).bytes
  pub state_is : new ≡ (rest_of_go old go).state
  pub whole : AreWholeLines (rest_of_go old go).bytes

-- there is a line
abbrev pub has_line : List Line → Bool
has_line [] = false
has_line (line ∷ rest) = true

-- a `go` is running, or a line is unread
abbrev pub has_work : SessionView → Bool
has_work session = is_some session.go_task || has_line (ahead session.input [])

-- the session is alive and has a running `go` or an unread line
abbrev pub is_pending : SessionView → Bool
is_pending session = not session.state.is_over && has_work session

-- a `go` is running, and its current search has steps left
abbrev pub IsMidSearch : Option GoTaskView → Type 0
IsMidSearch None = ⊥
IsMidSearch (Some go) = (is_searching go ≡ true) × (0 < go.steps_left)

-- if something is still pending, the budget was used up and a search is running
abbrev pub HasSpent : SessionView → ℕ → ℕ → Type 0
HasSpent session budget made =
    is_pending session ≡ true → (made ≡ budget) × IsMidSearch session.go_task

-- a `go` is running, and the pv of its current line is whole
abbrev pub IsPvWhole : Option GoTaskView → Type 0
IsPvWhole None = ⊥
IsPvWhole (Some go) = is_searching go ≡ false

-- more than the turns left: each lowers the load, reports a line, or answers one
abbrev pub turns : SessionView → ℕ
turns session =
    load session
    + ((most_reports + 1) * length (ahead session.input []) + reports_of_if session.go_task)

-- the session is alive with nothing pending, and fewer than 65,536 bytes are queued
abbrev pub wants_input : SessionView → Bool
wants_input session =
    not session.state.is_over && not (has_work session)
    && nat_lt (length session.queued) QUEUE_FULL

-- a new session under a setup: nothing read, nothing queued
abbrev pub new_session_under : Setup → SessionView
new_session_under setup = record {
  state = initial_state_under setup;
  go_task = None;
  queued = [];
  input = record { unread = []; closed = false };
}

-- a new session under the default setup
abbrev pub new_session : SessionView
new_session = new_session_under default_setup
