-- What the calls make of a session (own choice).
use Rattle.std.specs.Prelude.{◌≡◌, ◌≢◌, ◌≤◌, ◌<◌, ◌+◌, ℕ, List, ◌++◌, length, take, drop, min, true, false, Option, None, Some, Result, OnOk}
use Rattle.shared_table.specs.Recent.{new_table}
use Rattle.shared_table.specs.Uses.{IsUsed, answers_of}
use Rattle.shared_table.specs.declared.table.TheConstants.{CAPACITY_MAX}
use Rattle.usi_texts.specs.Setup.{default_setup}
use Rattle.usi_texts.specs.declared.setup.Setup.{Setup}
use Rattle.usi_session.specs.Due.{SessionView, due, state_due, load, new_session_under, wants_input, is_pending, EndsSearches, IsSameAfter, HasSpent}
use Rattle.usi_session.specs.Known.{IsAllKnown}
use Rattle.usi_session.specs.WholeLines.{GrowsByLines}
use Rattle.usi_session.specs.declared.limits.TheConstants.{CHUNK_MAX}
use Rattle.usi_library.specs.Setups.{IsNumbered}
use Rattle.usi_library.specs.declared.calls.UsiAnswer.{UsiAnswer}
use Rattle.usi_library.specs.declared.calls.UsiLook.{UsiLook}
use Rattle.usi_library.specs.declared.handle.UsiSession.{UsiSession}
use Rattle.usi_library.specs.declared.opened.Opened.{Opened}
use Rattle.usi_library.specs.declared.status.TheConstants.{USI_OK, USI_CLOSED, USI_OUT_OF_MEMORY, USI_TOO_LONG, USI_NOT_WANTED}

-- what is open: the session with its table, or nothing
abbrev pub open_in : UsiSession → Option Opened
open_in session = session.hand.value

-- a table may have so many entries
abbrev pub IsCapacity : ℕ → Type 0
IsCapacity entries = (1 ≤ entries) × (entries ≤ CAPACITY_MAX)

-- a status other than `USI_OK` says that memory was refused
abbrev pub FailsForMemory : ℕ → Type 0
FailsForMemory status = status ≢ USI_OK → status ≡ USI_OUT_OF_MEMORY

-- what is answered for a closed session
abbrev pub closed_answer : UsiAnswer
closed_answer = record { status = USI_CLOSED; count = 0 }

-- it owes what it owed for the bytes and what follows, and nothing else changed
abbrev pub IsFed : List ℕ → SessionView → SessionView → Type 0
IsFed bytes old new = IsSameAfter due bytes old new × IsSameAfter state_due bytes old new
    × (new.queued ≡ old.queued) × (new.state ≡ old.state) × (new.go_task ≡ old.go_task)

-- if the status is `USI_OK`, the bytes were fed
abbrev pub IsFedOnOk : List ℕ → ℕ → SessionView → SessionView → Type 0
IsFedOnOk bytes status old new = status ≡ USI_OK → IsFed bytes old new

-- the status when these bytes are fed to an open session: that they are too many is said before that none are wanted
pub record AnswersFeed (bytes : List ℕ) (status : ℕ) (old : SessionView) : Type 0 where
  pub too_long : CHUNK_MAX < length bytes → status ≡ USI_TOO_LONG
  pub not_wanted : length bytes ≤ CHUNK_MAX → wants_input old ≡ false → status ≡ USI_NOT_WANTED
  pub wanted : length bytes ≤ CHUNK_MAX → wants_input old ≡ true → FailsForMemory status

-- the load is at least so many steps less
abbrev pub LowersLoad : ℕ → SessionView → SessionView → Type 0
LowersLoad count old new = count + load new ≤ load old

-- what is queued grew by whole lines
abbrev pub QueuesLines : SessionView → SessionView → Type 0
QueuesLines old new = GrowsByLines old.queued new.queued

-- if the steps are as many as the load, nothing is pending after a success
abbrev pub Settles : {A E : Type 0} → ℕ → Result A E → SessionView → SessionView → Type 0
Settles steps result old new = load old ≤ steps → OnOk result (is_pending new ≡ false)

-- if the work was done and something is still pending, all of the steps were made
abbrev pub SpendsAll : ℕ → UsiAnswer → SessionView → Type 0
SpendsAll steps answer new = answer.status ≡ USI_OK → HasSpent new steps answer.count

-- if the work was done and the steps were as many as the load, nothing is pending
abbrev pub IsEnough : ℕ → UsiAnswer → SessionView → SessionView → Type 0
IsEnough steps answer old new =
    load old ≤ steps → answer.status ≡ USI_OK → is_pending new ≡ false

-- of what was open before, this holds
abbrev pub HoldsOf : Option Opened → Option Opened → (Opened → Opened → Type 0) → Type 0
HoldsOf None new holds = Unit {0}
HoldsOf (Some old) None holds = ⊥
HoldsOf (Some old) (Some new) holds = holds old new

-- if the session was open, it is still open, and this holds of it before and after
abbrev pub WhereOpen : UsiSession → UsiSession → (SessionView → SessionView → Type 0) → Type 0
WhereOpen old new holds =
    HoldsOf (open_in old) (open_in new) (λ before after. holds before.session after.session)

-- its table is what it was
abbrev pub KeepsTable : UsiSession → UsiSession → Type 0
KeepsTable old new =
    HoldsOf (open_in old) (open_in new) (λ before after. after.table ≡ before.table)

-- its table was told each search that ended, and may hold as much as before
abbrev pub TellsTable : Opened → Opened → Type 0
TellsTable old new =
    EndsSearches IsUsed old.table new.table old.session new.session
    × (new.table.capacity ≡ old.table.capacity)

-- this holds of what is open in a session of C
abbrev pub TellsItsTable : UsiSession → UsiSession → Type 0
TellsItsTable old new = HoldsOf (open_in old) (open_in new) TellsTable

-- if the table has the value of all that is left to search, along pvs with one line, the work makes no step and leaves nothing pending
-- is pending once it is done
abbrev pub NeedsNoStep : UsiAnswer → UsiSession → UsiSession → Type 0
NeedsNoStep answer old new =
    HoldsOf (open_in old) (open_in new) (λ before after.
    IsAllKnown (answers_of before.table) before.session → answer.status ≡ USI_OK
    → (answer.count ≡ 0) × (is_pending after.session ≡ false))

-- the first n queued bytes are gone from the queue and from what is owed, and nothing else changed
abbrev pub IsTaken : ℕ → SessionView → SessionView → Type 0
IsTaken n old new = ((x : List ℕ) → due old x ≡ take n old.queued ++ due new x)
    × (new.queued ≡ drop n old.queued) × (new.state ≡ old.state)
    × (new.go_task ≡ old.go_task) × (new.input ≡ old.input)

-- the queued bytes that fit were taken, and are a prefix of the buffer, whose rest stays
-- as it was
pub record IsMoved (before after : List ℕ) (count : ℕ) (old new : SessionView) : Type 0 where
  pub most : count ≡ min (length before) (length old.queued)
  pub bytes : after ≡ take count old.queued ++ drop count before
  pub taken : IsTaken count old new

-- it was closed, and has a new session under a setup over an empty table for so many entries
abbrev pub IsOpened : Setup → ℕ → Option Opened → Option Opened → Type 0
IsOpened setup entries old None = ⊥
IsOpened setup entries old (Some new) =
    (old ≡ None) × (new.session ≡ new_session_under setup) × (new.table ≡ new_table entries)

-- this holds of what is open in a session of C
abbrev pub OpensUnder : Setup → ℕ → UsiSession → UsiSession → Type 0
OpensUnder setup entries old new = IsOpened setup entries (open_in old) (open_in new)

-- under the default setup
abbrev pub Opens : ℕ → UsiSession → UsiSession → Type 0
Opens entries old new = OpensUnder default_setup entries old new

-- under the setup of these numbers
abbrev pub OpensNumbered : (entries depth max_depth lines eval : ℕ) → UsiSession → UsiSession
    → Type 0
OpensNumbered entries depth max_depth lines eval old new =
    (setup : Setup)
    × (IsNumbered depth max_depth lines eval setup × OpensUnder setup entries old new)

-- what there is of an open session
abbrev pub IsSeen : SessionView → UsiLook → Type 0
IsSeen session look = (look.is_open ≡ true) × (look.queued ≡ length session.queued)
    × (look.wants_input ≡ wants_input session) × (look.is_pending ≡ is_pending session)
    × (look.is_over ≡ session.state.is_over)

-- what there is of a closed one
abbrev pub IsNothing : UsiLook → Type 0
IsNothing look = (look.is_open ≡ false) × (look.queued ≡ 0) × (look.wants_input ≡ false)
    × (look.is_pending ≡ false) × (look.is_over ≡ false)
