-- One event of a host: its outcome, and the host after it (own choice).
use Rattle.std.specs.Prelude.{◌≡◌, ℕ, ◌+◌, [], false, Option, Some, None}
use Rattle.session_slots.specs.declared.id.SessionId.{SessionId}
use Rattle.session_slots.specs.Slots.{OpenSessions, find, with_session, count, Opens, OthersKept, IsFull}
use Rattle.shared_table.specs.Recent.{Table, new_table}
use Rattle.shared_table.specs.Uses.{IsUsed, answers_of}
use Rattle.usi_texts.specs.Setup.{default_setup}
use Rattle.usi_texts.specs.declared.setup.Setup.{Setup}
use Rattle.usi_session.specs.Due.{SessionView, EndsSearches, is_pending, new_session_under}
use Rattle.usi_session.specs.Known.{IsAllKnown}
use Rattle.host_core.specs.declared.event.HostFault.TheVariants.{Full, OutOfMemory, UnknownSession}
use Rattle.host_core.specs.Events.{Event, Open, Feed, Work, Take, Close, Outcome, Opened, Done, Worked, Gave, Refused}
use Rattle.host_core.specs.ById.{pending_of}
use Rattle.host_core.specs.Sessions.{Feeds, Works, Takes}

-- the state of a host: the setup of all sessions, the table that they share, and the open sessions
pub record HostState : Type 0 where
  pub setup : Setup
  pub table : Table
  pub slots : OpenSessions SessionView

-- a new host under a setup: no session was opened yet, and the table is empty
abbrev pub new_host_under : Setup → ℕ → ℕ → HostState
new_host_under setup max entries = record {
  setup = setup;
  table = new_table entries;
  slots = record { max = max; next = 0; slots = [] };
}

-- a new host under the default setup
abbrev pub new_host : ℕ → ℕ → HostState
new_host max entries = new_host_under default_setup max entries

-- no session is open under the id
pub record Unknown (old : HostState) (outcome : Outcome) (new : HostState) : Type 0 where
  pub refused : outcome ≡ Refused UnknownSession
  pub same : new ≡ old

-- the session of the id answered, and no other changed
pub record Changed (goes : SessionView → Outcome → SessionView → Type 0) (old : HostState)
    (id : SessionId) (session : SessionView) (outcome : Outcome) (new : HostState) : Type 0 where
  pub after : SessionView
  pub went : goes session outcome after
  pub slots_are : new.slots ≡ with_session old.slots id after
  pub setup_is : new.setup ≡ old.setup

-- the session of the id answers if it is open
abbrev pub OnSession : (SessionView → Outcome → SessionView → Type 0) → HostState → SessionId
    → Option SessionView → Outcome → HostState → Type 0
OnSession goes old id None outcome new = Unknown old outcome new
OnSession goes old id (Some session) outcome new = Changed goes old id session outcome new

-- there was room, and a session was opened under the setup of the host
pub record OpenedAs (old : HostState) (id : SessionId) (new : HostState) : Type 0 where
  pub room : IsFull old.slots → ⊥
  pub opens : Opens old.slots new.slots id (new_session_under old.setup)
  pub table_is : new.table ≡ old.table
  pub setup_is : new.setup ≡ old.setup

-- `Full` if and only if there is no room; otherwise a session is opened or memory is refused
abbrev pub IsOpened : HostState → Outcome → HostState → Type 0
IsOpened old (Opened id) new = OpenedAs old id new
IsOpened old (Refused Full) new = IsFull old.slots × (new ≡ old)
IsOpened old (Refused OutOfMemory) new = (IsFull old.slots → ⊥) × (new ≡ old)
IsOpened old _ new = ⊥

-- the session of the id was closed, and no other changed
pub record Closed (old : HostState) (id : SessionId) (outcome : Outcome)
    (new : HostState) : Type 0 where
  pub done : outcome ≡ Done
  pub none : find new.slots id ≡ None
  pub others : OthersKept old.slots new.slots id
  pub max_is : new.slots.max ≡ old.slots.max
  pub next_is : new.slots.next ≡ old.slots.next
  pub count_is : count new.slots + 1 ≡ count old.slots
  pub table_is : new.table ≡ old.table
  pub setup_is : new.setup ≡ old.setup

abbrev pub IsClosed : HostState → SessionId → Option SessionView → Outcome → HostState → Type 0
IsClosed old id None outcome new = Unknown old outcome new
IsClosed old id (Some session) outcome new = Closed old id outcome new

-- no step was made and nothing is pending, unless memory ran out
abbrev pub NeedsNoStep : Outcome → SessionView → Type 0
NeedsNoStep (Worked steps) after = (steps ≡ 0) × (is_pending after ≡ false)
NeedsNoStep (Opened id) after = Unit {0}
NeedsNoStep Done after = Unit {0}
NeedsNoStep (Gave bytes) after = Unit {0}
NeedsNoStep (Refused fault) after = Unit {0}

-- the table keeps its capacity, and is unchanged if nothing of the session was pending. It was told each search of the session that ended. If it had the value of each root, with one line, no step was made
pub record WorksWithTable (old : HostState) (id : SessionId) (outcome : Outcome) (new : HostState)
    : Type 0 where
  pub capacity_is : new.table.capacity ≡ old.table.capacity
  pub idle : pending_of (find old.slots id) ≡ false → new.table ≡ old.table
  pub told :
      (before after : SessionView)
      → find old.slots id ≡ Some before → find new.slots id ≡ Some after
      → EndsSearches IsUsed old.table new.table before after
  pub known :
      (before after : SessionView)
      → find old.slots id ≡ Some before → find new.slots id ≡ Some after
      → IsAllKnown (answers_of old.table) before → NeedsNoStep outcome after

-- the session of the id worked
abbrev pub IsWorked : ℕ → HostState → SessionId → Outcome → HostState → Type 0
IsWorked budget old id outcome new =
    OnSession (Works budget) old id (find old.slots id) outcome new
    × WorksWithTable old id outcome new

-- each event with its outcome and the host after it; only a `Work` of a pending session may change the table, and no event changes the setup
abbrev pub Stepped : HostState → Event → Outcome → HostState → Type 0
Stepped old Open outcome new = IsOpened old outcome new
Stepped old (Feed id chunk) outcome new =
    OnSession (Feeds chunk) old id (find old.slots id) outcome new × (new.table ≡ old.table)
Stepped old (Work id budget) outcome new = IsWorked budget old id outcome new
Stepped old (Take id n) outcome new =
    OnSession (Takes n) old id (find old.slots id) outcome new × (new.table ≡ old.table)
Stepped old (Close id) outcome new = IsClosed old id (find old.slots id) outcome new
