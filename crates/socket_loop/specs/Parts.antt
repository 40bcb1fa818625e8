-- Parts of a turn: what they do to the host and to the connections of a wire (own choice).
use Rattle.std.specs.Prelude.{◌≡◌, ◌<◌, ◌≢◌, ◌⊎◌, ⊤, ℕ, List, [], ◌∷◌, ◌++◌, Option, None, Some, Bool, true, false, ◌&&◌, ◌||◌, not, ◌==◌, length}
use Rattle.std.specs.Io.KnownBytes.{Appends, Consumes}
use Rattle.session_slots.specs.declared.id.SessionId.{SessionId}
use Rattle.session_slots.specs.Slots.{find}
use Rattle.usi_session.specs.Due.{SessionView, is_pending}
use Rattle.host_core.specs.declared.event.HostFault.TheVariants.{OutOfMemory}
use Rattle.host_core.specs.Steps.{HostState}
use Rattle.host_core.specs.Events.{Outcome, Event, Refused, Open, Feed, Work, Take, Close}
use Rattle.host_core.specs.Made.{Step, own, taken, is_same_id}
use Rattle.host_core.specs.Runs.{IsRun}
use Rattle.socket_loop.specs.declared.connection.Link.{Link}
use Rattle.socket_loop.specs.declared.connection.Connection.{Connection}
use Rattle.transport.specs.Report.{Report, Stays, IsRaised}
use Rattle.socket_loop.specs.Links.{IsAmong, IsMarked, reads_ended}

-- ---- steps of a host

-- the id was opened before, and is closed
pub record IsGone (host : HostState) (id : SessionId) : Type 0 where
  pub none : find host.slots id ≡ None
  pub below : id.generation < host.slots.next

-- the event opens a session
abbrev pub IsAdmission : Event → Type 0
IsAdmission Open = ⊤
IsAdmission _ = ⊥

-- the event feeds or closes a session
abbrev pub IsInput : Event → Type 0
IsInput (Feed id chunk) = ⊤
IsInput (Close id) = ⊤
IsInput _ = ⊥

-- the event takes output from a session, or closes it
abbrev pub IsOutput : Event → Type 0
IsOutput (Take id n) = ⊤
IsOutput (Close id) = ⊤
IsOutput _ = ⊥

-- the event closes a session
abbrev pub IsEnd : Event → Type 0
IsEnd (Close id) = ⊤
IsEnd _ = ⊥

-- one of the steps passes the test
abbrev pub some_step : (Event → Outcome → Bool) → List Step → Bool
some_step is_so [] = false
some_step is_so (step ∷ rest) = is_so step.event step.outcome || some_step is_so rest

-- the event closes this session
abbrev pub closes : SessionId → Event → Outcome → Bool
closes id (Close other) _ = is_same_id other id
closes id _ _ = false

-- the event feeds this session, and is refused for want of memory
abbrev pub feed_out_of_memory : SessionId → Event → Outcome → Bool
feed_out_of_memory id (Feed other chunk) (Refused OutOfMemory) = is_same_id other id
feed_out_of_memory id _ _ = false

-- the event works on this session, and is refused
abbrev pub work_failed : SessionId → Event → Outcome → Bool
work_failed id (Work other budget) (Refused fault) = is_same_id other id
work_failed id _ _ = false

-- the steps store nothing for a session, take nothing from it, and do not close it
pub record LeavesUntouched (id : SessionId) (steps : List Step) : Type 0 where
  pub stored : own id steps ≡ []
  pub passed : taken id steps ≡ []
  pub kept : some_step (closes id) steps ≡ false

-- ---- one connection

-- the host no longer has the session; or the session is over or the reads have ended, and nothing is pending or
-- queued
abbrev pub is_finished_with : Bool → Option SessionView → Bool
is_finished_with has_ended None = true
is_finished_with has_ended (Some t) =
    (has_ended || t.state.is_over) && (length t.queued == 0) && not (is_pending t)

-- the connection is finished with
abbrev pub is_finished : HostState → Connection → Bool
is_finished host connection =
    is_finished_with connection.has_ended (find host.slots connection.link.id)

-- a connection was finished with just before the step that closed its session; `marks` has the connections whose
-- reads may have ended
pub record Finished (marks : List Connection) (before : HostState) (steps : List Step)
    (after : HostState) (link : Link) : Type 0 where
  pub earlier : List Step
  pub outcome : Outcome
  pub later : List Step
  pub steps_are : steps ≡ earlier ++ (record { event = Close link.id; outcome = outcome } ∷ later)
  pub moment : HostState
  pub run : IsRun before earlier moment
  pub onward : IsRun moment (record { event = Close link.id; outcome = outcome } ∷ later) after
  pub first : some_step (closes link.id) earlier ≡ false
  pub has_ended : Bool
  pub marked : has_ended ≡ true → IsMarked reads_ended marks link.number
  pub finished : is_finished_with has_ended (find moment.slots link.id) ≡ true

-- why a connection is shut: a read or a write of it failed, a `Feed` of its session ran out of memory, or it was
-- finished with
abbrev pub Cause : List Connection → Report → HostState → List Step → Report → HostState → Link
    → Type 0
Cause marks old before steps new after link =
    IsRaised (old.has_failed link.number) (new.has_failed link.number)
    ⊎ ((some_step (feed_out_of_memory link.id) steps ≡ true)
    ⊎ Finished marks before steps after link)

-- a connection stays open and its session too: no call of it failed, and no `Feed` of its session ran out of memory
pub record Survives (old : Report) (steps : List Step) (new : Report) (link : Link) : Type 0 where
  pub shut : Stays (old.is_shut link.number) (new.is_shut link.number)
  pub closed : some_step (closes link.id) steps ≡ false
  pub failed : Stays (old.has_failed link.number) (new.has_failed link.number)
  pub fed : some_step (feed_out_of_memory link.id) steps ≡ false

-- a connection is shut and its session closed, for a cause of its own
pub record IsShutDown (marks : List Connection) (bound : ℕ) (old : Report) (before : HostState)
    (steps : List Step) (new : Report) (after : HostState) (link : Link) : Type 0 where
  pub shut : link.number < bound → IsRaised (old.is_shut link.number) (new.is_shut link.number)
  pub closed : some_step (closes link.id) steps ≡ true
  pub cause : Cause marks old before steps new after link

-- a connection gave the bytes stored for its session and took the bytes taken from it; it lost bytes exactly if a
-- `Feed` ran out of memory, which closes its session; it is shut only for a cause of its own
pub record Transferred (marks : List Connection) (bound : ℕ) (old : Report) (before : HostState)
    (steps : List Step) (new : Report) (after : HostState) (link : Link) : Type 0 where
  pub lost : List ℕ
  pub consumed : Consumes (old.unread link.number) (new.unread link.number)
      (own link.id steps ++ lost)
  pub given : Appends (old.given link.number) (new.given link.number) (own link.id steps ++ lost)
  pub appended : Appends (old.written link.number) (new.written link.number) (taken link.id steps)
  pub whole : (lost ≡ [])
      ⊎ (IsGone after link.id × (some_step (feed_out_of_memory link.id) steps ≡ true))
  pub fed : some_step (feed_out_of_memory link.id) steps ≡ true → lost ≢ []
  pub ends : Survives old steps new link ⊎ IsShutDown marks bound old before steps new after link

-- ---- marks

-- each connection stays held and unchanged, and each new one is unmarked
pub record Grows (held now : List Connection) : Type 0 where
  pub kept : (connection : Connection) → IsAmong held connection → IsAmong now connection
  pub unmarked : (connection : Connection) → IsAmong now connection
      → IsAmong held connection ⊎ ((connection.has_ended ≡ false) × (connection.is_shut ≡ false))
