-- Changes to the sessions of a host during a replay.
use Rattle.std.specs.Prelude.{◌≡◌, ◌≢◌, ◌<◌, ℕ, List, [], ◌++◌, Option, Some, None, true}
use Rattle.std.specs.List.{All}
use Rattle.session_slots.specs.declared.id.SessionId.{SessionId}
use Rattle.session_slots.specs.Slots.{find, count}
use Rattle.usi_session.specs.Due.{SessionView, due}
use Rattle.usi_stdio.specs.Saying.{slices_of}
use Rattle.host_core.specs.ById.{pending_of}
use Rattle.host_core.specs.Steps.{HostState, IsOpened, IsClosed}
use Rattle.host_core.specs.Events.{Event, Work, Outcome, Opened, Refused}
use Rattle.host_core.specs.Made.{Step}
use Rattle.host_core.specs.Runs.{IsRun}
use Rattle.host_core.specs.declared.event.HostFault.TheVariants.{Full}
use Rattle.usi_replay.specs.Playback.{Transcript}

-- no session in either, or a session in both with the same replies due
abbrev pub OwesTheSame : Option SessionView → Option SessionView → Type 0
OwesTheSame None None = Unit {0}
OwesTheSame (Some s) (Some t) = (x : List ℕ) → due t x ≡ due s x
OwesTheSame _ _ = ⊥

-- sessions may have gone on, with the same replies due
pub record KeepsRepliesDue (old new : HostState) : Type 0 where
  pub owed : (id : SessionId) → OwesTheSame (find old.slots id) (find new.slots id)
  pub count_is : count new.slots ≡ count old.slots
  pub max_is : new.slots.max ≡ old.slots.max
  pub next_is : new.slots.next ≡ old.slots.next
  pub setup_is : new.setup ≡ old.setup

-- the slices that a session may still need
abbrev pub works_left : Option SessionView → ℕ
works_left None = 0
works_left (Some t) = slices_of t

-- each session that was pending may need fewer slices
abbrev pub NeedFewerWorks : HostState → HostState → Type 0
NeedFewerWorks old new =
    (id : SessionId) → pending_of (find old.slots id) ≡ true
    → works_left (find new.slots id) < works_left (find old.slots id)

-- all sessions but one are unchanged
pub record KeepsAllBut (old new : HostState) (id : SessionId) : Type 0 where
  pub others : (other : SessionId) → other ≢ id → find new.slots other ≡ find old.slots other
  pub count_is : count new.slots ≡ count old.slots
  pub max_is : new.slots.max ≡ old.slots.max
  pub next_is : new.slots.next ≡ old.slots.next
  pub setup_is : new.setup ≡ old.setup

-- queued bytes moved to the output made
abbrev pub IsCollected : Option SessionView → Option SessionView → List ℕ → List ℕ → Type 0
IsCollected None now made more = (now ≡ None) × (more ≡ made)
IsCollected (Some s) None made more = ⊥
IsCollected (Some s) (Some t) made more =
    (more ≡ made ++ s.queued) × ((x : List ℕ) → due s x ≡ s.queued ++ due t x)

-- the queued bytes of the session moved to its transcript
abbrev pub MovesToTranscript : HostState → HostState → SessionId → Transcript → Transcript → Type 0
MovesToTranscript old new id before after =
    IsCollected (find old.slots id) (find new.slots id) before.made after.made

-- feeding the bytes leaves due the replies to them and to any that follow
abbrev pub OwesRepliesTo : Option SessionView → Option SessionView → List ℕ → Type 0
OwesRepliesTo None now chunk = Unit {0}
OwesRepliesTo (Some s) None chunk = ⊥
OwesRepliesTo (Some s) (Some t) chunk = (x : List ℕ) → due t x ≡ due s (chunk ++ x)

-- a session was opened, or there was no room
abbrev pub IsOpenedAs : HostState → Option SessionId → HostState → Type 0
IsOpenedAs old (Some id) new = IsOpened old (Opened id) new
IsOpenedAs old None new = IsOpened old (Refused Full) new

-- a session was closed, if there was one
abbrev pub IsClosedAs : HostState → Option SessionId → HostState → Type 0
IsClosedAs old (Some id) new = (outcome : Outcome) × IsClosed old id (find old.slots id) outcome new
IsClosedAs old None new = new ≡ old

-- no session was opened yet
abbrev pub HasOpenedNone : HostState → Type 0
HasOpenedNone host = host.slots ≡ record { max = host.slots.max; next = 0; slots = [] }

-- the event, if it is a work, has a budget of `slice` steps
abbrev pub WorksBy : ℕ → Event → Type 0
WorksBy slice (Work id budget) = budget ≡ slice
WorksBy slice _ = Unit {0}

-- a run of the host in which each work has a budget of `slice` steps
pub record RunsBy (slice : ℕ) (old new : HostState) : Type 0 where
  pub steps : List Step
  pub run : IsRun old steps new
  pub each : All (λ step. WorksBy slice step.event) steps
