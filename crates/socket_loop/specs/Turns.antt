-- A turn of the loop (own choice).
use Rattle.std.specs.Prelude.{◌≡◌, ◌+◌, ◌<◌, ◌≤◌, ◌⊎◌, ℕ, List, [], ◌∷◌, ◌++◌, codes, map, true, IsSome, Option, Bool, false, ◌||◌, ◌≢◌}
use Rattle.std.specs.Io.KnownBytes.{Keeps, Appends, Consumes}
use Rattle.session_slots.specs.declared.id.SessionId.{SessionId}
use Rattle.session_slots.specs.Slots.{find}
use Rattle.usi_session.specs.Due.{SessionView}
use Rattle.usi_session.specs.WholeStream.{replies_under}
use Rattle.host_core.specs.declared.event.HostFault.{HostFault}
use Rattle.host_core.specs.declared.event.HostFault.TheVariants.{Full}
use Rattle.host_core.specs.Steps.{HostState}
use Rattle.host_core.specs.ById.{pending_of}
use Rattle.host_core.specs.Events.{Opened, Refused}
use Rattle.host_core.specs.Made.{Step, is_opened}
use Rattle.host_core.specs.Runs.{IsRun}
use Rattle.host_core.specs.Rounds.{IsRound, works, pending_ids}
use Rattle.host_core.specs.Headline.{EndsFrom, IsPrefixOf}
use Rattle.socket_loop.specs.declared.connection.Link.{Link}
use Rattle.socket_loop.specs.declared.connection.Connection.{Connection}
use Rattle.transport.specs.Report.{Report, KeepsConnection, IsRaised, OnlyRises}
use Rattle.socket_loop.specs.Links.{AreOnce, IsAmong, IsNotAmong, IsMarked, links_of, reads_ended, unshut_of, was_shut, Each, Ties}
use Rattle.socket_loop.specs.Parts.{IsAdmission, IsInput, IsOutput, IsEnd, Transferred, IsGone, LeavesUntouched, closes, some_step}
use Rattle.transport.specs.Moves.{AllMove, IsEmptied, Transfers}
use Rattle.socket_loop.specs.Scenes.{Scene, scene}
use Rattle.transport.specs.declared.wire.Wire.{Ghosts}
use Rattle.socket_loop.specs.Past.{Accepted}

-- the budget of each round, and the connections
pub record LoopState : Type 0 where
  pub slice : ℕ
  pub held : List Connection

-- a relation between two scenes, of a loop, a host and a wire before and after; the budget stays
pub record Over {W : Type 0} (wires : Ghosts W) (Relates : Scene → Scene → Type 0)
    (old : LoopState) (before : HostState) (from : W) (new : LoopState) (after : HostState) (to : W)
    : Type 0 where
  pub slice : new.slice ≡ old.slice
  pub scenes : Relates (scene wires old.held from before) (scene wires new.held to after)

-- ---- the condition of a turn

-- a link that fits: its number came from the wire, its id from the host, and no other link shares just one of them
pub record FitsOne (links : List Link) (bound : ℕ) (host : HostState) (link : Link) : Type 0 where
  pub tied : Each (λ other. Ties other link) links
  pub number : link.number < bound
  pub opened : link.id.generation < host.slots.next

abbrev pub Fits : List Link → ℕ → HostState → Type 0
Fits links bound host = (link : Link) → IsAmong links link → FitsOne links bound host link

-- each link has an open session of its own
pub record HaveSessions (host : HostState) (links : List Link) : Type 0 where
  pub once : AreOnce links
  pub open_all : (link : Link) → IsAmong links link → IsSome (find host.slots link.id)

-- ---- new connections

-- rising numbers, at least `from` and below `to`
abbrev pub AreNumbered : ℕ → List Accepted → ℕ → Type 0
AreNumbered from [] to = from ≤ to
AreNumbered from (first ∷ rest) to = (from ≤ first.number) × AreNumbered (first.number + 1) rest to

-- `info string host full` and LF
abbrev pub host_full : List ℕ
host_full = codes "info string host full\n"

-- the text written to a connection whose `Open` was refused: `info string host full` if the host is full, nothing if
-- memory ran out
abbrev pub rejection_text : HostFault → List ℕ
rejection_text Full = host_full
rejection_text _ = []

-- a new connection was rejected, as its `Open` was refused: it was written a prefix of its text, and shut
pub record IsRejected (from to : ℕ) (accepted : List Accepted) (old new : Report) (number : ℕ)
    : Type 0 where
  pub least : from ≤ number
  pub most : number < to
  pub fault : HostFault
  pub answered : IsAmong accepted (record { number = number; outcome = Refused fault })
  pub unread : Keeps (old.unread number) (new.unread number)
  pub given : Keeps (old.given number) (new.given number)
  pub bytes : List ℕ
  pub prefix : IsPrefixOf bytes (rejection_text fault)
  pub appended : Appends (old.written number) (new.written number) bytes
  pub shut : IsRaised (old.is_shut number) (new.is_shut number)
  pub failed : OnlyRises (old.has_failed number) (new.has_failed number)

-- an accepted connection is held with the session opened for it
abbrev pub HasSession : List Link → Accepted → Type 0
HasSession met new =
    (link : Link)
    × (IsAmong met link × ((link.number ≡ new.number) × (new.outcome ≡ Opened link.id)))

-- ---- a turn

-- a connection was served: what was written, then what its session still owes, is what is owed for the bytes read; if
-- the session is closed, a prefix of it was written
pub record Served (owes : List ℕ → List ℕ) (old new : Report) (number : ℕ)
    (now : Option SessionView) : Type 0 where
  pub read : List ℕ
  pub lost : List ℕ
  pub written : List ℕ
  pub consumed : Consumes (old.unread number) (new.unread number) (read ++ lost)
  pub given : Appends (old.given number) (new.given number) (read ++ lost)
  pub appended : Appends (old.written number) (new.written number) written
  pub ends : EndsFrom owes read written now
  pub whole : IsSome now → lost ≡ []

-- each new connection was served from the replies under the host's setup
abbrev pub ServesNew : Scene → List Link → Scene → Type 0
ServesNew before met after =
    (link : Link)
    → IsAmong met link
    → IsAmong (links_of before.held) link
    ⊎ Served (replies_under before.host.setup) before.report after.report link.number
    (find after.host.slots link.id)

-- a connection was accepted in the turn, with a session of a generation from `next` on and below `last`, which the
-- admissions opened and left open
pub record Joins (from to : ℕ) (accepted : List Accepted) (next last : ℕ) (admissions : List Step)
    (link : Link) : Type 0 where
  pub least : from ≤ link.number
  pub most : link.number < to
  pub answered : IsAmong accepted (record { number = link.number; outcome = Opened link.id })
  pub opened : is_opened link.id admissions ≡ true
  pub unclosed : some_step (closes link.id) admissions ≡ false
  pub fresh : next ≤ link.id.generation
  pub below : link.id.generation < last

-- the steps of a host in a turn, by kind
pub record TurnSteps : Type 0 where
  pub admissions : List Step
  pub inputs : List Step
  pub outputs : List Step
  pub ends : List Step
  pub admissions_are : Each (λ step. IsAdmission step.event) admissions
  pub inputs_are : Each (λ step. IsInput step.event) inputs
  pub outputs_are : Each (λ step. IsOutput step.event) outputs
  pub ends_are : Each (λ step. IsEnd step.event) ends

-- what the host did: opens; feeds and closes; one round; takes and closes; closes
pub record RunsHost (slice : ℕ) (before after : HostState) : Type 0 where
  pub parts : TurnSteps
  pub start : HostState
  pub end : HostState
  pub worked : ℕ
  pub refused : ℕ
  pub to_round : IsRun before (parts.admissions ++ parts.inputs) start
  pub round : IsRound start slice (pending_ids start) worked refused end
  pub from_round : IsRun end (parts.outputs ++ parts.ends) after
  pub steps : List Step
  pub steps_are : steps
      ≡ (parts.admissions ++ parts.inputs)
      ++ (works slice (pending_ids start) round.outcomes ++ (parts.outputs ++ parts.ends))
  pub chain : IsRun before steps after

-- the connections met in a turn: those held before, and those accepted with a session; if nothing moved, none was
-- accepted
pub record Meets (moved : Bool) (before after : Scene) (admissions : List Step) : Type 0 where
  pub met : List Link
  pub accepted : List Accepted
  pub numbered : AreNumbered before.bound accepted after.bound
  pub answers : map (λ step. step.outcome) admissions ≡ map (λ item. item.outcome) accepted
  pub still : moved ≡ false → accepted ≡ []
  pub rises : before.bound ≤ after.bound
  pub tied : (link : Link) → IsAmong met link → Each (λ other. Ties other link) met
  pub stay : (link : Link) → IsAmong (links_of before.held) link → IsAmong met link
  pub are : (link : Link) → IsAmong met link
      → IsAmong (links_of before.held) link
      ⊎ Joins before.bound after.bound accepted before.host.slots.next after.host.slots.next
      admissions link
  pub starts : ServesNew before met after
  pub accounted : (new_one : Accepted) → IsAmong accepted new_one
      → HasSession met new_one
      ⊎ IsRejected before.bound after.bound accepted before.report after.report new_one.number

-- what became of each connection: a met one gave and took the bytes of its steps, and is no longer held once shut;
-- only reads that ended are marked so
pub record Treats (before after : Scene) (met : List Link) (accepted : List Accepted)
    (steps : List Step) : Type 0 where
  pub marks : List Connection
  pub marked : (number : ℕ) → IsMarked reads_ended marks number
      → IsMarked reads_ended before.held number
      ⊎ IsEmptied (before.report.unread number) (after.report.unread number)
  pub ended : (number : ℕ) → IsMarked reads_ended after.held number
      → IsMarked reads_ended marks number
  pub unshut : (number : ℕ) → IsMarked was_shut after.held number → ⊥
  pub left : (link : Link) → IsAmong (links_of after.held) link → IsAmong met link
  pub gone : (link : Link) → IsAmong met link
      → IsAmong (links_of after.held) link
      ⊎ (IsMarked was_shut before.held link.number
      ⊎ ((link.number < after.bound
      → IsRaised (before.report.is_shut link.number) (after.report.is_shut link.number))
      × IsGone after.host link.id))
  pub carried : (link : Link) → IsAmong met link
      → Transferred marks after.bound before.report before.host steps after.report after.host link
  pub others : (number : ℕ) → IsNotAmong met number
      → KeepsConnection before.report after.report number
      ⊎ IsRejected before.bound after.bound accepted before.report after.report number
  pub foreign : (id : SessionId) → id.generation < before.host.slots.next
      → Each (λ other. other.id ≢ id) met → LeavesUntouched id steps
  pub all : AllMove before.report after.report

-- a turn: accept, read, one round of work, write and shut, in this order
pub record IsTurn (slice : ℕ) (moved : Bool) (before after : Scene) : Type 0 where
  pub host : RunsHost slice before.host after.host
  pub meets : Meets moved before after host.parts.admissions
  pub treats : Treats before after meets.met meets.accepted host.steps

-- ---- what moves

-- the marks of a connection stay once they are made
pub record KeepsMade (old new : Connection) : Type 0 where
  pub ended : old.has_ended ≡ true → new.has_ended ≡ true
  pub shut : old.is_shut ≡ true → new.is_shut ≡ true

-- the reads of a connection ended, or it was shut
abbrev pub EndsOrShuts : Connection → Connection → Type 0
EndsOrShuts old new =
    ((old.has_ended ≡ false) × (new.has_ended ≡ true))
    ⊎ ((old.is_shut ≡ false) × (new.is_shut ≡ true))

-- the reads of one of the connections ended, or it was shut
abbrev pub OneEndsOrShuts : List Connection → List Connection → Type 0
OneEndsOrShuts [] ys = ⊥
OneEndsOrShuts (x ∷ xs) [] = ⊥
OneEndsOrShuts (x ∷ xs) (y ∷ ys) = EndsOrShuts x y ⊎ OneEndsOrShuts xs ys

-- a connection gave or took at least one byte, or ended, or was shut; those shut are no longer held
pub record StirsHeld (old : Report) (held : List Connection) (new : Report) (now : List Connection)
    : Type 0 where
  pub last : List Connection
  pub links : links_of last ≡ links_of held
  pub left : now ≡ unshut_of last
  pub stirs : ((link : Link) × (IsAmong (links_of held) link × Transfers old new link.number))
      ⊎ OneEndsOrShuts held last

-- the session of one of the links is pending
abbrev pub any_pending : HostState → List Link → Bool
any_pending host [] = false
any_pending host (link ∷ rest) = pending_of (find host.slots link.id) || any_pending host rest
