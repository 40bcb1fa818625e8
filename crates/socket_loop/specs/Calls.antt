-- The calls of a turn, in order (own choice).
use Rattle.std.specs.Prelude.{◌≡◌, ◌⊎◌, ◌↔◌, true, ℕ, suc, zero, ◌<◌, List, [], ◌∷◌, ◌++◌, length, nat_lt, Bool, not, cond, ◌&&◌, Option, None, Some, Ok, Err, false}
use Rattle.session_slots.specs.declared.id.SessionId.{SessionId}
use Rattle.session_slots.specs.Slots.{find}
use Rattle.host_core.specs.declared.event.HostFault.TheVariants.{Full}
use Rattle.host_core.specs.Steps.{HostState}
use Rattle.host_core.specs.ById.{wants_input_of, queued_of}
use Rattle.host_core.specs.Events.{Event, Outcome, Opened, Refused, Open, Feed, Work, Take, Close}
use Rattle.host_core.specs.Made.{Step}
use Rattle.host_core.specs.Rounds.{CountsRound}
use Rattle.host_core.specs.Runs.{IsRun}
use Rattle.transport.specs.declared.wire.WireFault.{WireFault}
use Rattle.socket_loop.specs.declared.connection.Link.{Link}
use Rattle.socket_loop.specs.declared.connection.Connection.{Connection}
use Rattle.socket_loop.specs.declared.turn.TheConstants.{ACCEPTS}
use Rattle.usi_session.specs.declared.limits.TheConstants.{CHUNK_MAX}
use Rattle.transport.specs.Asked.{Call, Accept, Read, Write, Shut, Asks, IsCalled}
use Rattle.socket_loop.specs.Links.{links_of, unshut_of, IsRising, Each, IsAmong}
use Rattle.socket_loop.specs.Scenes.{Scene}
use Rattle.socket_loop.specs.declared.tally.Tally.{Tally}
use Rattle.socket_loop.specs.declared.visit.Part.{Part}
use Rattle.socket_loop.specs.declared.visit.Part.TheVariants.{Input, Output, End}
use Rattle.socket_loop.specs.Tallies.{IsTally}
use Rattle.socket_loop.specs.Parts.{Grows, IsInput, IsOutput, IsEnd, is_finished}
use Rattle.socket_loop.specs.Turns.{host_full, HasSession, HaveSessions, IsTurn, KeepsMade, ServesNew, Served, StirsHeld, any_pending}
use Rattle.socket_loop.specs.Past.{Accepted}
use Rattle.usi_session.specs.Due.{SessionView, due}
use Rattle.transport.specs.Report.{KeepsAll}

-- ---- one connection

-- the connection is to be read: its reads have not ended, it is not shut, and its session wants input
abbrev pub is_to_read : HostState → Connection → Bool
is_to_read host connection =
    (not connection.has_ended && not connection.is_shut)
    && wants_input_of (find host.slots connection.link.id)

-- the connection is to be written: it is not shut, and its session has output
abbrev pub is_to_write : HostState → Connection → Bool
is_to_write host connection =
    not connection.is_shut && nat_lt 0 (length (queued_of (find host.slots connection.link.id)))

-- the connection is to be shut: it is finished with, and not shut yet
abbrev pub is_to_shut : HostState → Connection → Bool
is_to_shut host connection = not connection.is_shut && is_finished host connection

-- the call that shut the connection, if it was not shut before
abbrev pub shuts_of : Connection → Connection → List Call
shuts_of old new = cond (new.is_shut && not old.is_shut) (Shut old.link.number ∷ []) []

-- the calls of a read: one read if the connection is to be read, then a shut if it was shut
abbrev pub reads_of : HostState → Connection → Connection → List Call
reads_of host old new =
    cond (is_to_read host old) (Read old.link.number CHUNK_MAX ∷ shuts_of old new) []

-- the calls of a write: one write of all that is queued if the connection is to be written, then a shut if it was
-- shut
abbrev pub writes_of : HostState → Connection → Connection → List Call
writes_of host old new =
    cond (is_to_write host old)
    (Write old.link.number (queued_of (find host.slots old.link.id)) ∷ shuts_of old new) []

-- the call of an end: a shut if the connection is finished with
abbrev pub ends_of : HostState → Connection → Connection → List Call
ends_of host old new = cond (is_to_shut host old) (Shut old.link.number ∷ []) []

-- the calls for a connection in each part of a turn
abbrev pub calls_of : Part → HostState → Connection → Connection → List Call
calls_of Input = reads_of
calls_of Output = writes_of
calls_of End = ends_of

-- the host events of each part of a turn
abbrev pub steps_of : Part → Event → Type 0
steps_of Input = IsInput
steps_of Output = IsOutput
steps_of End = IsEnd

-- an event of the session of this id
abbrev pub IsOf : SessionId → Event → Type 0
IsOf id Open = ⊥
IsOf id (Feed other chunk) = other ≡ id
IsOf id (Work other budget) = other ≡ id
IsOf id (Take other n) = other ≡ id
IsOf id (Close other) = other ≡ id

-- the host made steps of this kind, all for one session
pub record Visits (kind : Event → Type 0) (id : SessionId) (old new : HostState) : Type 0 where
  pub steps : List Step
  pub kinds : Each (λ step. kind step.event) steps
  pub of_it : Each (λ step. IsOf id step.event) steps
  pub run : IsRun old steps new

-- a connection was visited with these calls: it is shut exactly if it was before or a call shut it, its session is
-- closed if it was shut now, and its reads end only by a read
pub record IsVisit (after : HostState) (calls : List Call) (old new : Connection) : Type 0 where
  pub link : new.link ≡ old.link
  pub made : KeepsMade old new
  pub shut : new.is_shut ≡ true ↔ (old.is_shut ≡ true) ⊎ IsCalled calls (Shut old.link.number)
  pub closed : new.is_shut ≡ true → (old.is_shut ≡ true) ⊎ (find after.slots old.link.id ≡ None)
  pub ended : new.has_ended ≡ true
      → (old.has_ended ≡ true) ⊎ IsCalled calls (Read old.link.number CHUNK_MAX)

-- ---- one connection after the other

-- the first `n` connections were visited, each with the calls due in the host's state at that time; the others are
-- unchanged
abbrev pub AreVisitedTo : ℕ → (HostState → Connection → Connection → List Call) → (Event → Type 0)
    → HostState → List Connection → List Connection → List Call → HostState → Type 0
AreVisitedTo zero due kind before xs ys calls after = (ys ≡ xs) × ((calls ≡ []) × (after ≡ before))
AreVisitedTo (suc n) due kind before [] ys calls after = ⊥
AreVisitedTo (suc n) due kind before (x ∷ xs) [] calls after = ⊥
AreVisitedTo (suc n) due kind before (x ∷ xs) (y ∷ ys) calls after =
    (mid : HostState)
    × ((rest : List Call)
    × ((calls ≡ due before x y ++ rest)
    × (IsVisit mid (due before x y) x y
    × (Visits kind x.link.id before mid × AreVisitedTo n due kind mid xs ys rest after))))

-- the first `n` connections were visited, and the wire was asked for exactly the calls of these visits
pub record AsksTo (n : ℕ) (due : HostState → Connection → Connection → List Call)
    (kind : Event → Type 0) (before : HostState) (xs ys : List Connection)
    (old new : Option (List Call)) (after : HostState) : Type 0 where
  pub calls : List Call
  pub visited : AreVisitedTo n due kind before xs ys calls after
  pub asked : Asks old new calls

-- ---- new connections

-- the calls after an accept: none if a session was opened and is held; a write of `info string host full` and a shut
-- if the host is full; a shut alone if memory ran out
abbrev pub IsAdmittedAs : List Link → Accepted → Outcome → List Call → Type 0
IsAdmittedAs met item (Opened id) calls = HasSession met item × (calls ≡ [])
IsAdmittedAs met item (Refused Full) calls =
    calls ≡ Write item.number host_full ∷ Shut item.number ∷ []
IsAdmittedAs met item _ calls = calls ≡ Shut item.number ∷ []

-- these connections were accepted, one after the other, with these calls
abbrev pub AreAccepted : List Link → List Accepted → List Call → Type 0
AreAccepted met [] calls = calls ≡ []
AreAccepted met (first ∷ items) calls =
    (more : List Call)
    × ((rest : List Call)
    × ((calls ≡ Accept (Ok (Some first.number)) ∷ (more ++ rest))
    × (IsAdmittedAs met first first.outcome more × AreAccepted met items rest)))

-- accepting ends after `ACCEPTS` connections, or with an accept that gives nobody
abbrev pub EndsAccepting : List Accepted → List Call → Type 0
EndsAccepting items last =
    ((length items ≡ ACCEPTS) × (last ≡ []))
    ⊎ ((length items < ACCEPTS)
    × ((last ≡ Accept (Ok None) ∷ [])
    ⊎ ((fault : WireFault) × (last ≡ Accept (Err fault) ∷ []))))

-- connections were accepted until one accept gave nobody, or `ACCEPTS` were; accepting may end earlier only if a held
-- connection has no open session of its own, as when its session was closed from elsewhere
pub record AsksAll (host : HostState) (links met : List Link) (items : List Accepted)
    (old new : Option (List Call)) : Type 0 where
  pub first : List Call
  pub last : List Call
  pub accepted : AreAccepted met items first
  pub ends : EndsAccepting items last ⊎ ((last ≡ []) × ¬ HaveSessions host links)
  pub asked : Asks old new (first ++ last)

-- ---- a turn

-- the accepts of a turn, and the connections it holds after them
pub record AsksArrivals (slice : ℕ) (moved : Bool) (before after : Scene)
    (turn : IsTurn slice moved before after) : Type 0 where
  pub accepted : Option (List Call)
  pub accepts : AsksAll before.host (links_of before.held) turn.meets.met turn.meets.accepted
      before.asked accepted
  pub middle : HostState
  pub to_middle : IsRun before.host turn.host.parts.admissions middle
  pub met : List Connection
  pub met_are : links_of met ≡ turn.meets.met
  pub grows : Grows before.held met
  pub rising : IsRising (links_of before.held) → IsRising (links_of met)

-- a read for each connection to be read; after the round, a write for each to be written, and a shut for each that is
-- finished with
pub record AsksVisits (start end middle : HostState) (met marks : List Connection)
    (accepted : Option (List Call)) (after : Scene) : Type 0 where
  pub read : List Connection
  pub asked_reads : Option (List Call)
  pub reads : AsksTo (length met) reads_of IsInput middle met read accepted asked_reads start
  pub asked_writes : Option (List Call)
  pub passed : HostState
  pub writes : AsksTo (length read) writes_of IsOutput end read marks asked_reads asked_writes
      passed
  pub last : List Connection
  pub ends : AsksTo (length marks) ends_of IsEnd passed marks last asked_writes after.asked
      after.host
  pub left : after.held ≡ unshut_of last

-- a turn, its calls and its counts
pub record AsksTurn (slice : ℕ) (moved : Bool) (tally : Tally) (before after : Scene)
    : Type 0 where
  pub turn : IsTurn slice moved before after
  pub accepts : AsksArrivals slice moved before after turn
  pub visits : AsksVisits turn.host.start turn.host.end accepts.middle accepts.met
      turn.treats.marks accepts.accepted after
  pub tallied : IsTally turn.meets.accepted accepts.met visits.read turn.treats.marks visits.last
      turn.host.refused tally
  pub counted : CountsRound turn.host.start slice tally.steps tally.bestmoves turn.host.end

-- a turn and what it did: if it moved, a connection was accepted, gave or took a byte, ended or was shut, or a
-- session is pending; each open session, and each new one, was served
pub record Turns (slice : ℕ) (moved : Bool) (tally : Tally) (before after : Scene) : Type 0 where
  pub asked : AsksTurn slice moved tally before after
  pub moves : moved ≡ true
      → (before.bound < after.bound)
      ⊎ (StirsHeld before.report before.held after.report after.held
      ⊎ (any_pending after.host (links_of after.held) ≡ true))
  pub quiet : moved ≡ false
      → KeepsAll before.report after.report × (after.held ≡ unshut_of before.held)
  pub continues : (link : Link) (session : SessionView)
      → IsAmong (links_of before.held) link
      → find before.host.slots link.id ≡ Some session
      → Served (due session) before.report after.report link.number
      (find after.host.slots link.id)
  pub starts : ServesNew before (links_of after.held) after
