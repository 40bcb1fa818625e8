-- Visits of connections, as the private functions of a turn promise them (own choice).
use Rattle.std.specs.Prelude.{◌≡◌, ◌≤◌, ◌<◌, ◌⊎◌, ℕ, List, [], ◌∷◌, length, Bool, true, false, None, ⊤, ◌≢◌}
use Rattle.std.specs.Io.KnownBytes.{Keeps}
use Rattle.session_slots.specs.Slots.{find}
use Rattle.host_core.specs.ById.{wants_input_of}
use Rattle.host_core.specs.Events.{Event, Outcome, Close}
use Rattle.host_core.specs.Steps.{HostState}
use Rattle.socket_loop.specs.declared.connection.Connection.{Connection}
use Rattle.transport.specs.Asked.{Call, Asks}
use Rattle.transport.specs.Moves.{GaveBytes, IsEmptied, Transfers, AllMove}
use Rattle.transport.specs.Report.{Report, IsRaised, Stays, KeepsConnection, KeepsAll}
use Rattle.transport.specs.declared.wire.Wire.{Ghosts}
use Rattle.socket_loop.specs.Links.{links_of, reads_ended, AreOnce, IsMarked, Each, IsNotAmong, Ties, was_shut, IsAmong}
use Rattle.socket_loop.specs.Scenes.{Scene, scene}
use Rattle.socket_loop.specs.Parts.{IsInput, LeavesUntouched, Transferred, is_finished}
use Rattle.socket_loop.specs.Turns.{EndsOrShuts, KeepsMade, OneEndsOrShuts}
use Rattle.socket_loop.specs.Calls.{AsksTo, Visits, calls_of, shuts_of, steps_of}
use Rattle.socket_loop.specs.declared.visit.Part.{Part}
use Rattle.socket_loop.specs.declared.visit.Part.TheVariants.{End}
use Rattle.host_core.specs.Made.{Step}
use Rattle.host_core.specs.Runs.{IsRun, IsStep}
use Rattle.session_slots.specs.declared.id.SessionId.{SessionId}
use Rattle.socket_loop.specs.declared.connection.Link.{Link}

-- the session of the id wants input
abbrev pub WantsInput : HostState → SessionId → Type 0
WantsInput host id = wants_input_of (find host.slots id) ≡ true

-- if nothing moved, the report and the connections stay
abbrev pub IsQuiet : {X : Type 0} → Bool → Report → X → Report → X → Type 0
IsQuiet moved old held new now = moved ≡ false → KeepsAll old new × (now ≡ held)

-- a connection gave or took at least one byte, or ended, or was shut
abbrev pub Stirs : Report → List Connection → Report → List Connection → Type 0
Stirs old held new now =
    ((link : Link) × (IsAmong (links_of held) link × Transfers old new link.number))
    ⊎ OneEndsOrShuts held now

-- the session was closed, if it was open
pub record IsClosing (old : HostState) (id : SessionId) (new : HostState) : Type 0 where
  pub outcome : Outcome
  pub step : IsStep old (record { event = Close id; outcome = outcome }) new

-- the steps of the host carry the bytes of these connections, and of no other
pub record Carries (marks : List Connection) (bound : ℕ) (links : List Link) (old : Report)
    (before : HostState) (steps : List Step) (new : Report) (after : HostState) : Type 0 where
  pub chain : IsRun before steps after
  pub carried : (link : Link) → Each (λ other. Ties other link) links
      → Transferred marks bound old before steps new after link
  pub others : (number : ℕ) → IsNotAmong links number → KeepsConnection old new number
  pub foreign : (id : SessionId) → Each (λ other. other.id ≢ id) links → LeavesUntouched id steps
  pub all : AllMove old new

-- steps of this kind carry the bytes of these connections
pub record CarriesBy (kind : Event → Type 0) (marks : List Connection) (bound : ℕ)
    (links : List Link) (old : Report) (before : HostState) (new : Report) (after : HostState)
    : Type 0 where
  pub steps : List Step
  pub kinds : Each (λ step. kind step.event) steps
  pub carries : Carries marks bound links old before steps new after

-- steps of this kind carry the bytes of the connections held
abbrev pub TransfersHeld : (Event → Type 0) → List Connection → Scene → Scene → Type 0
TransfersHeld kind marks before after =
    CarriesBy kind marks before.bound (links_of before.held) before.report before.host
    after.report after.host

-- if the reads of a connection are marked as ended, they were before, or nothing is left to read; if it is marked as
-- shut, it was before, or the wire reports it
pub record KeepsMarks (bound : ℕ) (old : Report) (held : List Connection) (new : Report)
    (now : List Connection) (number : ℕ) : Type 0 where
  pub ended : IsMarked reads_ended now number
      → IsMarked reads_ended held number ⊎ IsEmptied (old.unread number) (new.unread number)
  pub shut : IsMarked was_shut now number
      → IsMarked was_shut held number
      ⊎ (number < bound → IsRaised (old.is_shut number) (new.is_shut number))

-- the connection was shut, or is not finished with
abbrev pub IsLeft : HostState → Connection → Type 0
IsLeft host connection = (connection.is_shut ≡ true) ⊎ (is_finished host connection ≡ false)

abbrev pub AllKeepMade : List Connection → List Connection → Type 0
AllKeepMade [] [] = ⊤
AllKeepMade [] (y ∷ ys) = ⊥
AllKeepMade (x ∷ xs) [] = ⊥
AllKeepMade (x ∷ xs) (y ∷ ys) = KeepsMade x y × AllKeepMade xs ys

-- a connection was visited with steps of this kind: its link and its marks stay; if it was shut now, its session is
-- closed and the wire reports the shut
pub record IsVisited (kind : Event → Type 0) (old new : Connection) (before after : Scene)
    : Type 0 where
  pub steps : Visits kind old.link.id before.host after.host
  pub link : new.link ≡ old.link
  pub made : KeepsMade old new
  pub closed : new.is_shut ≡ true
      → (old.is_shut ≡ true) ⊎ (find after.host.slots old.link.id ≡ None)
  pub shut : new.is_shut ≡ true
      → (old.is_shut ≡ true)
      ⊎ (old.link.number < before.bound
      → IsRaised (before.report.is_shut old.link.number) (after.report.is_shut old.link.number))
  pub bound : after.bound ≡ before.bound
  pub faults : before.failed ≤ after.failed
  pub next : before.host.slots.next ≤ after.host.slots.next

-- a connection was visited with the calls due; if that moved, it gave or took at least one byte, ended or was shut;
-- otherwise the report and the connection stay
pub record VisitsOne (due : HostState → Connection → Connection → List Call) (kind : Event → Type 0)
    (moved : Bool) (old new : Connection) (before after : Scene) : Type 0 where
  pub visit : IsVisited kind old new before after
  pub asked : Asks before.asked after.asked (due before.host old new)
  pub quiet : IsQuiet moved before.report old after.report new
  pub stirs : moved ≡ true
      → Transfers before.report after.report old.link.number ⊎ EndsOrShuts old new

-- a connection's session was fed these bytes, or the connection was shut as memory ran out; if it had just given
-- these bytes without a failed call, the steps carry them
pub record FeedsOne (chunk : List ℕ) (old new : Connection) (before after : Scene) : Type 0 where
  pub visit : IsVisited IsInput old new before after
  pub asked : old.is_shut ≡ false → Asks before.asked after.asked (shuts_of old new)
  pub carries : (marks : List Connection) (earlier : Report)
      → GaveBytes earlier before.report old.link.number chunk
      → Stays (earlier.has_failed old.link.number) (before.report.has_failed old.link.number)
      → CarriesBy IsInput marks before.bound (old.link ∷ []) earlier before.host
      after.report after.host
  pub unread : Keeps (before.report.unread old.link.number) (after.report.unread old.link.number)
  pub given : Keeps (before.report.given old.link.number) (after.report.given old.link.number)

-- if the reads of a connection have ended, they had before, or nothing is left to read
abbrev pub EndsEmptied : Connection → Connection → Report → Report → Type 0
EndsEmptied old new before after =
    new.has_ended ≡ true
    → (old.has_ended ≡ true)
    ⊎ IsEmptied (before.unread old.link.number) (after.unread old.link.number)

-- a connection was visited in a part of a turn, and its bytes are carried; if it is shut as finished with, `marks`
-- has its ended reads
pub record CarriesOne (part : Part) (moved : Bool) (old new : Connection) (before after : Scene)
    : Type 0 where
  pub visited : VisitsOne (calls_of part) (steps_of part) moved old new before after
  pub carries : (marks : List Connection)
      → (part ≡ End → old.has_ended ≡ true → IsMarked reads_ended marks old.link.number)
      → TransfersHeld (steps_of part) marks before after

-- ---- visits of the code's connections, hosts and wires

-- a relation between two connections and their scenes, of a host and a wire before and after
abbrev pub OverOne : {W : Type 0} → Ghosts W → (Connection → Connection → Scene → Scene → Type 0)
    → Connection → HostState → W → Connection → HostState → W → Type 0
OverOne wires Relates old before from new after to =
    Relates old new (scene wires (old ∷ []) from before) (scene wires (new ∷ []) to after)

-- ---- one connection after the other

-- the first `n` connections were visited with the calls due; if that moved, one gave or took at least one byte, ended
-- or was shut; otherwise the report and the connections stay
pub record VisitsTo (n : ℕ) (due : HostState → Connection → Connection → List Call)
    (kind : Event → Type 0) (moved : Bool) (before after : Scene) : Type 0 where
  pub asked : AsksTo n due kind before.host before.held after.held before.asked after.asked
      after.host
  pub quiet : IsQuiet moved before.report before.held after.report after.held
  pub stirs : moved ≡ true → Stirs before.report before.held after.report after.held
  pub marks : (number : ℕ)
      → KeepsMarks before.bound before.report before.held after.report after.held number
  pub made : AllKeepMade before.held after.held
  pub links : links_of after.held ≡ links_of before.held
  pub bound : after.bound ≡ before.bound
  pub faults : before.failed ≤ after.failed

-- each connection that was finished with was shut; no reads end
pub record EndsEach (before after : Scene) : Type 0 where
  pub ended : (number : ℕ) → IsMarked reads_ended after.held number
      → IsMarked reads_ended before.held number
  pub left : AreOnce (links_of before.held) → Each (IsLeft after.host) after.held

-- each connection was visited in a part of a turn, and its bytes are carried; if it is shut as finished with, `marks`
-- has its ended reads
pub record CarriesEach (part : Part) (moved : Bool) (before after : Scene) : Type 0 where
  pub visited : VisitsTo (length before.held) (calls_of part) (steps_of part) moved before after
  pub carries : (marks : List Connection)
      → (part ≡ End → (number : ℕ) → IsMarked reads_ended before.held number
      → IsMarked reads_ended marks number)
      → TransfersHeld (steps_of part) marks before after
  pub ends : part ≡ End → EndsEach before after
