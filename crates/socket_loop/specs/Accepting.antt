-- The accepts of a turn, as the private functions of a turn promise them (own choice).
use Rattle.std.specs.Prelude.{ℕ, ◌≡◌, List, [], ◌∷◌, length, cond, ◌<◌, ◌≤◌, ◌⊎◌, map, true, Option, false, suc, nat_lt}
use Rattle.host_core.specs.Events.{Outcome, Opened}
use Rattle.host_core.specs.Headline.{IsPrefixOf}
use Rattle.host_core.specs.Made.{Step, own, taken, is_opened}
use Rattle.host_core.specs.Runs.{IsRun}
use Rattle.host_core.specs.Steps.{HostState}
use Rattle.session_slots.specs.declared.id.SessionId.{SessionId}
use Rattle.socket_loop.specs.declared.connection.Connection.{Connection}
use Rattle.socket_loop.specs.declared.connection.Link.{Link}
use Rattle.socket_loop.specs.declared.tally.Admission.{Admission}
use Rattle.socket_loop.specs.declared.tally.Arrivals.{Arrivals}
use Rattle.std.specs.Io.KnownBytes.{Appends, Keeps}
use Rattle.transport.specs.Asked.{Call, Asks}
use Rattle.transport.specs.Moves.{AllMove}
use Rattle.transport.specs.Report.{Report, KeepsConnection, KeepsOthers, KeepsAll, IsRaised, OnlyRises}
use Rattle.socket_loop.specs.Past.{Accepted}
use Rattle.socket_loop.specs.Turns.{AreNumbered, Fits, HasSession, IsRejected}
use Rattle.socket_loop.specs.Links.{AreOnce, Each, IsAmong, IsMarked, IsNotAmong, IsRising, links_of, reads_ended, was_shut}
use Rattle.socket_loop.specs.Calls.{AsksAll, IsAdmittedAs}
use Rattle.socket_loop.specs.Parts.{Grows, IsAdmission}
use Rattle.socket_loop.specs.Scenes.{Scene}
use Rattle.socket_loop.specs.Tallies.{count_of, full_of, unopened_of}
use Rattle.socket_loop.specs.Visits.{IsQuiet}

-- the index of the first connection with a greater slot
abbrev pub place_for : ℕ → List Connection → ℕ
place_for slot [] = 0
place_for slot (first ∷ rest) = cond (nat_lt slot first.link.id.slot) 0 (suc (place_for slot rest))

-- a connection just accepted: its reads have not ended, and it is not shut
abbrev pub new_connection : Link → Connection
new_connection link = record { link = link; has_ended = false; is_shut = false }

-- the counts of the connections accepted
pub record AreArrivals (items : List Accepted) (arrivals : Arrivals) : Type 0 where
  pub accepted : arrivals.accepted ≡ length items
  pub full : arrivals.full ≡ count_of full_of items
  pub unopened : arrivals.unopened ≡ count_of unopened_of items

-- no connection became marked as ended or as shut
pub record AddsNoMark (held now : List Connection) (number : ℕ) : Type 0 where
  pub ended : IsMarked reads_ended now number → IsMarked reads_ended held number
  pub shut : IsMarked was_shut now number → IsMarked was_shut held number

-- each connection stays held and unchanged, and each new one is unmarked; rising slots stay rising; the count of
-- faults never falls
pub record HoldsMore (held : List Connection) (before : ℕ) (now : List Connection) (after : ℕ)
    : Type 0 where
  pub grows : Grows held now
  pub marks : (number : ℕ) → AddsNoMark held now number
  pub rising : IsRising (links_of held) → IsRising (links_of now)
  pub faults : before ≤ after

-- a connection was written a prefix of a text, and shut
pub record IsShutAfterPrefix (bound : ℕ) (text : List ℕ) (old new : Report) (number : ℕ)
    : Type 0 where
  pub unread : Keeps (old.unread number) (new.unread number)
  pub given : Keeps (old.given number) (new.given number)
  pub bytes : List ℕ
  pub prefix : IsPrefixOf bytes text
  pub appended : Appends (old.written number) (new.written number) bytes
  pub shut : number < bound → IsRaised (old.is_shut number) (new.is_shut number)
  pub only_rises : OnlyRises (old.is_shut number) (new.is_shut number)
  pub failed : OnlyRises (old.has_failed number) (new.has_failed number)
  pub others : KeepsOthers old new number

-- a new connection has a session that was opened for it, of this generation or a later one
pub record IsNew (from to : ℕ) (accepted : List Accepted) (next : ℕ) (old new : Report)
    (steps : List Step) (link : Link) : Type 0 where
  pub least : from ≤ link.number
  pub most : link.number < to
  pub answered : IsAmong accepted (record { number = link.number; outcome = Opened link.id })
  pub opened : is_opened link.id steps ≡ true
  pub fresh : next ≤ link.id.generation
  pub kept : KeepsConnection old new link.number

-- the host opened sessions alone, and its answers are the outcomes of the connections accepted
pub record Admissions (accepted : List Accepted) (before after : HostState) : Type 0 where
  pub steps : List Step
  pub kinds : Each (λ step. IsAdmission step.event) steps
  pub chain : IsRun before steps after
  pub no_own : (id : SessionId) → own id steps ≡ []
  pub no_taken : (id : SessionId) → taken id steps ≡ []
  pub answers : map (λ step. step.outcome) steps ≡ map (λ new. new.outcome) accepted

-- new connections were accepted: what is reported of a number stays, or its connection was rejected
pub record Accepts (links : List Link) (from : ℕ) (old : Report) (before : HostState)
    (met : List Link) (to : ℕ) (new : Report) (after : HostState) : Type 0 where
  pub accepted : List Accepted
  pub host : Admissions accepted before after
  pub rises : from ≤ to
  pub numbered : AreNumbered from accepted to
  pub kept : (number : ℕ) → number < from → KeepsConnection old new number
  pub each : (number : ℕ)
      → KeepsConnection old new number ⊎ IsRejected from to accepted old new number
  pub all : AllMove old new
  pub accounted : Fits links from before → (new_one : Accepted) → IsAmong accepted new_one
      → HasSession met new_one
      ⊎ (IsRejected from to accepted old new new_one.number × IsNotAmong met new_one.number)
  pub stay : (link : Link) → IsAmong links link → IsAmong met link
  pub are : (link : Link) → IsAmong met link
      → IsAmong links link
      ⊎ IsNew from to accepted before.slots.next old new host.steps link
  pub fits : Fits links from before → Fits met to after
  pub once : Fits links from before → AreOnce links → AreOnce met

-- exactly these connections were accepted
pub record AcceptsThese (items : List Accepted) (links : List Link) (from : ℕ) (old : Report)
    (before : HostState) (met : List Link) (to : ℕ) (new : Report) (after : HostState)
    : Type 0 where
  pub accepts : Accepts links from old before met to new after
  pub items_are : accepts.accepted ≡ items

-- a new connection was accepted, from any state of the wire with this report
abbrev pub Admits : List Link → Report → HostState → ℕ → Outcome → ℕ → List Link → Report
    → HostState → Type 0
Admits links report before number outcome to met new after =
    (from : ℕ) (old : Report) → KeepsAll old report → from ≤ number → number < to
    → AcceptsThese (record { number = number; outcome = outcome } ∷ []) links from old before met to
    new after

-- the calls for one new connection, after its accept
pub record AsksAdmission (met : List Link) (number : ℕ) (outcome : Outcome)
    (old new : Option (List Call)) : Type 0 where
  pub calls : List Call
  pub admitted : IsAdmittedAs met (record { number = number; outcome = outcome }) outcome calls
  pub asked : Asks old new calls

-- one new connection was admitted, with its calls and its counts
pub record AdmitsOne (number : ℕ) (admission : Admission) (before after : Scene) : Type 0 where
  pub outcome : Outcome
  pub admits : Admits (links_of before.held) before.report before.host number outcome before.bound
      (links_of after.held) after.report after.host
  pub asked : AsksAdmission (links_of after.held) number outcome before.asked after.asked
  pub full : admission.full ≡ full_of outcome
  pub unopened : admission.unopened ≡ unopened_of outcome
  pub more : HoldsMore before.held before.failed after.held after.failed
  pub bound : after.bound ≡ before.bound

-- connections were accepted, with all their calls and counts
pub record AllAccepted (arrivals : Arrivals) (links : List Link) (from : ℕ) (old : Report)
    (before : HostState) (met : List Link) (to : ℕ) (new : Report) (after : HostState)
    (old_calls new_calls : Option (List Call)) : Type 0 where
  pub accepts : Accepts links from old before met to new after
  pub none : arrivals.moved ≡ false → accepts.accepted ≡ []
  pub numbers : AreArrivals accepts.accepted arrivals
  pub asked : AsksAll before links met accepts.accepted old_calls new_calls

-- connections were accepted, if any; if none was, the report and the connections stay
pub record AcceptsAll (arrivals : Arrivals) (before after : Scene) : Type 0 where
  pub accepts : AllAccepted arrivals (links_of before.held) before.bound before.report before.host
      (links_of after.held) after.bound after.report after.host before.asked after.asked
  pub quiet : IsQuiet arrivals.moved before.report before.held after.report after.held
  pub accepted : arrivals.moved ≡ true → before.bound < after.bound
  pub more : HoldsMore before.held before.failed after.held after.failed
