-- Events and outcomes of the code as those of the definitions.
use Rattle.std.specs.Prelude.{ℕ, List, Result, Ok, Err, IfOk, Vec, take}
use Rattle.session_slots.specs.declared.id.SessionId.{SessionId}
use Rattle.session_slots.specs.Slots.{find}
use Rattle.host_core.specs.declared.event.Event as code_event
use Rattle.host_core.specs.declared.event.Event.TheVariants as event
use Rattle.host_core.specs.declared.event.Outcome as code_outcome
use Rattle.host_core.specs.declared.event.Outcome.TheVariants as outcome
use Rattle.host_core.specs.declared.event.HostFault.{HostFault}
use Rattle.host_core.specs.Events as events
use Rattle.host_core.specs.ById.{queued_of}
use Rattle.host_core.specs.Made.{Step, steps_made}
use Rattle.host_core.specs.Steps.{HostState}

abbrev pub event_of : code_event.Event → events.Event
event_of event.Open = events.Open
event_of (event.Feed id chunk) = events.Feed id chunk.now
event_of (event.Work id budget) = events.Work id budget
event_of (event.Take id n) = events.Take id n
event_of (event.Close id) = events.Close id

abbrev pub outcome_of : {A : Type 0} → code_outcome.Outcome A → events.Outcome
outcome_of (outcome.Opened id) = events.Opened id
outcome_of outcome.Done = events.Done
outcome_of (outcome.Worked steps) = events.Worked steps
outcome_of (outcome.Gave bytes) = events.Gave bytes
outcome_of (outcome.Refused fault) = events.Refused fault

-- the events of a run with their outcomes
abbrev pub answered : {A : Type 0} → List code_event.Event → List (code_outcome.Outcome A)
    → List Step
answered {A} es os = steps_made event_of (outcome_of {A = A}) es os

-- the property holds of the events with their outcomes, if the run has any
abbrev pub OfSteps : {A Z E : Type 0} → List code_event.Event
    → Result (Vec (code_outcome.Outcome A) Z) E → (List Step → Type 0) → Type 0
OfSteps es result P = IfOk result (λ outcomes. P (answered es outcomes.items))

-- the result of a call as an outcome: a fault is a refusal
abbrev pub as_outcome : {X : Type 0} → (X → events.Outcome) → Result X HostFault → events.Outcome
as_outcome done (Ok given) = done given
as_outcome done (Err fault) = events.Refused fault

-- the result of a call that returns nothing, as an outcome
abbrev pub done_of : {U : Type 0} → Result U HostFault → events.Outcome
done_of result = as_outcome (λ _. events.Done) result

-- the outcome of a `Take` of these bytes, for a call that does not hand them out
abbrev pub passed_of : {U : Type 0} → List ℕ → Result U HostFault → events.Outcome
passed_of bytes result = as_outcome (λ _. events.Gave bytes) result

-- the outcome of a `Take` of the first n queued bytes, for a call that does not hand them out
abbrev pub passed_from : {U : Type 0} → HostState → SessionId → ℕ → Result U HostFault
    → events.Outcome
passed_from old id n result = passed_of (take n (queued_of (find old.slots id))) result
