-- Chains of steps, continued by one step.
use Rattle.std.proofs.Common.{◌≡◌, ℕ, ◌+◌, ◌<◌, List, [], ◌∷◌, ◌++◌, length, get_or, take, refl, sym, ap, ◌∙◌, arith}
use Rattle.std.proofs.lemmas.List.{take_more, length-take-le}
use Rattle.session_slots.specs.Slots.{IsBelow}
use Rattle.host_core.specs.declared.event.Event as code_event
use Rattle.host_core.specs.declared.event.Outcome as code_outcome
use Rattle.host_core.specs.Events.{Event, Outcome}
use Rattle.host_core.specs.Made.{Step, steps_made}
use Rattle.host_core.specs.Runs.{IsRun, IsStep}
use Rattle.host_core.specs.Seen.{event_of, outcome_of, answered}
use Rattle.host_core.specs.Steps.{HostState, Stepped}

-- the chain of no steps
pub run-start : (h : HostState) → IsRun h [] h
unfolding IsRun
run-start h = refl

-- a chain with one more step
pub run-last : (old new : HostState) (steps : List Step) (next : HostState) (step : Step) → IsRun old steps new → IsStep new step next → IsRun old (steps ++ step ∷ []) next
unfolding IsRun
run-last old new [] next step r s = (next, rw r at s, refl)
run-last old new (first ∷ rest) next step r s = (r.0, r.1, run-last r.0 new rest next step r.2 s)

-- the steps of one more event and its outcome
pub steps_made-last : {E O : Type 0} (event : E → Event) (outcome : O → Outcome) (es : List E) (os : List O) (e : E) (o : O) → length es ≡ length os → steps_made event outcome (es ++ e ∷ []) (os ++ o ∷ []) ≡ steps_made event outcome es os ++ record { event = event e; outcome = outcome o } ∷ []
steps_made-last event outcome [] [] e o h = refl
steps_made-last event outcome [] (p ∷ os) e o h = absurd (omega arith)
steps_made-last event outcome (d ∷ es) [] e o h = absurd (omega arith)
steps_made-last event outcome (d ∷ es) (p ∷ os) e o h = ap (λ rest. record { event = event d; outcome = outcome p } ∷ rest) (steps_made-last event outcome es os e o (omega arith))

-- one more event of a run of the code
pub run_on : {A : Type 0} (events : List code_event.Event) (outcomes more : List (code_outcome.Outcome A)) (o : code_outcome.Outcome A) (i : ℕ) (d : code_event.Event) (old now next : HostState) → i < length events → length outcomes ≡ i → IsRun old (answered (take i events) outcomes) now → IsBelow now.slots → Stepped now (event_of (get_or events i d)) (outcome_of o) next → more ≡ outcomes ++ o ∷ []
    → IsRun old (answered (take (i + 1) events) more) next
run_on {A} events outcomes more o i d old now next lt count r below stepped f =
    let long : length (take i events) ≡ i = length-take-le i events (omega arith) in
    let whole : answered (take (i + 1) events) more ≡ answered (take i events) outcomes ++ record { event = event_of (get_or events i d); outcome = outcome_of o } ∷ [] =
    ap (λ es. answered es more) (take_more events i d lt) ∙ (ap (λ os. answered (take i events ++ get_or events i d ∷ []) os) f ∙ steps_made-last event_of (outcome_of {A = A}) (take i events) outcomes (get_or events i d) o (long ∙ sym count)) in
    rw whole (run-last old now (answered (take i events) outcomes) next _ r (record { below = below; stepped = stepped }))
