-- Runs of a host in which each work has the same budget.
use Rattle.std.proofs.Common.{◌≡◌, ℕ, List, [], ◌∷◌, ◌++◌, refl}
use Rattle.std.proofs.lemmas.List.Elements.{All-nil, All-cons, All-append}
use Rattle.std.specs.List.{All}
use Rattle.session_slots.specs.declared.id.SessionId.{SessionId}
use Rattle.session_slots.specs.Slots.{IsBelow}
use Rattle.host_core.specs.Events.{Event, Outcome}
use Rattle.host_core.specs.Made.{Step}
use Rattle.host_core.specs.Rounds.{IsRound, works}
use Rattle.host_core.specs.Runs.{IsRun}
use Rattle.host_core.specs.Steps.{HostState, Stepped}
use Rattle.usi_replay.specs.Sessions.{RunsBy, WorksBy}

-- a run of no step
pub runs_none : (slice : ℕ) (old new : HostState) → new ≡ old → RunsBy slice old new
unfolding IsRun
runs_none slice old new e = record { steps = []; run = e; each = All-nil (λ (step : Step). WorksBy slice step.event) }

-- a run of one step
pub runs_step : (slice : ℕ) (old new : HostState) (event : Event) (outcome : Outcome) → IsBelow old.slots → Stepped old event outcome new → WorksBy slice event → RunsBy slice old new
unfolding IsRun
runs_step slice old new event outcome below stepped by = record {
  steps = record { event = event; outcome = outcome } ∷ [];
  run = (new, record { below = below; stepped = stepped }, refl);
  each = All-cons (λ (step : Step). WorksBy slice step.event) (record { event = event; outcome = outcome }) [] by (All-nil (λ (step : Step). WorksBy slice step.event));
}

run_both : (old mid new : HostState) (xs ys : List Step) → IsRun old xs mid → IsRun mid ys new → IsRun old (xs ++ ys) new
unfolding IsRun
run_both old mid new [] ys p q = rw p at q
run_both old mid new (x ∷ xs) ys p q = (p.0, p.1, run_both p.0 mid new xs ys p.2 q)

-- two runs in sequence
pub runs_then : (slice : ℕ) (old mid new : HostState) → RunsBy slice old mid → RunsBy slice mid new → RunsBy slice old new
runs_then slice old mid new p q = record {
  steps = p.steps ++ q.steps;
  run = run_both old mid new p.steps q.steps p.run q.run;
  each = All-append (λ (step : Step). WorksBy slice step.event) p.steps q.steps p.each q.each;
}

works_by : (slice : ℕ) (ids : List SessionId) (outcomes : List Outcome) → All (λ step. WorksBy slice step.event) (works slice ids outcomes)
works_by slice [] outcomes = All-nil (λ (step : Step). WorksBy slice step.event)
works_by slice (id ∷ ids) [] = All-nil (λ (step : Step). WorksBy slice step.event)
works_by slice (id ∷ ids) (o ∷ outcomes) = All-cons (λ (step : Step). WorksBy slice step.event) _ _ refl (works_by slice ids outcomes)

-- a round as a run
pub runs_round : (slice : ℕ) (old new : HostState) (ids : List SessionId) (worked refused : ℕ) → IsRound old slice ids worked refused new → RunsBy slice old new
runs_round slice old new ids worked refused r = record { steps = works slice ids r.outcomes; run = r.run; each = works_by slice ids r.outcomes }
