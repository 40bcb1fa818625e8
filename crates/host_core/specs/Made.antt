-- What was stored and what was made for one session, by events and their outcomes alone (own choice).
use Rattle.std.specs.Prelude.{ℕ, List, [], ◌∷◌, ◌++◌, Bool, false, ◌&&◌, ◌||◌, ◌==◌, cond}
use Rattle.session_slots.specs.declared.id.SessionId.{SessionId}
use Rattle.host_core.specs.Events.{Event, Open, Feed, Take, Outcome, Opened, Done, Gave}

-- an event with its outcome
pub record Step : Type 0 where
  pub event : Event
  pub outcome : Outcome

-- the events with their outcomes
abbrev pub steps_made : {E O : Type 0} → (E → Event) → (O → Outcome) → List E → List O → List Step
steps_made event outcome [] os = []
steps_made event outcome (e ∷ es) [] = []
steps_made event outcome (e ∷ es) (o ∷ os) =
    record { event = event e; outcome = outcome o } ∷ steps_made event outcome es os

-- the ids are equal
abbrev pub is_same_id : SessionId → SessionId → Bool
is_same_id a b = a.slot == b.slot && a.generation == b.generation

-- the bytes that an event stored for an id: those of a `Feed` that was done
abbrev pub own_by : SessionId → Event → Outcome → List ℕ
own_by id (Feed at chunk) Done = cond (is_same_id at id) chunk []
own_by id _ _ = []

-- a session's own bytes: those stored for its id, in order
abbrev pub own : SessionId → List Step → List ℕ
own id [] = []
own id (step ∷ rest) = own_by id step.event step.outcome ++ own id rest

-- the bytes that an event handed out from an id
abbrev pub taken_by : SessionId → Event → Outcome → List ℕ
taken_by id (Take at n) (Gave bytes) = cond (is_same_id at id) bytes []
taken_by id _ _ = []

-- the bytes handed out from an id, in order
abbrev pub taken : SessionId → List Step → List ℕ
taken id [] = []
taken id (step ∷ rest) = taken_by id step.event step.outcome ++ taken id rest

-- the bytes made for an id: those handed out, and then those still queued
abbrev pub made : SessionId → List Step → List ℕ → List ℕ
made id steps queued = taken id steps ++ queued

-- an `Open` was answered with this id
abbrev pub opens : SessionId → Event → Outcome → Bool
opens id Open (Opened at) = is_same_id at id
opens id _ _ = false

-- one of the steps is an `Open` answered with this id
abbrev pub is_opened : SessionId → List Step → Bool
is_opened id [] = false
is_opened id (step ∷ rest) = opens id step.event step.outcome || is_opened id rest
