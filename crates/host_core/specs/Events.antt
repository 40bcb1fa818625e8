-- The requests to a host and its answers, with bytes as lists (own choice).
use Rattle.std.specs.Prelude.{ℕ, List}
use Rattle.session_slots.specs.declared.id.SessionId.{SessionId}
use Rattle.host_core.specs.declared.event.HostFault.{HostFault}

-- a request: to open a session, or to store bytes for a session, work by so many steps, take so many queued bytes, or close it
pub data Event : Type 0 where
  Open : Event
  Feed : (id : SessionId) (chunk : List ℕ) → Event
  Work : (id : SessionId) (budget : ℕ) → Event
  Take : (id : SessionId) (n : ℕ) → Event
  Close : (id : SessionId) → Event

-- an answer: the id of the new session, done, the steps made, the bytes taken, or why nothing was done
pub data Outcome : Type 0 where
  Opened : (id : SessionId) → Outcome
  Done : Outcome
  Worked : (steps : ℕ) → Outcome
  Gave : (bytes : List ℕ) → Outcome
  Refused : (fault : HostFault) → Outcome
