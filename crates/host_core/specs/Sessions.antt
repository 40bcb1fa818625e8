-- A session's part in the events that name it: its own calls, with their refusals in order (own choice).
use Rattle.std.specs.Prelude.{◌≡◌, ℕ, ◌+◌, ◌≤◌, ◌<◌, List, ◌++◌, length, take, drop, true, false}
use Rattle.usi_session.specs.WholeLines.{GrowsByLines}
use Rattle.usi_session.specs.Due.{SessionView, due, state_due, load, is_pending, wants_input, IsMidSearch}
use Rattle.host_core.specs.declared.event.HostFault.TheVariants.{OutOfMemory, NotReady}
use Rattle.host_core.specs.Events.{Outcome, Done, Worked, Gave, Refused}
use Rattle.usi_session.specs.declared.limits.TheConstants.{CHUNK_MAX}

-- the session wants input, and the chunk is not too long
abbrev pub CanFeed : SessionView → List ℕ → Type 0
CanFeed t chunk = (wants_input t ≡ true) × (length chunk ≤ CHUNK_MAX)

-- the bytes were stored: for any further bytes, the replies due and the state to come are those for the chunk and these
pub record Fed (old : SessionView) (chunk : List ℕ) (new : SessionView) : Type 0 where
  pub could : CanFeed old chunk
  pub owed : (x : List ℕ) → due new x ≡ due old (chunk ++ x)
  pub after : (x : List ℕ) → state_due new x ≡ state_due old (chunk ++ x)
  pub queued_is : new.queued ≡ old.queued
  pub state_is : new.state ≡ old.state
  pub running_go_is : new.go_task ≡ old.go_task

-- the session worked for this many steps: the replies due and the state to come stay, and its queue has only grown, by whole lines. If something is still pending, the budget is spent within a search
pub record WorkedOn (old : SessionView) (budget steps : ℕ) (new : SessionView) : Type 0 where
  pub owed : (x : List ℕ) → due new x ≡ due old x
  pub after : (x : List ℕ) → state_due new x ≡ state_due old x
  pub grown : GrowsByLines old.queued new.queued
  pub most : steps ≤ budget
  pub made : steps + load new ≤ load old
  pub spent : is_pending new ≡ true → (steps ≡ budget) × IsMidSearch new.go_task
  pub enough : load old ≤ budget → is_pending new ≡ false
  pub idle : is_pending old ≡ false → (steps ≡ 0) × (new ≡ old)

-- the session ran out of memory: the replies due and the state to come stay, and its queue has only grown, by whole lines
pub record Stopped (old new : SessionView) : Type 0 where
  pub was_pending : is_pending old ≡ true
  pub owed : (x : List ℕ) → due new x ≡ due old x
  pub after : (x : List ℕ) → state_due new x ≡ state_due old x
  pub grown : GrowsByLines old.queued new.queued
  pub made : load new ≤ load old

-- the first n queued bytes were taken
pub record Taken (old : SessionView) (n : ℕ) (bytes : List ℕ) (new : SessionView) : Type 0 where
  pub there : n ≤ length old.queued
  pub bytes_are : bytes ≡ take n old.queued
  pub owed : (x : List ℕ) → due old x ≡ take n old.queued ++ due new x
  pub queued_is : new.queued ≡ drop n old.queued
  pub state_is : new.state ≡ old.state
  pub running_go_is : new.go_task ≡ old.go_task
  pub input_is : new.input ≡ old.input

abbrev pub Feeds : List ℕ → SessionView → Outcome → SessionView → Type 0
Feeds chunk old Done new = Fed old chunk new
Feeds chunk old (Refused NotReady) new = (CanFeed old chunk → ⊥) × (new ≡ old)
Feeds chunk old (Refused OutOfMemory) new = CanFeed old chunk × (new ≡ old)
Feeds chunk old _ new = ⊥

abbrev pub Works : ℕ → SessionView → Outcome → SessionView → Type 0
Works budget old (Worked steps) new = WorkedOn old budget steps new
Works budget old (Refused OutOfMemory) new = Stopped old new
Works budget old _ new = ⊥

abbrev pub Takes : ℕ → SessionView → Outcome → SessionView → Type 0
Takes n old (Gave bytes) new = Taken old n bytes new
Takes n old (Refused NotReady) new = (length old.queued < n) × (new ≡ old)
Takes n old (Refused OutOfMemory) new = (n ≤ length old.queued) × (new ≡ old)
Takes n old _ new = ⊥
