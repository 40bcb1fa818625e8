-- A run of a host: one step after another (own choice).
use Rattle.std.specs.Prelude.{◌≡◌, List, [], ◌∷◌}
use Rattle.session_slots.specs.Slots.{IsBelow}
use Rattle.host_core.specs.Made.{Step}
use Rattle.host_core.specs.Steps.{HostState, Stepped}

-- a step from one state to the next; the generation of each open id is below the next one
pub record IsStep (old : HostState) (step : Step) (new : HostState) : Type 0 where
  pub below : IsBelow old.slots
  pub stepped : Stepped old step.event step.outcome new

-- a chain of steps
unfoldable pub IsRun : HostState → List Step → HostState → Type 0
IsRun old [] new = new ≡ old
IsRun old (step ∷ rest) new = (mid : HostState) × IsStep old step mid × IsRun mid rest new
