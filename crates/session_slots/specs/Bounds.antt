-- Facts about the slots at all times.
use Rattle.std.specs.Prelude.{ℕ, ◌≤◌, ◌<◌, List, Option, IfSome, None, is_some, count_by, slice_index_or}
use Rattle.session_slots.specs.Slots.{OpenSession}
use Rattle.session_slots.specs.declared.limits.TheConstants.{SESSIONS_MAX}

module _ {T : Type 0} where
  -- each generation is below the next one, and at most `max` sessions are open
  pub record AreBounded (max next : ℕ) (slots : List (Option (OpenSession T))) : Type 0 where
    pub least : 1 ≤ max
    pub most : max ≤ SESSIONS_MAX
    pub few : count_by is_some slots ≤ max
    pub below : (key : ℕ) → IfSome (slice_index_or slots key None) (λ o. o.generation < next)
