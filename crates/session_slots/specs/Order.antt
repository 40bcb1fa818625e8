-- Open sessions by rising slot (own choice).
use Rattle.std.specs.Prelude.{ℕ, ◌+◌, List, [], ◌∷◌, Option, Some, None, drop}
use Rattle.session_slots.specs.declared.id.SessionId.{SessionId}
use Rattle.session_slots.specs.Slots.{OpenSession, OpenSessions}

-- the slot after this one, or the first one
abbrev pub start_of : Option ℕ → ℕ
start_of None = 0
start_of (Some slot) = slot + 1

module _ {T : Type 0} where
  -- the id of the first open session of the list, which begins at this slot
  abbrev pub first_open : ℕ → List (Option (OpenSession T)) → Option SessionId
  first_open slot [] = None
  first_open slot (None ∷ rest) = first_open (slot + 1) rest
  first_open slot (Some o ∷ rest) = Some (record { slot = slot; generation = o.generation })

  -- the id of the open session in the least slot, or in the least slot above `after`
  abbrev pub next_of : OpenSessions T → Option ℕ → Option SessionId
  next_of s after = first_open (start_of after) (drop (start_of after) s.slots)
