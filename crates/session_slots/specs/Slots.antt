-- Open sessions of any type under their ids (own choice).
use Rattle.std.specs.Prelude.{◌≡◌, ◌≢◌, ℕ, ◌+◌, ◌-◌, ◌^◌, ◌≤◌, ◌<◌, ◌⊎◌, ◌==◌, List, Option, Some, None, IsSome, cond, is_some, count_by, slice_index_or, slice_set}
use Rattle.session_slots.specs.declared.id.SessionId.{SessionId}

-- an open session, and its generation
pub record OpenSession (T : Type 0) : Type 0 where
  pub generation : ℕ
  pub session : T

-- the most open sessions, the generation of the next one, and the slots
pub record OpenSessions (T : Type 0) : Type 0 where
  pub max : ℕ
  pub next : ℕ
  pub slots : List (Option (OpenSession T))

module _ {T : Type 0} where
  -- the session of a slot, if it has this generation
  abbrev pub of_generation : ℕ → Option (OpenSession T) → Option T
  of_generation generation None = None
  of_generation generation (Some o) = cond (o.generation == generation) (Some o.session) None

  -- the session of an id, if it is open
  abbrev pub find : OpenSessions T → SessionId → Option T
  find s id = of_generation id.generation (slice_index_or s.slots id.slot None)

  -- the number of open sessions
  abbrev pub count : OpenSessions T → ℕ
  count s = count_by is_some s.slots

  -- the sessions after a write to the one under an id
  abbrev pub with_session : OpenSessions T → SessionId → T → OpenSessions T
  with_session s id session =
      let opened : OpenSession T = record { generation = id.generation; session = session } in
      record s { slots = slice_set s.slots id.slot (Some opened) }

  -- each other id finds the session that it found
  abbrev pub OthersKept : OpenSessions T → OpenSessions T → SessionId → Type 0
  OthersKept old new id = (other : SessionId) → other ≢ id → find new other ≡ find old other

  -- this session was opened under an id of the next generation, and each other id finds the session that it found
  pub record Opens (old new : OpenSessions T) (id : SessionId) (session : T) : Type 0 where
    pub generation_is : id.generation ≡ old.next
    pub next_is : new.next ≡ old.next + 1
    pub was : find old id ≡ None
    pub now : find new id ≡ Some session
    pub others : OthersKept old new id
    pub max_is : new.max ≡ old.max
    pub count_is : count new ≡ count old + 1

  -- all slots are taken, or the next generation would be the greatest number
  abbrev pub IsFull : OpenSessions T → Type 0
  IsFull s = (s.max ≤ count s) ⊎ (s.next ≡ 2 ^ 64 - 1)

  -- each id that finds a session has a generation below the next one
  abbrev pub IsBelow : OpenSessions T → Type 0
  IsBelow s = (id : SessionId) → IsSome (find s id) → id.generation < s.next

  -- the id was given out, and finds no session
  abbrev pub IsSpent : OpenSessions T → SessionId → Type 0
  IsSpent s id = (id.generation < s.next) × (find s id ≡ None)
