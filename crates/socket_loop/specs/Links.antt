-- Connections and their sessions (own choice).
use Rattle.std.specs.Prelude.{◌≡◌, ◌≢◌, ◌≤◌, ◌⊎◌, ⊤, ℕ, List, [], ◌∷◌, Bool, true, not, map, filter}
use Rattle.socket_loop.specs.declared.connection.Link.{Link}
use Rattle.socket_loop.specs.declared.connection.Connection.{Connection}

-- each of the items has the property
abbrev pub Each : {X : Type 0} → (X → Type 0) → List X → Type 0
Each holds [] = ⊤
Each holds (first ∷ rest) = holds first × Each holds rest

-- two links have one number exactly if they have one id
pub record Ties (a b : Link) : Type 0 where
  pub by_number : a.number ≡ b.number → a.id ≡ b.id
  pub by_id : a.id ≡ b.id → a.number ≡ b.number

-- no link has this number
abbrev pub IsNotAmong : List Link → ℕ → Type 0
IsNotAmong links number = Each (λ link. link.number ≢ number) links

-- no two links have the same id
abbrev pub AreOnce : List Link → Type 0
AreOnce [] = ⊤
AreOnce (first ∷ rest) = Each (λ other. other.id ≢ first.id) rest × AreOnce rest

-- the item is in the list
abbrev pub IsAmong : {X : Type 0} → List X → X → Type 0
IsAmong [] item = ⊥
IsAmong (first ∷ rest) item = (item ≡ first) ⊎ IsAmong rest item

abbrev pub links_of : List Connection → List Link
links_of held = map (λ connection. connection.link) held

-- a connection with this number has the mark
abbrev pub IsMarked : (Connection → Bool) → List Connection → ℕ → Type 0
IsMarked mark [] number = ⊥
IsMarked mark (first ∷ rest) number =
    ((first.link.number ≡ number) × (mark first ≡ true)) ⊎ IsMarked mark rest number

-- the reads of the connection have ended
abbrev pub reads_ended : Connection → Bool
reads_ended connection = connection.has_ended

-- the connection was shut
abbrev pub was_shut : Connection → Bool
was_shut connection = connection.is_shut

-- the connections that were not shut
abbrev pub unshut_of : List Connection → List Connection
unshut_of held = filter (λ connection. not connection.is_shut) held

-- ---- by rising slot

-- the slots never fall from one link to the next
abbrev pub IsRising : List Link → Type 0
IsRising [] = ⊤
IsRising (first ∷ rest) = Each (λ link. first.id.slot ≤ link.id.slot) rest × IsRising rest
