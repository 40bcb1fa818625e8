-- The counts of a turn, by what it did (own choice).
use Rattle.std.specs.Prelude.{◌≡◌, ◌+◌, ℕ, List, [], ◌∷◌, length, cond}
use Rattle.host_core.specs.declared.event.HostFault.TheVariants.{Full}
use Rattle.session_slots.specs.Slots.{find}
use Rattle.host_core.specs.Steps.{HostState}
use Rattle.host_core.specs.ById.{pending_of}
use Rattle.host_core.specs.Events.{Outcome, Opened, Refused}
use Rattle.socket_loop.specs.declared.connection.Connection.{Connection}
use Rattle.socket_loop.specs.declared.connection.Link.{Link}
use Rattle.socket_loop.specs.declared.tally.Tally.{Tally}
use Rattle.socket_loop.specs.Past.{Accepted}

-- 1 for an `Open` refused as the host was full
abbrev pub full_of : Outcome → ℕ
full_of (Refused Full) = 1
full_of _ = 0

-- 1 for an `Open` refused for another cause: out of memory
abbrev pub unopened_of : Outcome → ℕ
unopened_of (Opened id) = 0
unopened_of (Refused Full) = 0
unopened_of _ = 1

-- the accepted connections with such an outcome
abbrev pub count_of : (Outcome → ℕ) → List Accepted → ℕ
count_of counts [] = 0
count_of counts (item ∷ items) = counts item.outcome + count_of counts items

-- the connections marked as shut
abbrev pub shut_count : List Connection → ℕ
shut_count [] = 0
shut_count (first ∷ rest) = cond first.is_shut 1 0 + shut_count rest

-- the links with a pending session
abbrev pub pending_count : HostState → List Link → ℕ
pending_count host [] = 0
pending_count host (link ∷ rest) =
    cond (pending_of (find host.slots link.id)) 1 0 + pending_count host rest

-- the counts of a turn: connections accepted, those that found the host full or no memory, connections shut by reads,
-- by writes and as finished with, and works refused
pub record IsTally (items : List Accepted) (met read written last : List Connection) (unworked : ℕ)
    (tally : Tally) : Type 0 where
  pub accepted : tally.accepted ≡ length items
  pub full : tally.full ≡ count_of full_of items
  pub unopened : tally.unopened ≡ count_of unopened_of items
  pub ended_reading : tally.ended_reading + shut_count met ≡ shut_count read
  pub ended_writing : tally.ended_writing + shut_count read ≡ shut_count written
  pub finished : tally.finished + shut_count written ≡ shut_count last
  pub refused : tally.refused ≡ unworked
