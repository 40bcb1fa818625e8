-- What the table of a host answers for a search that ended, whichever session asks (own choice).
use Rattle.std.specs.Prelude.{◌≡◌, ◌<◌, ◌⊎◌, ℕ, List, ◌∷◌, ◌++◌, Some, None, length}
use Rattle.std.specs.List.{AllByRecursion}
use Rattle.session_slots.specs.declared.id.SessionId.{SessionId}
use Rattle.session_slots.specs.Slots.{find}
use Rattle.shared_table.specs.Keys.{Key, key_of}
use Rattle.shared_table.specs.Recent.{Table, entry_of, with_refusal}
use Rattle.shared_table.specs.Uses.{IsUsed, IsOfOthers}
use Rattle.shogi_search.specs.Calls.{Call, AreCalled}
use Rattle.usi_session.specs.Due.{SessionView, roots_left}
use Rattle.usi_session.specs.Roots.{Root}
use Rattle.usi_session.specs.Told.{HasMadeCalls, entry_of_root}
use Rattle.host_core.specs.Events.{Work, Outcome}
use Rattle.host_core.specs.Steps.{HostState, Stepped}

abbrev pub key_of_root : Root → Key
key_of_root root = key_of root.position root.eval root.depth

-- the table answers the root with its exact value and best move
abbrev pub IsInTable : Table → Root → Type 0
IsInTable table root = entry_of table.pairs (key_of_root root) ≡ Some (entry_of_root root)

-- the calls are for fewer other keys than the capacity, and note no other entry under the root's key
pub record LeaveRoom (table : Table) (root : Root) (calls : List Call) : Type 0 where
  pub others : List Key
  pub of_others : AllByRecursion (IsOfOthers (key_of_root root) others) calls
  pub fewer : length others < table.capacity

-- the root is known after any calls that leave room for it
abbrev pub StaysInTable : Table → Root → Type 0
StaysInTable table root =
    (later : Table) (calls : List Call) → AreCalled IsUsed table calls later
    → LeaveRoom table root calls → IsInTable later root

-- the table did not have the root's key, and was refused the memory, which was counted
pub record IsRefused (root : Root) (table : Table) : Type 0 where
  pub before : Table
  pub none : entry_of before.pairs (key_of_root root) ≡ None
  pub counted : table ≡ with_refusal before

-- a search of the root ended before this state of the table: the root was then known and stays so, or memory was refused
pub record IsShared (root : Root) (new : Table) : Type 0 where
  pub ended : Table
  pub since : HasMadeCalls IsUsed ended new
  pub known : StaysInTable ended root ⊎ IsRefused root ended

-- each search of a session that a `Work` ended is shared
abbrev pub SharesSearches : Type 0
SharesSearches =
    (old new : HostState) (id : SessionId) (budget : ℕ) (outcome : Outcome)
    (before after : SessionView) (front : List Root) (root : Root) (back : List Root)
    → Stepped old (Work id budget) outcome new
    → find old.slots id ≡ Some before → find new.slots id ≡ Some after
    → roots_left before ≡ (front ++ root ∷ back) ++ roots_left after
    → IsShared root new.table
