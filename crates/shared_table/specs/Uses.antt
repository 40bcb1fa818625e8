-- The table after a call, and the entries that it still answers after further ones (own choice).
use Rattle.std.specs.Prelude.{◌≡◌, ◌≢◌, ◌<◌, ◌⊎◌, ℕ, List, Option, Some, Contains, length}
use Rattle.std.specs.List.{AllByRecursion}
use Rattle.shogi_core.specs.Position.{Shogi}
use Rattle.shogi_eval.specs.declared.eval.Eval.{Eval}
use Rattle.shared_table.specs.Keys.{Key, key_of}
use Rattle.shared_table.specs.Recent.{IsNoted, Table, entry_of, with_note, with_probe}
use Rattle.minimax.specs.declared.entry.Entry.{Entry}
use Rattle.shogi_search.specs.Calls.{Call, Probe, Note, AreCalled}

-- the entry that a table answers
abbrev pub answers_of : Table → Shogi → Eval → ℕ → Option Entry
answers_of table p e d = entry_of table.pairs (key_of p e d)

-- the call is a probe that answers the key's entry and makes it the most recently used, or a note of the entry
abbrev pub IsUsed : Table → Call → Table → Type 0
IsUsed old (Probe p e d answer) new =
    (answer ≡ entry_of old.pairs (key_of p e d)) × (new ≡ with_probe old (key_of p e d))
IsUsed old (Note p e d entry) new = IsNoted old (key_of p e d) entry new

-- the call is for one of the other keys, or a probe for the key
abbrev pub IsOfOthers : Key → List Key → Call → Type 0
IsOfOthers key others (Probe p e d answer) =
    (key_of p e d ≡ key) ⊎ Contains others (key_of p e d)
IsOfOthers key others (Note p e d entry) =
    (key_of p e d ≢ key) × Contains others (key_of p e d)

-- the entry was noted under the key, or answered by a probe for it
abbrev pub IsFresh : Table → Key → Entry → Table → Type 0
IsFresh old key entry new =
    (new ≡ with_note old key entry)
    ⊎ ((entry_of old.pairs key ≡ Some entry) × (new ≡ with_probe old key))

-- an entry noted or answered is still answered after any further calls for fewer other keys than the capacity, until another entry is noted under its key
abbrev pub RemembersRecent : Type 0
RemembersRecent =
    (old fresh new : Table) (key : Key) (entry : Entry) (calls : List Call) (others : List Key)
    → IsFresh old key entry fresh
    → AreCalled IsUsed fresh calls new
    → AllByRecursion (IsOfOthers key others) calls
    → length others < old.capacity
    → entry_of new.pairs key ≡ Some entry
