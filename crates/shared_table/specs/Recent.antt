-- The entries of a table as a list, most recently used first (own choice).
use Rattle.std.specs.Prelude.{◌≡◌, ◌≤◌, ◌+◌, ◌-◌, ◌^◌, ◌⊎◌, [], ◌∷◌, ℕ, List, Option, Some, None, Contains, min, take}
use Rattle.std.specs.Map.{lookup, remove_entry}
use Rattle.std.specs.Option.{option_map_or}
use Rattle.lru.specs.LruCache.{LruCache, lru_cache, promoted}
use Rattle.shared_table.specs.Keys.{Key, is_same_key}
use Rattle.shared_table.specs.declared.table.TheConstants.{CAPACITY_MAX}
use Rattle.minimax.specs.Minimax.{IsTrueEntry}
use Rattle.minimax.specs.declared.entry.Entry.{Entry}

-- a key with its entry
abbrev pub Pair : Type 0
Pair = Key × Entry

-- the pairs, most recently used first; the capacity; the counts of notes that found no memory, of probes and of hits
pub record Table : Type 0 where
  pub pairs : List Pair
  pub capacity : ℕ
  pub refused : ℕ
  pub probes : ℕ
  pub hits : ℕ

-- an empty table of the capacity
abbrev pub new_table : ℕ → Table
new_table capacity = record { pairs = []; capacity = capacity; refused = 0; probes = 0; hits = 0 }

-- the table of a cache and its counts
abbrev pub table_of : LruCache Key Entry → ℕ → ℕ → ℕ → Table
table_of cache refused probes hits = record {
  pairs = cache.entries;
  capacity = cache.cap;
  refused = refused;
  probes = probes;
  hits = hits;
}

-- the count with more added; it saturates at the greatest `u64`
abbrev pub plus : ℕ → ℕ → ℕ
plus count more = min (count + more) (2 ^ 64 - 1)

-- 1 for a probe that found an entry, else 0
abbrev pub hit_of : Option Entry → ℕ
hit_of (Some entry) = 1
hit_of None = 0

-- the entry under the key, or none
abbrev pub entry_of : List Pair → Key → Option Entry
entry_of pairs key = lookup (is_same_key key) pairs

-- the pairs without the key's
abbrev pub without : Key → List Pair → List Pair
without key pairs = remove_entry (is_same_key key) pairs

-- the pairs after a probe: the key's pair comes first; without one, all stay
abbrev pub probed : Key → List Pair → List Pair
probed key pairs =
    option_map_or (λ entry. (key, entry) ∷ without key pairs) (entry_of pairs key) pairs

-- the pairs after a note: the key with this entry comes first, and pairs past the capacity are dropped
abbrev pub noted : ℕ → Key → Entry → List Pair → List Pair
noted capacity key entry pairs = take capacity ((key, entry) ∷ without key pairs)

-- the table after a probe for the key, which is counted
abbrev pub with_probe : Table → Key → Table
with_probe table key = record table {
  pairs = probed key table.pairs;
  probes = plus table.probes 1;
  hits = plus table.hits (hit_of (entry_of table.pairs key));
}

-- the cache after a probe, as `lru` does it
abbrev pub recalled : Key → LruCache Key Entry → LruCache Key Entry
recalled key cache = lru_cache (promoted (is_same_key key) cache.entries) cache.cap

-- the table after a note of the entry under the key
abbrev pub with_note : Table → Key → Entry → Table
with_note table key entry = record table { pairs = noted table.capacity key entry table.pairs }

-- the table after a note that found no memory, which is counted; all else stays
abbrev pub with_refusal : Table → Table
with_refusal table = record table { refused = plus table.refused 1 }

-- the entry was noted under the key, or a new key found no memory, which is counted
abbrev pub IsNoted : Table → Key → Entry → Table → Type 0
IsNoted old key entry new =
    (new ≡ with_note old key entry)
    ⊎ ((entry_of old.pairs key ≡ None) × (new ≡ with_refusal old))

-- each entry is true for its position, evaluation and depth
abbrev pub AreTrue : List Pair → Type 0
AreTrue pairs = (key : Key) (entry : Entry) → Contains pairs (key, entry)
    → IsTrueEntry key.position key.eval key.depth entry

-- a table has true entries and a capacity in its range
pub record IsTable (pairs : List Pair) (capacity : ℕ) : Type 0 where
  pub truth : AreTrue pairs
  pub least : 1 ≤ capacity
  pub most : capacity ≤ CAPACITY_MAX
