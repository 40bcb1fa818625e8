-- The list of most recently used pairs as `lru` keeps it is that of the table.
use Rattle.std.proofs.Common.{◌≡◌, ◌∙◌, ◌≤◌, ◌+◌, ◌-◌, ◌⊎◌, ℕ, zero, suc, Bool, true, false, cond, List, [], ◌∷◌, Option, Some, None, Contains, IfSome, OnOk, Result, Ok, Err, ◌<◌, refl, sym, ap, subst, inl, inr, arith, length, take, option_map}
use Rattle.std.specs.Result.{is_err}
use Rattle.std.specs.Map.{lookup, lookup_entry, remove_entry}
use Rattle.std.proofs.lemmas.List.{take_all}
use Rattle.lru.specs.LruCache.{LruCache, lru_cache, promoted, put_entries}
use Rattle.lru.proofs.CallerLemmas.{Contains-lookup, Contains-lookup_entry, Contains-promoted, Contains-remove_entry, Contains-take}
use Rattle.lru.proofs.Splits.{Contains-cons}
use Rattle.minimax.specs.declared.entry.Entry.{Entry}
use Rattle.minimax.specs.Minimax.{IsTrueEntry}
use Rattle.shared_table.specs.KeyLaws.{key_same}
use Rattle.shared_table.specs.Keys.{Key, is_same_key}
use Rattle.shared_table.specs.Recent.{AreTrue, IsNoted, IsTable, Pair, Table, entry_of, table_of, noted, probed, without}

-- keys that pass the test are equal
one_key : (a b : Key) → is_same_key a b ≡ true → b ≡ a
one_key a b e = sym ((key_same a b).0 e)

-- a pair by its parts
pair_is : (pair : Pair) (key : Key) → pair.0 ≡ key → pair ≡ (key, pair.1)
pair_is pair key e = ap (λ (k : Key). (k, pair.1)) e

-- a look-up gives the value of the pair that it finds
lookup-entry : (test : Key → Bool) (pairs : List Pair) → lookup test pairs ≡ option_map (λ pair. pair.1) (lookup_entry test pairs)
lookup-entry test [] = refl
lookup-entry test (pair ∷ pairs) = go (test pair.0) (lookup-entry test pairs)
  where
    go : (b : Bool) → lookup test pairs ≡ option_map (λ p. p.1) (lookup_entry test pairs)
        → cond b (Some pair.1) (lookup test pairs) ≡ option_map (λ p. p.1) (cond b (Some pair) (lookup_entry test pairs))
    go true rest = refl
    go false rest = rest

-- if no pair is found, none is removed
nothing_without : (test : Key → Bool) (pairs : List Pair) → lookup_entry test pairs ≡ None → remove_entry test pairs ≡ pairs
nothing_without test [] none = refl
nothing_without test (pair ∷ pairs) none = go (test pair.0) none (nothing_without test pairs)
  where
    go : (b : Bool) → cond b (Some pair) (lookup_entry test pairs) ≡ None
        → (lookup_entry test pairs ≡ None → remove_entry test pairs ≡ pairs)
        → cond b pairs (pair ∷ remove_entry test pairs) ≡ pair ∷ pairs
    go true e rest = cc
    go false e rest = ap (λ (l : List Pair). pair ∷ l) (rest e)

-- if a pair is found, removing it leaves one less
length-without : (test : Key → Bool) (pairs : List Pair) (found : Pair) → lookup_entry test pairs ≡ Some found
    → length (remove_entry test pairs) + 1 ≡ length pairs
length-without test [] found e = cc
length-without test (pair ∷ pairs) found e = go (test pair.0) e (length-without test pairs found)
  where
    go : (b : Bool) → cond b (Some pair) (lookup_entry test pairs) ≡ Some found
        → (lookup_entry test pairs ≡ Some found → length (remove_entry test pairs) + 1 ≡ length pairs)
        → length (cond b pairs (pair ∷ remove_entry test pairs)) + 1 ≡ length (pair ∷ pairs)
    go true h rest = omega arith
    go false h rest = let shorter = rest h in omega arith

-- a probe of `lru` gives the table's list after a probe
pub promoted_is : (key : Key) (pairs : List Pair) → promoted (is_same_key key) pairs ≡ probed key pairs
promoted_is key pairs = go (lookup_entry (is_same_key key) pairs) refl
  where
    go : (o : Option Pair) → lookup_entry (is_same_key key) pairs ≡ o → promoted (is_same_key key) pairs ≡ probed key pairs
    go None e = rw (lookup-entry (is_same_key key) pairs, e) refl
    go (Some found) e =
        let same : found.0 ≡ key = one_key key found.0 (Contains-lookup_entry (is_same_key key) pairs found e).1 in
        rw (lookup-entry (is_same_key key) pairs, e) (ap (λ (p : Pair). p ∷ without key pairs) (pair_is found key same))

-- a note of `lru` gives the table's list after a note
pub put_is : (key : Key) (entry : Entry) (pairs : List Pair) (capacity : ℕ) → 1 ≤ capacity → length pairs ≤ capacity
    → put_entries is_same_key (lru_cache pairs capacity) key entry ≡ noted capacity key entry pairs
put_is key entry pairs zero room fits = absurd (omega arith)
put_is key entry pairs (suc n) room fits = go (lookup_entry (is_same_key key) pairs) refl
  where
    go : (o : Option Pair) → lookup_entry (is_same_key key) pairs ≡ o
        → put_entries is_same_key (lru_cache pairs (suc n)) key entry ≡ noted (suc n) key entry pairs
    go None e =
        let less : suc n - 1 ≡ n = omega arith in
        rw (e, nothing_without (is_same_key key) pairs e, less) refl
    go (Some found) e =
        let same : found.0 ≡ key = one_key key found.0 (Contains-lookup_entry (is_same_key key) pairs found e).1 in
        let count = length-without (is_same_key key) pairs found e in
        let all : take n (without key pairs) ≡ without key pairs = take_all n (without key pairs) (omega arith) in
        rw (e, all) (ap (λ (k : Key). (k, entry) ∷ without key pairs) same)

-- a found entry is true
pub found_true : (pairs : List Pair) (key : Key) (found : Option Entry) → AreTrue pairs → found ≡ entry_of pairs key
    → IfSome found (IsTrueEntry key.position key.eval key.depth)
found_true pairs key None all is = tt
found_true pairs key (Some entry) all is =
    let at = Contains-lookup (is_same_key key) pairs entry (sym is) in
    subst (λ (k : Key). IsTrueEntry k.position k.eval k.depth entry) (one_key key at.0 at.2) (all at.0 entry at.1)

-- a probe keeps entries true and the capacity in range
pub table_probed : (key : Key) (pairs : List Pair) (capacity : ℕ) → IsTable pairs capacity
    → IsTable (promoted (is_same_key key) pairs) capacity
table_probed key pairs capacity t = record {
  truth = λ k e at. t.truth k e (Contains-promoted (is_same_key key) pairs (k, e) at);
  least = t.least;
  most = t.most;
}

-- a put of `lru` that succeeds gives the table after a note
pub put_noted : {T E : Type 0} (key : Key) (entry : Entry) (old new : LruCache Key Entry) (count probes hits : ℕ) (r : Result T E)
    → 0 < old.cap → length old.entries ≤ old.cap → is_err r ≡ false
    → OnOk r (new ≡ lru_cache (put_entries is_same_key old key entry) old.cap)
    → IsNoted (table_of old count probes hits) key entry (table_of new count probes hits)
put_noted key entry old new count probes hits (Ok x) room fits succeeds ok =
    let same = ok ∙ ap (λ (l : List Pair). lru_cache l old.cap) (put_is key entry old.entries old.cap room fits) in
    inl (ap (λ (cache : LruCache Key Entry). table_of cache count probes hits) same)
put_noted key entry old new count probes hits (Err x) room fits succeeds ok = cc

-- a pair after a note is the noted one or was there before
noted_pair : (capacity : ℕ) (key : Key) (entry : Entry) (pairs : List Pair) (pair : Pair)
    → Contains (noted capacity key entry pairs) pair → (pair ≡ (key, entry)) ⊎ Contains pairs pair
noted_pair capacity key entry pairs pair at =
    elim (Contains-cons (key, entry) (without key pairs) pair (Contains-take capacity ((key, entry) ∷ without key pairs) pair at)) [
      | inl same ↦ inl (sym same)
      | inr there ↦ inr (Contains-remove_entry (is_same_key key) pairs pair there)
    ]

-- a note of a true entry keeps entries true and the capacity in range
pub table_noted : (key : Key) (entry : Entry) (old new : LruCache Key Entry) (before after probes hits : ℕ)
    → IsTable old.entries old.cap → IsTrueEntry key.position key.eval key.depth entry
    → IsNoted (table_of old before probes hits) key entry (table_of new after probes hits)
    → IsTable new.entries new.cap
table_noted key entry old new before after probes hits t true_entry (inr same) =
    let pairs : new.entries ≡ old.entries = ap (λ (x : Table). x.pairs) same.1 in
    let capacity : new.cap ≡ old.cap = ap (λ (x : Table). x.capacity) same.1 in
    record { truth = rw pairs t.truth; least = rw capacity t.least; most = rw capacity t.most }
table_noted key entry old new before after probes hits t true_entry (inl same) =
    let pairs : new.entries ≡ noted old.cap key entry old.entries = ap (λ (x : Table). x.pairs) same in
    let capacity : new.cap ≡ old.cap = ap (λ (x : Table). x.capacity) same in
    record {
      truth = rw pairs (λ k e at. elim (noted_pair old.cap key entry old.entries (k, e) at) [
        | inl here ↦ subst (λ (p : Pair). IsTrueEntry p.0.position p.0.eval p.0.depth p.1) (sym here) true_entry
        | inr there ↦ t.truth k e there
      ]);
      least = rw capacity t.least;
      most = rw capacity t.most;
    }

-- a note keeps the capacity
pub noted_capacity : (old new : Table) (key : Key) (entry : Entry) → IsNoted old key entry new → new.capacity ≡ old.capacity
noted_capacity old new key entry (inl same) = ap (λ (t : Table). t.capacity) same
noted_capacity old new key entry (inr same) = ap (λ (t : Table). t.capacity) same.1
