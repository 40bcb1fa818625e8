-- The entries that a table still answers after further calls.
use Rattle.std.proofs.Common.{◌≡◌, ◌≢◌, ◌∙◌, ◌<◌, ◌⊎◌, ℕ, zero, suc, Bool, true, false, cond, ◌||◌, List, [], ◌∷◌, Option, Some, None, Contains, refl, sym, ap, subst, inl, inr, arith, length, take}
use Rattle.std.specs.List.{AllByRecursion}
use Rattle.std.specs.Set.{is_member, remove_key}
use Rattle.std.proofs.lemmas.Map.Made.{length-remove_key}
use Rattle.std.proofs.lemmas.Map.Views.{list_any-from_Contains}
use Rattle.minimax.specs.declared.entry.Entry.{Entry}
use Rattle.shared_table.specs.KeyLaws.{key_equivalence, key_same}
use Rattle.shared_table.specs.Keys.{Key, is_same_key, key_of}
use Rattle.shogi_search.specs.Calls.{AreCalled, Call, Note, Probe}
use Rattle.shared_table.specs.Recent.{Pair, Table, entry_of, probed, without}
use Rattle.shared_table.specs.Uses.{IsUsed, IsFresh, IsOfOthers, answers_of}
use Rattle.shogi_core.specs.Position.{Shogi}
use Rattle.shogi_eval.specs.declared.eval.Eval.{Eval}

both_bools : {b : Bool} → b ≡ true → b ≡ false → ⊥
both_bools e f = let bad : true ≡ false = sym e ∙ f in cc

-- the test of keys fails for different keys
apart : (a b : Key) → a ≢ b → is_same_key a b ≡ false
apart a b n = go (is_same_key a b) refl
  where
    go : (t : Bool) → is_same_key a b ≡ t → is_same_key a b ≡ false
    go true e = absurd (n ((key_same a b).0 e))
    go false e = e

same : (a : Key) → is_same_key a a ≡ true
same a = (key_same a a).1 refl

without_key : Key → List Key → List Key
without_key key keys = remove_key (is_same_key key) keys

has : List Key → Key → Bool
has keys key = is_member is_same_key keys key

-- another key stays
has_still : (a b : Key) (keys : List Key) → a ≢ b → has keys b ≡ true → has (without_key a keys) b ≡ true
unfolding has without_key
has_still a b [] n h = h
has_still a b (k ∷ keys) n h = go (is_same_key a k) refl (is_same_key b k) refl h (has_still a b keys n)
  where
    go : (s : Bool) → is_same_key a k ≡ s → (t : Bool) → is_same_key b k ≡ t
        → (t || is_member is_same_key keys b) ≡ true
        → (is_member is_same_key keys b ≡ true → is_member is_same_key (remove_key (is_same_key a) keys) b ≡ true)
        → is_member is_same_key (cond s keys (k ∷ remove_key (is_same_key a) keys)) b ≡ true
    go true e true f h rest = absurd (n ((key_same a k).0 e ∙ sym ((key_same b k).0 f)))
    go true e false f h rest = h
    go false e true f h rest = rw f refl
    go false e false f h rest = rw f (rest h)

-- two different keys are removed in either order
taken_in_turn : (a b : Key) (keys : List Key) → a ≢ b
    → without_key a (without_key b keys) ≡ without_key b (without_key a keys)
unfolding without_key
taken_in_turn a b [] n = refl
taken_in_turn a b (k ∷ keys) n = go (is_same_key a k) refl (is_same_key b k) refl (taken_in_turn a b keys n)
  where
    go : (s : Bool) → is_same_key a k ≡ s → (t : Bool) → is_same_key b k ≡ t
        → remove_key (is_same_key a) (remove_key (is_same_key b) keys)
        ≡ remove_key (is_same_key b) (remove_key (is_same_key a) keys)
        → remove_key (is_same_key a) (cond t keys (k ∷ remove_key (is_same_key b) keys))
        ≡ remove_key (is_same_key b) (cond s keys (k ∷ remove_key (is_same_key a) keys))
    go true e true f rest = absurd (n ((key_same a k).0 e ∙ sym ((key_same b k).0 f)))
    go true e false f rest = rw e refl
    go false e true f rest = rw f refl
    go false e false f rest = rw (e, f) (ap (λ (l : List Key). k ∷ l) rest)

-- the key's pair with the entry is in the list, and the pairs before it have distinct keys, each one of `others`
Stands : Key → Entry → List Key → List Pair → Type 0
Stands key entry others [] = ⊥
Stands key entry others (pair ∷ pairs) =
    (pair ≡ (key, entry))
    ⊎ ((pair.0 ≢ key) × ((has others pair.0 ≡ true) × Stands key entry (without_key pair.0 others) pairs))

-- a key that stands in the list is answered
answered : (key : Key) (entry : Entry) (others : List Key) (pairs : List Pair)
    → Stands key entry others pairs → entry_of pairs key ≡ Some entry
unfolding Stands
answered key entry others [] at = absurd at
answered key entry others (pair ∷ pairs) (inl here) = rw (here, same key) refl
answered key entry others (pair ∷ pairs) (inr there) =
    rw (apart key pair.0 (λ e. there.0 (sym e)))
    (answered key entry (without_key pair.0 others) pairs there.1.1)

-- the key stands among the first n pairs if n exceeds the number of others
among_first : (n : ℕ) (key : Key) (entry : Entry) (others : List Key) (pairs : List Pair)
    → length others < n → Stands key entry others pairs → Stands key entry others (take n pairs)
unfolding Stands without_key has
among_first n key entry others [] room at = absurd at
among_first zero key entry others (pair ∷ pairs) room at = absurd (omega arith)
among_first (suc n) key entry others (pair ∷ pairs) room (inl here) = inl here
among_first (suc n) key entry others (pair ∷ pairs) room (inr there) =
    let fewer = length-remove_key (is_same_key pair.0) others there.1.0 in
    inr (
      there.0,
      (
        there.1.0,
        among_first n key entry (without_key pair.0 others) pairs (omega arith) there.1.1,
      ),
    )

-- the key still stands when another key is removed from the list and from the others
stands_without : (key : Key) (entry : Entry) (other : Key) (others : List Key) (pairs : List Pair)
    → other ≢ key → has others other ≡ true → Stands key entry others pairs
    → Stands key entry (without_key other others) (without other pairs)
unfolding Stands
stands_without key entry other others [] n h at = absurd at
stands_without key entry other others (pair ∷ pairs) n h (inl here) =
    rw (here, apart other key n) (inl refl)
stands_without key entry other others (pair ∷ pairs) n h (inr there) =
    go (is_same_key other pair.0) refl (λ differ.
    stands_without key entry other (without_key pair.0 others) pairs n
    (has_still pair.0 other others (λ p. differ (sym p)) h) there.1.1)
  where
    go : (t : Bool) → is_same_key other pair.0 ≡ t
        → (other ≢ pair.0 → Stands key entry (without_key other (without_key pair.0 others)) (without other pairs))
        → Stands key entry (without_key other others) (cond t pairs (pair ∷ without other pairs))
    go true e rest = rw ((key_same other pair.0).0 e) there.1.1
    go false e rest =
        let differ : other ≢ pair.0 = λ p. both_bools ((key_same other pair.0).1 p) e in
        inr (
          there.0,
          (
            has_still other pair.0 others differ there.1.0,
            subst (λ (l : List Key). Stands key entry l (without other pairs))
                (taken_in_turn other pair.0 others differ) (rest differ),
          ),
        )

-- the key still stands when another key's pair moves to the front
stands_behind : (key : Key) (entry : Entry) (other : Key) (of_other : Entry) (others : List Key) (pairs : List Pair)
    → other ≢ key → has others other ≡ true → Stands key entry others pairs
    → Stands key entry others ((other, of_other) ∷ without other pairs)
unfolding Stands
stands_behind key entry other of_other others pairs n h at =
    inr (n, (h, stands_without key entry other others pairs n h at))

stands_probed : (key : Key) (entry : Entry) (other : Key) (others : List Key) (pairs : List Pair)
    → (other ≡ key) ⊎ (has others other ≡ true) → Stands key entry others pairs
    → Stands key entry others (probed other pairs)
unfolding Stands
stands_probed key entry other others pairs of_others at = go (is_same_key other key) refl of_others
  where
    elsewhere : (o : Option Entry) → entry_of pairs other ≡ o → other ≢ key → has others other ≡ true
        → Stands key entry others (probed other pairs)
    elsewhere None e n h = rw e at
    elsewhere (Some found) e n h = rw e (stands_behind key entry other found others pairs n h at)

    go : (t : Bool) → is_same_key other key ≡ t → (other ≡ key) ⊎ (has others other ≡ true)
        → Stands key entry others (probed other pairs)
    go true e h =
        let is : other ≡ key = (key_same other key).0 e in
        rw (is, answered key entry others pairs at) (inl refl)
    go false e (inl is) = absurd (both_bools ((key_same other key).1 is) e)
    go false e (inr h) = elsewhere (entry_of pairs other) refl (λ p. both_bools ((key_same other key).1 p) e) h

is_among : (key : Key) (keys : List Key) → Contains keys key → has keys key ≡ true
unfolding has
is_among key keys at = list_any-from_Contains key_equivalence key keys at

-- the key still stands after a call for another key or a probe, and the capacity stays
stands_called : (key : Key) (entry : Entry) (others : List Key) (old : Table) (call : Call) (new : Table)
    → length others < old.capacity → IsOfOthers key others call → IsUsed old call new
    → Stands key entry others old.pairs → Stands key entry others new.pairs × (new.capacity ≡ old.capacity)
stands_called key entry others old (Probe p e d answer) new room of_others called at =
    let within : (key_of p e d ≡ key) ⊎ (has others (key_of p e d) ≡ true) =
    elim of_others [ inl is ↦ inl is | inr there ↦ inr (is_among (key_of p e d) others there) ] in
    rw called.1 (stands_probed key entry (key_of p e d) others old.pairs within at, refl)
stands_called key entry others old (Note p e d of_other) new room of_others (inl kept) at =
    let behind = stands_behind key entry (key_of p e d) of_other others old.pairs of_others.0 (is_among (key_of p e d) others of_others.1) at in
    rw kept (among_first old.capacity key entry others ((key_of p e d, of_other) ∷ without (key_of p e d) old.pairs) room behind, refl)
stands_called key entry others old (Note p e d of_other) new room of_others (inr not) at =
    rw not.1 (at, refl)

stands_after : (key : Key) (entry : Entry) (others : List Key) (old : Table) (calls : List Call) (new : Table)
    → length others < old.capacity → AllByRecursion (IsOfOthers key others) calls → AreCalled IsUsed old calls new
    → Stands key entry others old.pairs → Stands key entry others new.pairs
unfolding AreCalled
stands_after key entry others old [] new room all called at = rw called at
stands_after key entry others old (call ∷ rest) new room all called at =
    let one = stands_called key entry others old call called.0 room all.0 called.1.0 at in
    stands_after key entry others called.0 rest new (rw one.1 room) all.1 called.1.1 one.0

-- the key stands after its entry was noted or answered
stands_fresh : (old fresh : Table) (key : Key) (entry : Entry) (others : List Key)
    → length others < old.capacity → IsFresh old key entry fresh
    → Stands key entry others fresh.pairs × (fresh.capacity ≡ old.capacity)
unfolding Stands
stands_fresh old fresh key entry others room (inl kept) =
    let first : Stands key entry others ((key, entry) ∷ without key old.pairs) = inl refl in
    rw kept (among_first old.capacity key entry others ((key, entry) ∷ without key old.pairs) room first, refl)
stands_fresh old fresh key entry others room (inr found) =
    rw (found.1, found.0) (inl refl, refl)

pub remembers : (old fresh new : Table) (key : Key) (entry : Entry) (calls : List Call) (others : List Key)
    → IsFresh old key entry fresh → AreCalled IsUsed fresh calls new → AllByRecursion (IsOfOthers key others) calls
    → length others < old.capacity → entry_of new.pairs key ≡ Some entry
remembers old fresh new key entry calls others is_fresh called all room =
    let first = stands_fresh old fresh key entry others room is_fresh in
    answered key entry others new.pairs
    (stands_after key entry others fresh calls new (rw first.1 room) all called first.0)

-- removing one key changes no other key's answer
lookup_without : (key other : Key) (pairs : List Pair) → is_same_key other key ≡ false
    → entry_of (without key pairs) other ≡ entry_of pairs other
lookup_without key other [] n = refl
lookup_without key other (pair ∷ pairs) n =
    go (is_same_key key pair.0) refl (is_same_key other pair.0) refl (lookup_without key other pairs n)
  where
    go : (s : Bool) → is_same_key key pair.0 ≡ s → (t : Bool) → is_same_key other pair.0 ≡ t
        → entry_of (without key pairs) other ≡ entry_of pairs other
        → entry_of (cond s pairs (pair ∷ without key pairs)) other ≡ cond t (Some pair.1) (entry_of pairs other)
    go true e true f rest =
        absurd (both_bools ((key_same other key).1 ((key_same other pair.0).0 f ∙ sym ((key_same key pair.0).0 e))) n)
    go true e false f rest = refl
    go false e true f rest = rw f refl
    go false e false f rest = rw f rest

probe_keeps : (key other : Key) (pairs : List Pair) → entry_of (probed key pairs) other ≡ entry_of pairs other
probe_keeps key other pairs = go (entry_of pairs key) refl (is_same_key other key) refl
  where
    go : (o : Option Entry) → entry_of pairs key ≡ o → (t : Bool) → is_same_key other key ≡ t
        → entry_of (probed key pairs) other ≡ entry_of pairs other
    go None e t f = rw e refl
    go (Some found) e true f =
        rw (e, f) (sym (ap (λ (k : Key). entry_of pairs k) ((key_same other key).0 f) ∙ e))
    go (Some found) e false f = rw (e, f) (lookup_without key other pairs f)

-- a probe changes no answer
pub question_keeps : (old new : Table) (p : Shogi) (e : Eval) (d : ℕ) (answer : Option Entry)
    → IsUsed old (Probe p e d answer) new
    → (q : Shogi) (f : Eval) (n : ℕ) → answers_of new q f n ≡ answers_of old q f n
question_keeps old new p e d answer used q f n =
    ap (λ (t : Table). entry_of t.pairs (key_of q f n)) used.1
    ∙ probe_keeps (key_of p e d) (key_of q f n) old.pairs
