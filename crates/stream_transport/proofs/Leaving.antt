-- Lingering streams leave in time.
use Rattle.std.proofs.Common.{Bool, Option, ◌≡◌, ◌<◌, ◌≤◌, ◌+◌, ◌-◌, ◌⊎◌, ℕ, List, [], ◌∷◌, ◌++◌, length, take, get_or, set, true, refl, sym, ap, ◌∙◌, subst, arith, inl, inr}
use Rattle.std.specs.Prelude.{◌==◌, ◌≢◌, false, All, filter}
use borrow.Author.Tests.{eqb-false, eqb-true}
use Rattle.std.proofs.lemmas.Bool.{ltb-true}
use Rattle.std.proofs.Math.Nat.{eq-or-lt_of_le}
use Rattle.std.proofs.Math.Seq.{take-append_seam}
use Rattle.std.proofs.lemmas.List.{get_or_default, get_or-set_same, get_or-set_other, length-set}
use Rattle.std.proofs.lemmas.List.Elements.{All-filter, filter_passes}
use Rattle.stream_transport.specs.Lingering.{Leave, StayAtMost, has_looks}
use Rattle.stream_transport.specs.System.{AreShut, IsShut}
use Rattle.stream_transport.specs.declared.lingering.LingeringStream.{LingeringStream}

by_test : {P Q : Type 0} (t : Bool) → (t ≡ true → P) → (t ≡ false → Q) → P ⊎ Q
by_test true p q = inl (p refl)
by_test false p q = inr (q refl)

is_it : (k i : ℕ) → (k ≡ i) ⊎ (k ≢ i)
is_it k i = by_test (k == i) (λ e. eqb-true k i e) (λ e. eqb-false k i e)

module _ {S : Type 0} where
  -- the first `i` streams have fewer looks left, and the others are unchanged
  pub record HavePassed (looks : ℕ) (old new : List (LingeringStream S)) (i : ℕ) : Type 0 where
    pub passed : (k : ℕ) (d : LingeringStream S) → k < i → (get_or new k d).looks ≤ (get_or old k d).looks - looks
    pub rest : (k : ℕ) (d : LingeringStream S) → i ≤ k → get_or new k d ≡ get_or old k d
    pub same : length new ≡ length old

  pub passed_none : (looks : ℕ) (old new : List (LingeringStream S)) → new ≡ old → HavePassed looks old new 0
  passed_none looks old new e = record { passed = λ k d h. absurd (omega arith); rest = λ k d h. ap (λ xs. get_or xs k d) e; same = ap length e }

  passed_at : (looks : ℕ) (old new : List (LingeringStream S)) (i : ℕ) (v d0 : LingeringStream S) → i < length new → HavePassed looks old new i
      → v.looks ≤ (get_or new i d0).looks - looks → (k : ℕ) (d : LingeringStream S) → (k ≡ i) ⊎ (k < i)
      → (get_or (set new i v) k d).looks ≤ (get_or old k d).looks - looks
  passed_at looks old new i v d0 in' so_far less k d (inl e) =
      let at_old : v.looks ≤ (get_or old i d).looks - looks =
      subst (λ (x : LingeringStream S). v.looks ≤ x.looks - looks) (get_or_default new i d0 d in' ∙ so_far.rest i d (omega arith)) less in
      let at_it : (get_or (set new i v) i d).looks ≤ (get_or old i d).looks - looks =
      subst (λ (x : LingeringStream S). x.looks ≤ (get_or old i d).looks - looks) (sym (get_or-set_same new i v d in')) at_old in
      subst (λ (n : ℕ). (get_or (set new i v) n d).looks ≤ (get_or old n d).looks - looks) (sym e) at_it
  passed_at looks old new i v d0 in' so_far less k d (inr lt) =
      subst (λ (x : LingeringStream S). x.looks ≤ (get_or old k d).looks - looks) (sym (get_or-set_other new i k v d (omega arith))) (so_far.passed k d lt)

  pub passed_more : (looks : ℕ) (old new : List (LingeringStream S)) (i : ℕ) (v d0 : LingeringStream S) → i < length new → HavePassed looks old new i
      → v.looks ≤ (get_or new i d0).looks - looks → HavePassed looks old (set new i v) (i + 1)
  passed_more looks old new i v d0 in' so_far less = record {
    passed = λ k d below. passed_at looks old new i v d0 in' so_far less k d (eq-or-lt_of_le (omega arith));
    rest = λ k d above. get_or-set_other new i k v d (omega arith) ∙ so_far.rest k d (omega arith);
    same = length-set new i v ∙ so_far.same;
  }

  pub passed_all : (looks : ℕ) (old new : List (LingeringStream S)) (i : ℕ) → HavePassed looks old new i → length new ≤ i → Leave looks old new
  passed_all looks old new i so_far all most stay k d below = omega (arith, so_far.passed k d (omega arith), stay k d (omega (arith, so_far.same)))

  pub all_taken : (n : ℕ) (xs ys : List (LingeringStream S)) → length xs ≡ n → take n (xs ++ ys) ≡ xs
  all_taken n xs ys e = subst (λ (k : ℕ). take k (xs ++ ys) ≡ xs) e (take-append_seam xs ys)

  pub stay_longer : (less more : ℕ) (xs : List (LingeringStream S)) → less ≤ more → StayAtMost less xs → StayAtMost more xs
  stay_longer less more xs h stay k d b = omega (arith, stay k d b)

  pub stay_filtered : (most : ℕ) (xs : List (LingeringStream S)) → StayAtMost most xs → StayAtMost most (filter has_looks xs)
  stay_filtered most xs stay = All-filter has_looks (λ lingering. lingering.looks ≤ most) xs stay

  pub leave_filtered : (looks : ℕ) (old passed new : List (LingeringStream S)) → Leave looks old passed → new ≡ filter has_looks passed → Leave looks old new
  leave_filtered looks old passed new leave e most stay = subst (StayAtMost most) (sym e) (stay_filtered most passed (leave most stay))

  none_stays : (xs : List (LingeringStream S)) → StayAtMost 0 xs → All (λ lingering. has_looks lingering ≡ true) xs → xs ≡ []
  none_stays [] stay has = refl
  none_stays (x ∷ xs) stay has = absurd (omega (arith, stay 0 x (omega arith), ltb-true _ _ (has 0 x (omega arith))))

  -- each stream without looks left is gone
  pub gone_filtered : (looks : ℕ) (old passed new : List (LingeringStream S)) → Leave looks old passed → new ≡ filter has_looks passed → StayAtMost looks old → new ≡ []
  gone_filtered looks old passed new leave e stay =
      e ∙ none_stays (filter has_looks passed) (stay_filtered 0 passed (leave 0 (stay_longer looks (0 + looks) old (omega arith) stay))) (filter_passes has_looks passed)

  module _ (is_shut : S → Option Bool) where
    -- each stream tells of its writing side as before
    abbrev pub TellSame : (old new : List (LingeringStream S)) → Type 0
    TellSame old new = (k : ℕ) (d : LingeringStream S) → is_shut (get_or new k d).stream ≡ is_shut (get_or old k d).stream

    pub same_none : (old new : List (LingeringStream S)) → new ≡ old → TellSame old new
    same_none old new e k d = ap (λ xs. is_shut (get_or xs k d).stream) e

    same_at : (old new : List (LingeringStream S)) (i : ℕ) (v d0 : LingeringStream S) → i < length new → TellSame old new
        → is_shut v.stream ≡ is_shut (get_or new i d0).stream → (k : ℕ) (d : LingeringStream S) → (k ≡ i) ⊎ (k ≢ i)
        → is_shut (get_or (set new i v) k d).stream ≡ is_shut (get_or old k d).stream
    same_at old new i v d0 in' so_far same k d (inl e) =
        let at_it : is_shut (get_or (set new i v) i d).stream ≡ is_shut (get_or old i d).stream =
        ap (λ (x : LingeringStream S). is_shut x.stream) (get_or-set_same new i v d in') ∙ (same ∙ (ap (λ (x : LingeringStream S). is_shut x.stream) (get_or_default new i d0 d in') ∙ so_far i d)) in
        subst (λ (n : ℕ). is_shut (get_or (set new i v) n d).stream ≡ is_shut (get_or old n d).stream) (sym e) at_it
    same_at old new i v d0 in' so_far same k d (inr apart) =
        ap (λ (x : LingeringStream S). is_shut x.stream) (get_or-set_other new i k v d (omega (arith, apart))) ∙ so_far k d

    pub same_more : (old new : List (LingeringStream S)) (i : ℕ) (v d0 : LingeringStream S) → i < length new → TellSame old new
        → is_shut v.stream ≡ is_shut (get_or new i d0).stream → TellSame old (set new i v)
    same_more old new i v d0 in' so_far same k d = same_at old new i v d0 in' so_far same k d (is_it k i)

    pub shut_same : (old new : List (LingeringStream S)) → TellSame old new → length new ≡ length old → AreShut is_shut old → AreShut is_shut new
    shut_same old new same long shut k d below = subst IsShut (sym (same k d)) (shut k d (omega (arith, long, below)))

    shut_filtered : (xs : List (LingeringStream S)) → AreShut is_shut xs → AreShut is_shut (filter has_looks xs)
    shut_filtered xs shut = All-filter has_looks (λ lingering. IsShut (is_shut lingering.stream)) xs shut

    pub shut_left : (passed new : List (LingeringStream S)) → new ≡ filter has_looks passed → AreShut is_shut passed → AreShut is_shut new
    shut_left passed new e shut = subst (AreShut is_shut) (sym e) (shut_filtered passed shut)
