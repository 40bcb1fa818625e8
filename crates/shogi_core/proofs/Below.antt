-- Tests at each number below a bound.
use Rattle.std.proofs.Common.{◌≡◌, ℕ, ◌+◌, ◌<◌, ◌≤◌, Bool, true, false, refl, sym, arith, add-one, inl, inr, subst}
use Rattle.std.specs.Prelude.{zero, suc, ◌||◌}
use Rattle.std.proofs.lemmas.Bool.{cases_lt, or_left, or_right, or_parts, or_from, and_parts, and_from}
use Rattle.shogi_core.specs.Below.{some_below, all_below}

pub some_below_none : (test : ℕ → Bool) → some_below 0 test ≡ false
unfolding some_below
some_below_none test = refl

pub all_below_none : (test : ℕ → Bool) → all_below 0 test ≡ true
unfolding all_below
all_below_none test = refl

-- a bound raised by one
pub some_below_more : (n : ℕ) (test : ℕ → Bool) → some_below (n + 1) test ≡ (some_below n test || test n)
unfolding some_below
some_below_more n test = rw add-one refl

-- the last number below suc n, from n on
last_is : (n i : ℕ) → i < suc n → n ≤ i → i ≡ n
last_is n i h g = omega arith

at_last : (test : ℕ → Bool) (b : Bool) (n i : ℕ) → i ≡ n → test i ≡ b → test n ≡ b
at_last test b n i e h = subst (λ (k : ℕ). test k ≡ b) e h

-- one passing number is enough
pub some_below_at : (n : ℕ) (test : ℕ → Bool) (i : ℕ) → i < n → test i ≡ true → some_below n test ≡ true
unfolding some_below
some_below_at zero test i h e = absurd (omega arith)
some_below_at (suc n) test i h e =
    elim (cases_lt i n) [
      | inl below ↦ or_left _ _ (some_below_at n test i below e)
      | inr above ↦ or_right (some_below n test) (test n) (at_last test true n i (last_is n i h above) e)
    ]

-- no given number passes if none below n does
pub some_below_not : (n : ℕ) (test : ℕ → Bool) (i : ℕ) → some_below n test ≡ false → i < n → test i ≡ false
unfolding some_below
some_below_not zero test i e h = absurd (omega arith)
some_below_not (suc n) test i e h =
    elim (cases_lt i n) [
      | inl below ↦ some_below_not n test i ((or_parts (some_below n test) (test n) e).0) below
      | inr above ↦ at_last test false i n (sym (last_is n i h above)) ((or_parts (some_below n test) (test n) e).1)
    ]

-- none below n passes if each fails
pub some_below_no : (n : ℕ) (test : ℕ → Bool) → ((i : ℕ) → i < n → test i ≡ false) → some_below n test ≡ false
unfolding some_below
some_below_no zero test h = refl
some_below_no (suc n) test h = or_from (some_below n test) (test n) (some_below_no n test (λ i below. h i (omega arith))) (h n (omega arith))

pub all_below_at : (n : ℕ) (test : ℕ → Bool) (i : ℕ) → all_below n test ≡ true → i < n → test i ≡ true
unfolding all_below
all_below_at zero test i e h = absurd (omega arith)
all_below_at (suc n) test i e h =
    elim (cases_lt i n) [
      | inl below ↦ all_below_at n test i ((and_parts (all_below n test) (test n) e).0) below
      | inr above ↦ at_last test true i n (sym (last_is n i h above)) ((and_parts (all_below n test) (test n) e).1)
    ]

pub all_below_yes : (n : ℕ) (test : ℕ → Bool) → ((i : ℕ) → i < n → test i ≡ true) → all_below n test ≡ true
unfolding all_below
all_below_yes zero test h = refl
all_below_yes (suc n) test h = and_from (all_below n test) (test n) (all_below_yes n test (λ i below. h i (omega arith))) (h n (omega arith))

-- a loop that finds a passing number answers true
pub some_below_found : (n : ℕ) (test : ℕ → Bool) (i : ℕ) → i < n → test i ≡ true → true ≡ some_below n test
some_below_found n test i h e = sym (some_below_at n test i h e)
