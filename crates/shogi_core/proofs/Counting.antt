-- Counts of zero, at least one, or at least two.
use Rattle.std.proofs.Common.{◌≡◌, ℕ, ◌+◌, ◌<◌, ◌≤◌, Bool, true, false, List, [], ◌∷◌, length, get_or, refl, arith}
use Rattle.std.specs.Prelude.{zero, suc, cond, count_by}
use Rattle.std.proofs.lemmas.List.Sums.{sum_by-cons}

pub none_counted : {X : Type 0} (p : X → Bool) (xs : List X) (d : X) → ((i : ℕ) → i < length xs → p (get_or xs i d) ≡ false) → count_by p xs ≡ 0
none_counted p [] d none = refl
none_counted p (x ∷ xs) d none = rw (none 0 (omega arith)) (none_counted p xs d (λ i h. none (suc i) (omega arith)))

counted_cons : {X : Type 0} (p : X → Bool) (x : X) (xs : List X) → count_by p (x ∷ xs) ≡ cond (p x) 1 0 + count_by p xs
counted_cons p x xs = sum_by-cons (λ y. cond (p y) 1 0) x xs

one_of : (b : Bool) → b ≡ true → 1 ≤ cond b 1 0
one_of true e = omega arith
one_of false e = absurd (cc)

pub some_counted : {X : Type 0} (p : X → Bool) (xs : List X) (i : ℕ) (d : X) → i < length xs → p (get_or xs i d) ≡ true → 0 < count_by p xs
some_counted p [] i d h e = absurd (omega arith)
some_counted p (x ∷ xs) zero d h e = omega (arith, counted_cons p x xs, one_of (p x) e)
some_counted p (x ∷ xs) (suc i) d h e = let rest : 0 < count_by p xs = some_counted p xs i d (omega arith) e in omega (arith, counted_cons p x xs, rest)

pub two_counted : {X : Type 0} (p : X → Bool) (xs : List X) (i j : ℕ) (d : X) → i < j → j < length xs → p (get_or xs i d) ≡ true → p (get_or xs j d) ≡ true → 2 ≤ count_by p xs
two_counted p [] i j d h l a b = absurd (omega arith)
two_counted p (x ∷ xs) i zero d h l a b = absurd (omega arith)
two_counted p (x ∷ xs) zero (suc j) d h l a b =
    let rest : 0 < count_by p xs = some_counted p xs j d (omega arith) b in
    omega (arith, counted_cons p x xs, one_of (p x) a)
two_counted p (x ∷ xs) (suc i) (suc j) d h l a b =
    let rest : 2 ≤ count_by p xs = two_counted p xs i j d (omega arith) (omega arith) a b in
    omega (arith, counted_cons p x xs)
