-- The greatest worth of the moves, and the first move that has it.
use Rattle.std.proofs.Common.{◌≡◌, ◌<◌, ℕ, ℤ, ◌≤ℤ◌, List, [], ◌∷◌, Bool, true, false, Some, refl, ap, ◌∙◌, sym, arith, inl, inr, find}
use Rattle.std.proofs.lemmas.Int.{ints, clamps}
use Rattle.std.proofs.lemmas.Bool.{or_cases, eqb-true, or_left, or_right, eq-eqb, cond-true, cond-false}
use Rattle.minimax.specs.Minimax.{greatest, greatest_or}
use Rattle.shogi_moves.specs.Rising.{is_in, IsRising}

-- the greatest worth is at least that of each move
pub greatest_above : (f : ℕ → ℤ) (m : ℕ) (ms : List ℕ) (n : ℕ) → is_in n (m ∷ ms) ≡ true → f n ≤ℤ greatest f m ms
greatest_above f m [] n h = elim (or_cases _ _ h) [ inl e ↦ (let q : f n ≡ f m = ap f (eqb-true n m e) in omega (arith, ints)) | inr e ↦ absurd (cc) ]
greatest_above f m (k ∷ ks) n h =
    elim (or_cases _ _ h) [
      | inl e ↦ (let q : f n ≡ f m = ap f (eqb-true n m e) in omega (arith, ints, clamps))
      | inr e ↦ (let q : f n ≤ℤ greatest f k ks = greatest_above f k ks n e in omega (arith, ints, clamps))
    ]

-- the greatest worth is at most any bound on all
pub greatest_least : (f : ℕ → ℤ) (m : ℕ) (ms : List ℕ) (v : ℤ) → ((n : ℕ) → is_in n (m ∷ ms) ≡ true → f n ≤ℤ v) → greatest f m ms ≤ℤ v
greatest_least f m [] v h = h m (or_left _ _ (eq-eqb m m refl))
greatest_least f m (k ∷ ks) v h =
    let first : f m ≤ℤ v = h m (or_left _ _ (eq-eqb m m refl)) in
    let rest : greatest f k ks ≤ℤ v = greatest_least f k ks v (λ n i. h n (or_right _ _ i)) in
    omega (arith, ints, clamps)

pub greatest_or-above : (otherwise : ℤ) (f : ℕ → ℤ) (ms : List ℕ) (n : ℕ) → is_in n ms ≡ true → f n ≤ℤ greatest_or otherwise f ms
greatest_or-above otherwise f [] n h = absurd (cc)
greatest_or-above otherwise f (m ∷ ms) n h = greatest_above f m ms n h

pub greatest_or-least : (otherwise : ℤ) (f : ℕ → ℤ) (ms : List ℕ) (b : ℕ) (v : ℤ) → is_in b ms ≡ true → ((n : ℕ) → is_in n ms ≡ true → f n ≤ℤ v) → greatest_or otherwise f ms ≤ℤ v
greatest_or-least otherwise f [] b v i h = absurd (cc)
greatest_or-least otherwise f (m ∷ ms) b v i h = greatest_least f m ms v h

-- in a rising list, `find` gives the passing number below which none passes
pub find_first : (t : ℕ → Bool) (ms : List ℕ) (b : ℕ) → IsRising ms → is_in b ms ≡ true → t b ≡ true → ((n : ℕ) → is_in n ms ≡ true → n < b → t n ≡ false) → find t ms ≡ Some b
find_first t [] b r i p l = absurd (cc)
find_first t (m ∷ ms) b r i p l =
    elim (or_cases _ _ i) [
      | inl e ↦ (let same : b ≡ m = eqb-true b m e in let q : t m ≡ true = sym (ap t same) ∙ p in cond-true (t m) (Some m) (find t ms) q ∙ ap (λ (k : ℕ). Some k) (sym same))
      | inr e ↦ cond-false (t m) (Some m) (find t ms) (l m (or_left _ _ (eq-eqb m m refl)) (r.0 b e)) ∙ find_first t ms b r.1 e p (λ n i. l n (or_right _ _ i))
    ]
