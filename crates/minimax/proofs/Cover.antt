-- How knowledge of a node's moves grows during a search.
use Rattle.std.proofs.Common.{◌≡◌, ◌<◌, ℕ, ℤ, ◌≤ℤ◌, ◌<ℤ◌, List, [], ◌∷◌, Option, Some, None, refl, ap, sym, arith, subst, inl, inr, find}
use Rattle.std.specs.Ordering.{int_eq}
use Rattle.std.proofs.lemmas.Int.{ints}
use Rattle.std.proofs.lemmas.Bool.{or_left, or_right, or_from, ne_eqb, eq-eqb, cases_eq}
use Rattle.std.proofs.lemmas.Bool.Decides.{nat_tests}
use Rattle.minimax.specs.Minimax.{greatest_or}
use Rattle.shogi_moves.specs.Rising.{IsRising}
use Rattle.minimax.specs.Window.{move_alpha, IsCovered}
use Rattle.minimax.proofs.Greatest.{greatest_or-above, greatest_or-least, find_first}
use Rattle.minimax.proofs.Equal.{same_int_eq, less_int_eq}

-- at the start no move is covered, and the best value is alpha
pub IsCovered-start : (f : ℕ → ℤ) (all : List ℕ) (alpha : ℤ) → IsCovered f all all alpha alpha None
IsCovered-start f all alpha = record {
  among = λ n i. i;
  below = λ n i o. absurd (cc);
  reached = refl;
}

pub move_alpha-best_value : (best_value : ℤ) (b : Option ℕ) (n : ℕ) → move_alpha best_value b n ≤ℤ best_value
move_alpha-best_value best_value None n = omega (arith, ints)
move_alpha-best_value best_value (Some b) n = grind (arith, ints, nat_tests)

move_alpha-raised : (best_value v : ℤ) (b : Option ℕ) (m n : ℕ) → move_alpha best_value b m <ℤ v → move_alpha best_value b n ≤ℤ move_alpha v (Some m) n
move_alpha-raised best_value v None m n h = grind (arith, ints, nat_tests)
move_alpha-raised best_value v (Some b) m n h = grind (arith, ints, nat_tests)

below_lesser : (v best_value : ℤ) (b n : ℕ) → n < b → v ≤ℤ move_alpha best_value (Some b) n → v <ℤ best_value
below_lesser v best_value b n lt h = grind (arith, ints, nat_tests)

at_itself : (f : ℕ → ℤ) (v : ℤ) (m n : ℕ) → n ≡ m → f m ≡ v → f n ≤ℤ move_alpha v (Some m) n
at_itself f v m n same e = let q : f n ≡ f m = ap f same in grind (arith, ints, nat_tests)

-- a move that does not exceed its alpha is covered
pub IsCovered-skip : (f : ℕ → ℤ) (all rest : List ℕ) (alpha best_value : ℤ) (b : Option ℕ) (m : ℕ) → IsCovered f all (m ∷ rest) alpha best_value b → f m ≤ℤ move_alpha best_value b m → IsCovered f all rest alpha best_value b
IsCovered-skip f all rest alpha best_value b m h le = record {
  among = λ n i. h.among n (or_right _ _ i);
  below = λ n i o. elim (cases_eq n m) [ inl e ↦ subst (λ (k : ℕ). f k ≤ℤ move_alpha best_value b k) (sym e) le | inr ne ↦ h.below n i (or_from _ _ (ne_eqb n m ne) o) ];
  reached = h.reached;
}

-- a move that exceeds its alpha becomes the best move
pub IsCovered-raise : (f : ℕ → ℤ) (all rest : List ℕ) (alpha best_value v : ℤ) (b : Option ℕ) (m : ℕ) → IsCovered f all (m ∷ rest) alpha best_value b → f m ≡ v → move_alpha best_value b m <ℤ v → IsCovered f all rest alpha v (Some m)
IsCovered-raise f all rest alpha best_value v b m h e lt = record {
  among = λ n i. h.among n (or_right _ _ i);
  below = λ n i o. elim (cases_eq n m) [ inl same ↦ at_itself f v m n same e | inr ne ↦ (let old : f n ≤ℤ move_alpha best_value b n = h.below n i (or_from _ _ (ne_eqb n m ne) o) in let more : move_alpha best_value b n ≤ℤ move_alpha v (Some m) n = move_alpha-raised best_value v b m n lt in omega (arith, ints)) ];
  reached = (h.among m (or_left _ _ (eq-eqb m m refl)), e);
}

-- at the end the best move is the first of the greatest worth
pub ended_exact : (otherwise : ℤ) (f : ℕ → ℤ) (all : List ℕ) (alpha best_value : ℤ) (b : ℕ) → IsRising all → IsCovered f all [] alpha best_value (Some b) → greatest_or otherwise f all ≡ best_value
ended_exact otherwise f all alpha best_value b r h =
    let up : greatest_or otherwise f all ≤ℤ best_value = greatest_or-least otherwise f all b best_value h.reached.0 (λ n i. let at_threshold : f n ≤ℤ move_alpha best_value (Some b) n = h.below n i refl in let le : move_alpha best_value (Some b) n ≤ℤ best_value = move_alpha-best_value best_value (Some b) n in omega (arith, ints)) in
    let at : f b ≤ℤ greatest_or otherwise f all = greatest_or-above otherwise f all b h.reached.0 in
    let same : f b ≡ best_value = h.reached.1 in
    omega (arith, ints)

pub ended_first : (f : ℕ → ℤ) (all : List ℕ) (alpha best_value : ℤ) (b : ℕ) → IsRising all → IsCovered f all [] alpha best_value (Some b) → find (λ m. int_eq (f m) best_value) all ≡ Some b
ended_first f all alpha best_value b r h =
    find_first (λ m. int_eq (f m) best_value) all b r h.reached.0 (same_int_eq _ _ h.reached.1)
    (λ n i lt. less_int_eq _ _ (below_lesser (f n) best_value b n lt (h.below n i refl)))

-- at the end without a best move, none is worth more than alpha
pub ended_low : (otherwise : ℤ) (f : ℕ → ℤ) (m : ℕ) (ms : List ℕ) (alpha best_value : ℤ) → IsCovered f (m ∷ ms) [] alpha best_value None → greatest_or otherwise f (m ∷ ms) ≤ℤ best_value
ended_low otherwise f m ms alpha best_value h = greatest_or-least otherwise f (m ∷ ms) m best_value (or_left _ _ (eq-eqb m m refl)) (λ n i. h.below n i refl)

pub at_end : (f : ℕ → ℤ) (all todo : List ℕ) (alpha best_value : ℤ) (b b' : Option ℕ) → todo ≡ [] → b ≡ b' → IsCovered f all todo alpha best_value b → IsCovered f all [] alpha best_value b'
at_end f all todo alpha best_value b b' e q h =
    subst (λ (x : Option ℕ). IsCovered f all [] alpha best_value x) q (subst (λ (xs : List ℕ). IsCovered f all xs alpha best_value b) e h)
