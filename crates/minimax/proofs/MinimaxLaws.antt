-- Laws of the minimax value, the best move and the size of the tree.
use Rattle.std.proofs.Common.{◌≡◌, ◌<◌, ◌≤◌, ◌+◌, ◌-◌, ℕ, zero, suc, ℤ, pos, ◌-ℤ◌, ◌≤ℤ◌, ◌<ℤ◌, List, [], ◌∷◌, true, false, Option, None, refl, ap, ◌∙◌, sym, arith, find}
use Rattle.std.specs.List.{sum_by}
use Rattle.std.specs.Ordering.{int_eq}
use Rattle.std.proofs.lemmas.Int.{ints}
use Rattle.std.proofs.lemmas.Bool.{or_left, eq-eqb}
use Rattle.std.proofs.lemmas.List.Sums.{sum_by-cons}
use Rattle.shogi_core.specs.Position.{Shogi}
use Rattle.shogi_core.specs.Validity.{IsValid}
use Rattle.shogi_moves.specs.After.{after_code}
use Rattle.shogi_moves.specs.LegalMoves.{legal_codes}
use Rattle.shogi_moves.specs.Rising.{is_in}
use Rattle.shogi_eval.specs.declared.points.TheConstants.{POINTS_MAX}
use Rattle.shogi_eval.specs.Material.{material_of}
use Rattle.shogi_eval.proofs.Bounds.{material_bounds}
use Rattle.shogi_eval.specs.declared.eval.Eval.{Eval}
use Rattle.shogi_eval.specs.Exchange.{leaf_after, resolves_captures}
use Rattle.minimax.proofs.Settling.{IsBounded, left_bounded, left_plain}
use Rattle.minimax.specs.Minimax.{value, ended, best, best_code, move_of_some, tree_size, worth, lost_value, negated, greatest_or, if_no_move_else, sum_of_tree_sizes}
use Rattle.minimax.proofs.Greatest.{greatest_or-above, greatest_or-least}
use Rattle.minimax.proofs.Valid.{after_valid}
use Rattle.minimax.specs.declared.bounds.TheConstants.{MATE}
use Rattle.std.specs.Prelude.{◌+ℤ◌}

pub value-leaf : (p : Shogi) (eval : Eval) → value p eval 0 ≡ if_no_move_else (lost_value 0) (material_of p eval) (legal_codes p)
unfolding value
value-leaf p eval = refl

pub best_code-leaf : (p : Shogi) (eval : Eval) → best_code p eval 0 ≡ None
unfolding best_code
best_code-leaf p eval = refl

pub best-leaf : (p : Shogi) (eval : Eval) → best p eval 0 ≡ None
unfolding best
best-leaf p eval = ap move_of_some (best_code-leaf p eval)

-- the best move is that of the best code
pub best-code : (p : Shogi) (eval : Eval) (d : ℕ) (code : Option ℕ) → best_code p eval d ≡ code → best p eval d ≡ move_of_some code
unfolding best
best-code p eval d code e = ap move_of_some e

pub value-suc : (p : Shogi) (eval : Eval) (d : ℕ) → value p eval (suc d) ≡ greatest_or (lost_value (suc d)) (worth p eval d) (legal_codes p)
unfolding value
value-suc p eval zero = refl
value-suc p eval (suc d) = refl

pub best_code-suc : (p : Shogi) (eval : Eval) (d : ℕ) → best_code p eval (suc d) ≡ find (λ m. int_eq (worth p eval d m) (value p eval (suc d))) (legal_codes p)
unfolding best_code
best_code-suc p eval d = refl

pub tree_size-leaf : (p : Shogi) → tree_size p 0 ≡ 1
unfolding tree_size
tree_size-leaf p = refl

pub tree_size-suc : (p : Shogi) (d : ℕ) → tree_size p (suc d) ≡ 1 + sum_by (λ m. tree_size (after_code p m) d) (legal_codes p)
unfolding tree_size
tree_size-suc p d = refl

-- a value with d plies left lies between a loss and a win at once
pub record Within (d : ℕ) (v : ℤ) : Type 0 where
  pub least : lost_value d ≤ℤ v
  pub most : v <ℤ (MATE +ℤ pos d)

leaf_within : (ms : List ℕ) (v : ℤ) → (pos 0 -ℤ pos POINTS_MAX) ≤ℤ v → v ≤ℤ pos POINTS_MAX → Within 0 (if_no_move_else (lost_value 0) v ms)
leaf_within [] v l h = record { least = omega (arith, ints); most = omega (arith, ints) }
leaf_within (m ∷ ms) v l h = record { least = omega (arith, ints); most = omega (arith, ints) }

-- a move's worth with d plies after it lies within these bounds
pub record WorthWithin (d : ℕ) (w : ℤ) : Type 0 where
  pub least : lost_value d ≤ℤ w
  pub most : w ≤ℤ (MATE +ℤ pos d)

greatest_within : (d : ℕ) (f : ℕ → ℤ) (ms : List ℕ) → ((m : ℕ) → is_in m ms ≡ true → WorthWithin d (f m)) → Within (suc d) (greatest_or (lost_value (suc d)) f ms)
greatest_within d f [] h = record { least = omega (arith, ints); most = omega (arith, ints) }
greatest_within d f (m ∷ ms) h =
    let here : is_in m (m ∷ ms) ≡ true = or_left _ _ (eq-eqb m m refl) in
    let above : f m ≤ℤ greatest_or (lost_value (suc d)) f (m ∷ ms) = greatest_or-above (lost_value (suc d)) f (m ∷ ms) m here in
    let below : greatest_or (lost_value (suc d)) f (m ∷ ms) ≤ℤ (MATE +ℤ pos d) = greatest_or-least (lost_value (suc d)) f (m ∷ ms) m (MATE +ℤ pos d) here (λ n i. (h n i).most) in
    let first : lost_value d ≤ℤ f m = (h m here).least in
    record { least = omega (arith, ints); most = omega (arith, ints) }

negated_within : (d : ℕ) (v : ℤ) → Within d v → WorthWithin d (negated v)
negated_within d v h = record { least = omega (arith, ints); most = omega (arith, ints) }

-- the value after a move that ends a line
ended_within : (p : Shogi) (eval : Eval) (m : ℕ) → IsValid p → is_in m (legal_codes p) ≡ true → Within 0 (ended p eval m)
ended_within p eval m v i =
    let b : IsBounded (leaf_after p eval m) = left_bounded p eval m (after_valid p m v i) in
    leaf_within (legal_codes (after_code p m)) (leaf_after p eval m) b.least b.most

worth_within : (d : ℕ) (p : Shogi) (eval : Eval) (m : ℕ) → IsValid p → is_in m (legal_codes p) ≡ true → ((q : Shogi) → IsValid q → Within d (value q eval d)) → WorthWithin d (worth p eval d m)
worth_within zero p eval m v i h = negated_within 0 _ (ended_within p eval m v i)
worth_within (suc d) p eval m v i h = negated_within (suc d) _ (h (after_code p m) (after_valid p m v i))

pub value_within : (d : ℕ) (p : Shogi) (eval : Eval) → IsValid p → Within d (value p eval d)
value_within zero p eval v = rw value-leaf (leaf_within (legal_codes p) (material_of p eval) (material_bounds p eval v).0 (material_bounds p eval v).1)
value_within (suc d) p eval v = rw value-suc (greatest_within d (worth p eval d) (legal_codes p) (λ m i. worth_within d p eval m v i (λ q w. value_within d q eval w)))

-- the worth of a legal move lies within bounds
pub worth_bounds : (d : ℕ) (p : Shogi) (eval : Eval) (m : ℕ) → IsValid p → is_in m (legal_codes p) ≡ true → WorthWithin d (worth p eval d m)
worth_bounds d p eval m v i = worth_within d p eval m v i (λ q w. value_within d q eval w)

-- value, best move and tree size at a depth d of at least 1, from children of depth d - 1
pub value-above : (p : Shogi) (eval : Eval) (d : ℕ) → 0 < d → value p eval d ≡ greatest_or (lost_value d) (worth p eval (d - 1)) (legal_codes p)
value-above p eval zero h = absurd (omega arith)
value-above p eval (suc d) h = let e : suc d - 1 ≡ d = omega arith in rw e (value-suc p eval d)

pub best_code-above : (p : Shogi) (eval : Eval) (d : ℕ) → 0 < d → best_code p eval d ≡ find (λ m. int_eq (worth p eval (d - 1) m) (value p eval d)) (legal_codes p)
best_code-above p eval zero h = absurd (omega arith)
best_code-above p eval (suc d) h = let e : suc d - 1 ≡ d = omega arith in rw e (best_code-suc p eval d)

pub tree_size-above : (p : Shogi) (d : ℕ) → 0 < d → tree_size p d ≡ 1 + sum_of_tree_sizes p (d - 1) (legal_codes p)
tree_size-above p zero h = absurd (omega arith)
tree_size-above p (suc d) h = let e : suc d - 1 ≡ d = omega arith in rw e (tree_size-suc p d)

leaf_at : (p : Shogi) (eval : Eval) (ms : List ℕ) → legal_codes p ≡ ms → (ms ≡ [] → ⊥) → value p eval 0 ≡ material_of p eval
leaf_at p eval [] e ne = absurd (ne refl)
leaf_at p eval (m ∷ ms) e ne = value-leaf p eval ∙ ap (if_no_move_else (lost_value 0) (material_of p eval)) e

pub leaf_some : (p : Shogi) (eval : Eval) → (legal_codes p ≡ [] → ⊥) → value p eval 0 ≡ material_of p eval
leaf_some p eval ne = leaf_at p eval (legal_codes p) refl ne

leaf_empty : (p : Shogi) (eval : Eval) (ms : List ℕ) → legal_codes p ≡ ms → ((ms ≡ [] → ⊥) → ⊥) → value p eval 0 ≡ lost_value 0
leaf_empty p eval [] e nn = value-leaf p eval ∙ ap (if_no_move_else (lost_value 0) (material_of p eval)) e
leaf_empty p eval (m ∷ ms) e nn = absurd (nn (λ z. cc))

pub leaf_none : (p : Shogi) (eval : Eval) → ((legal_codes p ≡ [] → ⊥) → ⊥) → value p eval 0 ≡ lost_value 0
leaf_none p eval nn = leaf_empty p eval (legal_codes p) refl nn

pub ruleset leaves = (leaf_some, leaf_none)

pub sum_of_tree_sizes-next : (p : Shogi) (d m : ℕ) (q : Shogi) (xs rest : List ℕ) → q ≡ after_code p m → xs ≡ m ∷ rest → sum_of_tree_sizes p d xs ≡ tree_size q d + sum_of_tree_sizes p d rest
sum_of_tree_sizes-next p d m q xs rest a e = ap (sum_of_tree_sizes p d) e ∙ sum_by-cons (λ k. tree_size (after_code p k) d) m rest ∙ ap (λ (x : Shogi). tree_size x d + sum_of_tree_sizes p d rest) (sym a)

-- a tree has at least its root
pub tree_size-positive : (p : Shogi) (d : ℕ) → 1 ≤ tree_size p d
tree_size-positive p zero = rw tree_size-leaf (omega arith)
tree_size-positive p (suc d) = rw tree_size-suc (omega arith)

-- the worth of a move by its child's value, if plies are left
pub worth_from : (p : Shogi) (eval : Eval) (d m : ℕ) (q : Shogi) (r : ℤ) → 0 < d → r ≡ value q eval d → q ≡ after_code p m → worth p eval d m ≡ pos 0 -ℤ r
worth_from p eval zero m q r h e a = absurd (omega arith)
worth_from p eval (suc d) m q r h e a = ap (λ (x : Shogi). pos 0 -ℤ value x eval (suc d)) (sym a) ∙ ap (λ (x : ℤ). pos 0 -ℤ x) (sym e)

pub worth_deep : (p : Shogi) (eval : Eval) (d m : ℕ) → 0 < d → worth p eval d m ≡ negated (value (after_code p m) eval d)
worth_deep p eval zero m h = absurd (omega arith)
worth_deep p eval (suc d) m h = refl

-- without exchanges, the worth of a move that ends a line is the child's value negated
leaf_worth : (p : Shogi) (eval : Eval) (m : ℕ) (ms : List ℕ) → resolves_captures eval ≡ false → if_no_move_else (lost_value 0) (leaf_after p eval m) ms ≡ if_no_move_else (lost_value 0) (material_of (after_code p m) eval) ms
leaf_worth p eval m ms h = ap (λ (v : ℤ). if_no_move_else (lost_value 0) v ms) (left_plain p eval m h)

-- without exchanges, the worth of a move at any depth is the child's value negated
pub worth_plain : (p : Shogi) (eval : Eval) (d m : ℕ) → resolves_captures eval ≡ false → worth p eval d m ≡ negated (value (after_code p m) eval d)
worth_plain p eval zero m h = ap negated (leaf_worth p eval m (legal_codes (after_code p m)) h ∙ sym (value-leaf (after_code p m) eval))
worth_plain p eval (suc d) m h = refl

-- a move that ends a line is worth at most its score, unless it mates
pub ended_none : (p : Shogi) (eval : Eval) (m : ℕ) → legal_codes (after_code p m) ≡ [] → ended p eval m ≡ lost_value 0
ended_none p eval m none = ap (if_no_move_else (lost_value 0) (leaf_after p eval m)) none

ended_at : (p : Shogi) (eval : Eval) (m : ℕ) (ms : List ℕ) → legal_codes (after_code p m) ≡ ms → (ms ≡ [] → ⊥) → ended p eval m ≡ leaf_after p eval m
ended_at p eval m [] e ne = absurd (ne refl)
ended_at p eval m (c ∷ cs) e ne = ap (if_no_move_else (lost_value 0) (leaf_after p eval m)) e

pub ended_some : (p : Shogi) (eval : Eval) (m : ℕ) → (legal_codes (after_code p m) ≡ [] → ⊥) → ended p eval m ≡ leaf_after p eval m
ended_some p eval m ne = ended_at p eval m (legal_codes (after_code p m)) refl ne

-- the position is worth at least what a move is
pub cut : (p : Shogi) (eval : Eval) (d m : ℕ) (v : ℤ) → 0 < d → is_in m (legal_codes p) ≡ true → v ≤ℤ worth p eval (d - 1) m → v ≤ℤ value p eval d
cut p eval d m v h i l =
    let e : value p eval d ≡ greatest_or (lost_value d) (worth p eval (d - 1)) (legal_codes p) = value-above p eval d h in
    let g : worth p eval (d - 1) m ≤ℤ greatest_or (lost_value d) (worth p eval (d - 1)) (legal_codes p) = greatest_or-above (lost_value d) (worth p eval (d - 1)) (legal_codes p) m i in
    omega (arith, ints)
