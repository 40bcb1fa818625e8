-- Nodes of any depth: a leaf goes through no moves.
use Rattle.std.proofs.Common.{◌≡◌, ◌<◌, ◌≤◌, ◌+◌, ◌-◌, ◌*◌, ℕ, zero, suc, ℤ, ◌≤ℤ◌, List, [], ◌∷◌, true, ◌==◌, Option, Some, None, refl, sym, arith, subst, ◌≢◌, ◌<ℤ◌}
use Rattle.std.proofs.lemmas.Bool.{or_left, eq-eqb}
use Rattle.std.proofs.lemmas.Bool.Decides.{nat_tests}
use Rattle.std.proofs.lemmas.Int.{ints}
use Rattle.shogi_core.specs.declared.moves.Move.{Move}
use Rattle.shogi_core.specs.Codes.{code_of}
use Rattle.shogi_core.specs.Position.{Shogi}
use Rattle.shogi_core.specs.Validity.{IsValid}
use Rattle.shogi_moves.specs.LegalMoves.{legal_codes}
use Rattle.shogi_moves.specs.Rising.{is_in}
use Rattle.shogi_eval.specs.declared.eval.Eval.{Eval}
use Rattle.search_nodes.specs.declared.priority_moves.PriorityMoves.{PriorityMoves}
use Rattle.search_nodes.specs.declared.move_picker.MovePicker.{MovePicker}
use Rattle.search_nodes.specs.declared.move_picker.MovePicker.TheVariants.{First, Done}
use Rattle.minimax.specs.Minimax.{tree_size, sum_of_tree_sizes, value, worth, negated}
use Rattle.minimax.specs.Window.{IsCovered, move_alpha}
use Rattle.search_nodes.specs.Order.{todo, IsKept}
use Rattle.search_nodes.specs.declared.frame.NodeState.{NodeState}
use Rattle.search_nodes.specs.declared.frame.NodeState.TheVariants.{Expanding, AwaitingChild, CutOff}
use Rattle.search_nodes.specs.Visits.{moves_at, IsAsked, IsCurrent, WhereCurrent, IsOver, IsKnownWhile, IsReachedBy}
use Rattle.minimax.proofs.MinimaxLaws.{tree_size-above, tree_size-leaf, worth_bounds, WorthWithin}
use Rattle.search_nodes.proofs.OrderLaws.{IsWhole, whole, whole_covered}
use Rattle.minimax.proofs.Cover.{IsCovered-start}
use Rattle.minimax.specs.declared.bounds.TheConstants.{SEARCH_DEPTH_MAX, INFINITY}

-- a node with a move that waits is no leaf
pub record IsWaiting (f : ℕ → ℤ) (p : Shogi) (d m : ℕ) (rest : List ℕ) (alpha best_value : ℤ) (b : Option ℕ) : Type 0 where
  pub deep : 0 < d
  pub is_listed : is_in m (legal_codes p) ≡ true
  pub covered : IsCovered f (legal_codes p) (m ∷ rest) alpha best_value b

waits_at : (f : ℕ → ℤ) (p : Shogi) (d m : ℕ) (rest : List ℕ) (alpha best_value : ℤ) (b : Option ℕ) → IsCovered f (moves_at p d) (m ∷ rest) alpha best_value b → IsWaiting f p d m rest alpha best_value b
waits_at f p zero m rest alpha best_value b c = let i : is_in m [] ≡ true = c.among m (or_left (m == m) (is_in m rest) (eq-eqb m m refl)) in absurd (cc)
waits_at f p (suc d) m rest alpha best_value b c = record { deep = omega arith; is_listed = c.among m (or_left (m == m) (is_in m rest) (eq-eqb m m refl)); covered = c }

-- if something holds of the current move, there is one
pub record HasCurrent (w : NodeState) (fact : Move → Type 0) : Type 0 where
  pub current : Move
  pub is : IsCurrent w current
  pub has : fact current

pub has_current : (w : NodeState) (fact : Move → Type 0) → WhereCurrent w fact → HasCurrent w fact
has_current Expanding fact h = absurd h
has_current (AwaitingChild m) fact h = record { current = m; is = refl; has = h }
has_current (CutOff v) fact h = absurd h

-- what holds of this move holds of the current one
pub of_current : (w : NodeState) (fact : Move → Type 0) (m : Move) → IsCurrent w m → fact m → WhereCurrent w fact
of_current Expanding fact m e h = absurd e
of_current (AwaitingChild k) fact m e h = subst fact (sym e) h
of_current (CutOff v) fact m e h = absurd e

-- the move that is asked for is the current one
pub asked : (w : NodeState) (m : Move) → w ≡ AwaitingChild m → IsCurrent w m
asked w m e = subst (λ (x : NodeState). IsCurrent x m) (sym e) refl

pub waits : (p : Shogi) (eval : Eval) (d : ℕ) (alpha beta best_value : ℤ) (b : Option ℕ) (ms : List ℕ) (w : NodeState) (m : Move) → IsCurrent w m → IsKnownWhile p eval d alpha beta best_value b ms w → IsWaiting (worth p eval (d - 1)) p d (code_of m) ms alpha best_value b
waits p eval d alpha beta best_value b ms Expanding m e c = absurd e
waits p eval d alpha beta best_value b ms (AwaitingChild k) m e c = waits_at (worth p eval (d - 1)) p d (code_of m) ms alpha best_value b (subst (λ (x : Move). IsCovered (worth p eval (d - 1)) (moves_at p d) (code_of x ∷ ms) alpha best_value b) e c)
waits p eval d alpha beta best_value b ms (CutOff v) m e c = absurd e

-- the facts of a node that waits for a move's answer do not depend on the end of its window
pub known_under : (p : Shogi) (eval : Eval) (d : ℕ) (alpha beta bound best_value : ℤ) (b : Option ℕ) (ms : List ℕ) (w : NodeState) → IsAsked w → IsKnownWhile p eval d alpha beta best_value b ms w → IsKnownWhile p eval d alpha bound best_value b ms w
known_under p eval d alpha beta bound best_value b ms Expanding a c = absurd a
known_under p eval d alpha beta bound best_value b ms (AwaitingChild k) a c = c
known_under p eval d alpha beta bound best_value b ms (CutOff v) a c = absurd a

-- a move that is asked for is not taken in
pub is_asked : (w : NodeState) (m : Move) → w ≡ AwaitingChild m → IsAsked w
is_asked w m e = subst IsAsked (sym e) tt

-- what a node knows whose moves are all gone through
pub record IsGone (p : Shogi) (eval : Eval) (d : ℕ) (alpha best_value : ℤ) (b : Option ℕ) (ms : List ℕ) : Type 0 where
  pub none : ms ≡ []
  pub covered : IsCovered (worth p eval (d - 1)) (moves_at p d) ms alpha best_value b

pub gone : (p : Shogi) (eval : Eval) (d : ℕ) (alpha beta best_value : ℤ) (b : Option ℕ) (ms : List ℕ) (w : NodeState) → IsOver w ms → ((v : ℤ) → w ≡ CutOff v → ⊥) → IsKnownWhile p eval d alpha beta best_value b ms w → IsGone p eval d alpha best_value b ms
gone p eval d alpha beta best_value b ms Expanding o n c = record { none = o; covered = c }
gone p eval d alpha beta best_value b ms (AwaitingChild k) o n c = absurd o
gone p eval d alpha beta best_value b ms (CutOff v) o n c = absurd (n v refl)

-- and back, once the move has its answer
pub at_depth : (f : ℕ → ℤ) (p : Shogi) (d : ℕ) (ms : List ℕ) (alpha best_value : ℤ) (b : Option ℕ) → 0 < d → IsCovered f (legal_codes p) ms alpha best_value b → IsCovered f (moves_at p d) ms alpha best_value b
at_depth f p zero ms alpha best_value b h c = absurd (omega arith)
at_depth f p (suc d) ms alpha best_value b h c = c

pub gone_through : (f : ℕ → ℤ) (p : Shogi) (d : ℕ) (ms : List ℕ) (alpha best_value : ℤ) (b : Option ℕ) → 0 < d → IsCovered f (moves_at p d) ms alpha best_value b → IsCovered f (legal_codes p) ms alpha best_value b
gone_through f p zero ms alpha best_value b h c = absurd (omega arith)
gone_through f p (suc d) ms alpha best_value b h c = c

pub record IsNew (f : ℕ → ℤ) (p : Shogi) (d : ℕ) (alpha : ℤ) (picker : MovePicker) : Type 0 where
  pub covered : IsCovered f (moves_at p d) (todo p picker) alpha alpha None
  pub counted : 1 + 2 * sum_of_tree_sizes p (d - 1) (todo p picker) < 2 * tree_size p d
  pub kept : IsKept p picker

new_leaf : (f : ℕ → ℤ) (p : Shogi) (alpha : ℤ) → IsNew f p 0 alpha Done
new_leaf f p alpha = record { covered = IsCovered-start f [] alpha; counted = omega (arith, tree_size-leaf p); kept = tt }

pub new_node : (f : ℕ → ℤ) (p : Shogi) (d : ℕ) (alpha : ℤ) (priority_moves : PriorityMoves) (picker : MovePicker) → (d ≡ 0 → picker ≡ Done) → (0 < d → picker ≡ First priority_moves 0) → IsNew f p d alpha picker
new_node f p zero alpha priority_moves picker a b = subst (λ (c : MovePicker). IsNew f p 0 alpha c) (sym (a refl)) (new_leaf f p alpha)
new_node f p (suc d) alpha priority_moves picker a b =
    let deep : 0 < suc d = omega arith in
    let w : IsWhole p (suc d - 1) (First priority_moves 0) = whole p (suc d - 1) priority_moves in
    subst
    (λ (c : MovePicker). IsNew f p (suc d) alpha c)
    (sym (b deep))
    (record {
      covered = whole_covered p (suc d - 1) (First priority_moves 0) f alpha w;
      counted = omega (arith, tree_size-above p (suc d) deep, w.counted);
      kept = tt;
    })

some_is : (b c : ℕ) → Some b ≡ Some c → b ≡ c
some_is b c e = cc

some_not : (b : ℕ) → Some b ≢ None
some_not b e = absurd (cc)

-- a value that cuts a node off by a move, and the same value as it is kept
pub cuts : (p : Shogi) (eval : Eval) (d : ℕ) (beta v v' : ℤ) (b : ℕ) → v' ≡ v → v ≤ℤ value p eval d → beta ≤ℤ v → is_in b (legal_codes p) ≡ true → v ≤ℤ worth p eval (d - 1) b → ((v' ≤ℤ value p eval d) × (beta ≤ℤ v')) × IsReachedBy p eval d v' (Some b)
cuts p eval d beta v v' b e l h listed w = (
  (subst (λ (y : ℤ). y ≤ℤ value p eval d) (sym e) l, subst (λ (y : ℤ). beta ≤ℤ y) (sym e) h),
  (some_not b, λ c same. subst (λ (k : ℕ). (is_in k (legal_codes p) ≡ true) × (v' ≤ℤ worth p eval (d - 1) k)) (some_is b c same) (listed, subst (λ (y : ℤ). y ≤ℤ worth p eval (d - 1) b) (sym e) w)),
)

threshold_falls_one : (best_value : ℤ) (b m : ℕ) → negated INFINITY <ℤ best_value → negated INFINITY ≤ℤ move_alpha best_value (Some b) m
threshold_falls_one best_value b m t = grind (arith, ints, nat_tests)

-- the threshold of a node is no less than what no position reaches
threshold_least : (p : Shogi) (eval : Eval) (d : ℕ) (alpha best_value : ℤ) (rest : List ℕ) (b : Option ℕ) (m : ℕ) → IsValid p → d ≤ SEARCH_DEPTH_MAX → negated INFINITY ≤ℤ alpha → IsCovered (worth p eval (d - 1)) (legal_codes p) rest alpha best_value b → (negated INFINITY ≤ℤ best_value) × (negated INFINITY ≤ℤ move_alpha best_value b m)
threshold_least p eval d alpha best_value rest None m ok h l c = let e : best_value ≡ alpha = c.reached in (omega (arith, ints), omega (arith, ints))
threshold_least p eval d alpha best_value rest (Some b) m ok h l c =
    let w : WorthWithin (d - 1) (worth p eval (d - 1) b) = worth_bounds (d - 1) p eval b ok c.reached.0 in
    let e : worth p eval (d - 1) b ≡ best_value = c.reached.1 in
    let t : negated INFINITY <ℤ best_value = omega (arith, ints) in
    (omega (arith, ints), threshold_falls_one best_value b m t)

pub threshold_within : (p : Shogi) (eval : Eval) (d : ℕ) (alpha beta best_value : ℤ) (b : Option ℕ) (ms : List ℕ) (w : NodeState) (m : ℕ) → ((v : ℤ) → w ≡ CutOff v → ⊥) → IsValid p → d ≤ SEARCH_DEPTH_MAX → negated INFINITY ≤ℤ alpha → 0 < d → IsKnownWhile p eval d alpha beta best_value b ms w → (negated INFINITY ≤ℤ best_value) × (negated INFINITY ≤ℤ move_alpha best_value b m)
threshold_within p eval d alpha beta best_value b ms Expanding m o ok h l deep c = threshold_least p eval d alpha best_value ms b m ok h l (gone_through (worth p eval (d - 1)) p d ms alpha best_value b deep c)
threshold_within p eval d alpha beta best_value b ms (AwaitingChild k) m o ok h l deep c = threshold_least p eval d alpha best_value (code_of k ∷ ms) b m ok h l (gone_through (worth p eval (d - 1)) p d (code_of k ∷ ms) alpha best_value b deep c)
threshold_within p eval d alpha beta best_value b ms (CutOff v) m o ok h l deep c = absurd (o v refl)
