-- A walk along a pv, one search at a time.
use Rattle.std.proofs.Common.{◌≡◌, ℕ, ◌+◌, ◌-◌, ◌*◌, ◌<◌, ◌≤◌, ℤ, List, [], ◌∷◌, ◌++◌, Option, Some, None, sym, ap, ◌∙◌, arith, append_assoc, append-nil}
use Rattle.std.specs.Prelude.{unwrap_or}
use Rattle.shogi_core.specs.declared.moves.Move.{Move}
use Rattle.shogi_core.specs.Position.{Shogi}
use Rattle.shogi_moves.specs.After.{after}
use Rattle.shogi_eval.specs.declared.eval.Eval.{Eval}
use Rattle.minimax.specs.Minimax.{value, best, pv, tree_size, pv_cost, then_pv_cost}
use Rattle.minimax.proofs.Lines.{pv-leaf, pv-none, pv-some, pv_cost-leaf, pv_cost-above}
use Rattle.minimax.proofs.MinimaxLaws.{best-leaf}
use Rattle.usi_session.specs.Walked.{walk_of}

-- without a best move the pv ends
pub walked_none : (moves all : List Move) (at : Shogi) (eval : Eval) (plies : ℕ) (b : Option Move) → 0 < plies → b ≡ best at eval plies → b ≡ None → moves ++ pv at eval plies ≡ all → moves ++ pv at eval 0 ≡ all
walked_none moves all at eval plies b h e n w =
    ap (λ xs. moves ++ xs) (pv-leaf at eval ∙ sym (pv-none at eval plies h (sym e ∙ n))) ∙ w

-- the pv after one more move
pub walked_some : (moves more all : List Move) (at next : Shogi) (eval : Eval) (plies : ℕ) (m : Move) (b : Option Move) → 0 < plies → b ≡ best at eval plies → b ≡ Some m → more ≡ moves ++ m ∷ [] → next ≡ after at m → moves ++ pv at eval plies ≡ all → more ++ pv next eval (plies - 1) ≡ all
walked_some moves more all at next eval plies m b h e n f g w =
    ap (λ xs. xs ++ pv next eval (plies - 1)) f
    ∙ (append_assoc moves (m ∷ []) (pv next eval (plies - 1))
    ∙ (ap (λ q. moves ++ m ∷ pv q eval (plies - 1)) g
    ∙ (ap (λ xs. moves ++ xs) (sym (pv-some at eval plies m h (sym e ∙ n))) ∙ w)))

-- a whole pv is the moves so far
pub walked_all : (moves all : List Move) (at : Shogi) (eval : Eval) (plies : ℕ) → plies ≡ 0 → moves ++ pv at eval plies ≡ all → moves ≡ all
walked_all moves all at eval plies e w =
    sym (append-nil moves) ∙ (ap (λ xs. moves ++ xs) (sym (ap (pv at eval) e ∙ pv-leaf at eval)) ∙ w)

-- no search follows a whole pv
pub cost_ends : (at : Shogi) (eval : Eval) (plies more : ℕ) → plies ≡ 0 → pv_cost at eval plies ≤ more
cost_ends at eval plies more e = let n : pv_cost at eval 0 ≡ 0 = pv_cost-leaf at eval in rw e (omega arith)

-- the steps of the first search along a pv, and of the later ones
pub cost_begun : (at : Shogi) (eval : Eval) (plies left old : ℕ) → 0 < plies → left ≡ 4 * tree_size at plies → left + then_pv_cost (λ q. pv_cost q eval (plies - 1)) at (best at eval plies) ≤ old + pv_cost at eval plies
cost_begun at eval plies left old h e = omega (arith, pv_cost-above at eval plies h)

-- no steps are left if no plies are
pub cost_over : (at : Shogi) (eval : Eval) (plies left old : ℕ) → plies ≡ 0 → left ≡ old → left + then_pv_cost (λ q. pv_cost q eval (plies - 1)) at (best at eval plies) ≤ old + pv_cost at eval plies
cost_over at eval plies left old e f = let b : best at eval 0 ≡ None = best-leaf at eval in rw (e, b, f) (omega arith)

-- one more ply changes neither the pv nor the value
pub walk_same : (eval : Eval) (at next : Shogi) (plies more : ℕ) (moves later : List Move) (found : Option ℤ) (v : ℤ) → later ++ pv next eval more ≡ moves ++ pv at eval plies → v ≡ unwrap_or found (value at eval plies)
    → walk_of eval next more later (Some v) ≡ record (walk_of eval at plies moves found) { at = next; plies = more }
walk_same eval at next plies more moves later found v e f =
    ap (λ (xs : List Move). record { eval = eval; at = next; plies = more; pv = xs; value = v }) e
    ∙ ap (λ (z : ℤ). record { eval = eval; at = next; plies = more; pv = moves ++ pv at eval plies; value = z }) f
