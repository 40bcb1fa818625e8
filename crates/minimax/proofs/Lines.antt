-- The principal variation and its cost, one move at a time.
use Rattle.std.proofs.Common.{◌≡◌, ◌+◌, ◌*◌, ◌-◌, ◌<◌, ℕ, zero, suc, [], ◌∷◌, Some, None, refl, arith}
use Rattle.shogi_core.specs.declared.moves.Move.{Move}
use Rattle.shogi_core.specs.Position.{Shogi}
use Rattle.shogi_moves.specs.After.{after}
use Rattle.shogi_eval.specs.declared.eval.Eval.{Eval}
use Rattle.minimax.specs.Minimax.{best, pv, then_pv, tree_size, pv_cost, then_pv_cost}

pub pv-leaf : (p : Shogi) (eval : Eval) → pv p eval 0 ≡ []
unfolding pv
pv-leaf p eval = refl

pv-suc : (p : Shogi) (eval : Eval) (d : ℕ) → pv p eval (suc d) ≡ then_pv (λ q. pv q eval d) p (best p eval (suc d))
unfolding pv
pv-suc p eval d = refl

-- the principal variation at a depth of at least 1
pub pv-above : (p : Shogi) (eval : Eval) (d : ℕ) → 0 < d → pv p eval d ≡ then_pv (λ q. pv q eval (d - 1)) p (best p eval d)
pv-above p eval zero h = absurd (omega arith)
pv-above p eval (suc d) h = let e : suc d - 1 ≡ d = omega arith in rw e (pv-suc p eval d)

pub pv-some : (p : Shogi) (eval : Eval) (d : ℕ) (m : Move) → 0 < d → best p eval d ≡ Some m → pv p eval d ≡ m ∷ pv (after p m) eval (d - 1)
pv-some p eval d m h e = rw (pv-above p eval d h, e) refl

pub pv-none : (p : Shogi) (eval : Eval) (d : ℕ) → 0 < d → best p eval d ≡ None → pv p eval d ≡ []
pv-none p eval d h e = rw (pv-above p eval d h, e) refl

pub pv_cost-leaf : (p : Shogi) (eval : Eval) → pv_cost p eval 0 ≡ 0
unfolding pv_cost
pv_cost-leaf p eval = refl

pv_cost-suc : (p : Shogi) (eval : Eval) (k : ℕ) → pv_cost p eval (suc k) ≡ 4 * tree_size p (suc k) + then_pv_cost (λ q. pv_cost q eval k) p (best p eval (suc k))
unfolding pv_cost
pv_cost-suc p eval k = refl

pub pv_cost-above : (p : Shogi) (eval : Eval) (k : ℕ) → 0 < k → pv_cost p eval k ≡ 4 * tree_size p k + then_pv_cost (λ q. pv_cost q eval (k - 1)) p (best p eval k)
pv_cost-above p eval zero h = absurd (omega arith)
pv_cost-above p eval (suc k) h = let e : suc k - 1 ≡ k = omega arith in rw e (pv_cost-suc p eval k)
