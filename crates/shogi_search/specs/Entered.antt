-- The nodes that a search has entered and not left, and what is known of them (own choice).
use Rattle.std.specs.Prelude.{◌≡◌, ℕ, ◌-◌, ◌<◌, ℤ, ◌≤ℤ◌, true, List, [], ◌∷◌, Option, MatchOption, IsSomeAnd}
use Rattle.shogi_core.specs.Position.{Shogi}
use Rattle.shogi_moves.specs.After.{after_code}
use Rattle.shogi_moves.specs.Rising.{is_in}
use Rattle.shogi_eval.specs.declared.eval.Eval.{Eval}
use Rattle.minimax.specs.Minimax.{value, worth, negated}
use Rattle.search_nodes.specs.Visits.{moves_at}
use Rattle.minimax.specs.Window.{IsCovered, move_alpha}

-- a node entered and not left: its window, best value and best move so far, the moves not yet searched and the one being searched, and the lower bound that cut it off
pub record Entered : Type 0 where
  pub position : Shogi
  pub eval : Eval
  pub depth : ℕ
  pub alpha : ℤ
  pub beta : ℤ
  pub best_value : ℤ
  pub best_code : Option ℕ
  pub unsearched : List ℕ
  pub current : Option ℕ
  pub conclusive : Option ℤ

-- each move searched is worth at most its threshold, and the best move exactly the best value
abbrev pub IsSearchedSoFar : Entered → Type 0
IsSearchedSoFar n =
    IsCovered (worth n.position n.eval (n.depth - 1)) (moves_at n.position n.depth) n.unsearched
    n.alpha n.best_value n.best_code

-- the node is worth at least `v`, and `v` reaches beta
abbrev pub IsConclusiveAt : Entered → ℤ → Type 0
IsConclusiveAt n v = (n.beta ≤ℤ v) × (v ≤ℤ value n.position n.eval n.depth)

-- the node is cut off by its lower bound or, without one, searched so far
abbrev pub IsKnownNode : Entered → Type 0
IsKnownNode n = MatchOption n.conclusive (IsSearchedSoFar n) (IsConclusiveAt n)

-- the node has this position, evaluation, depth and window
pub record IsNodeAt (p : Shogi) (e : Eval) (d : ℕ) (low high : ℤ) (n : Entered) : Type 0 where
  pub position_is : n.position ≡ p
  pub eval_is : n.eval ≡ e
  pub depth_is : n.depth ≡ d
  pub alpha_is : n.alpha ≡ low
  pub beta_is : n.beta ≡ high

-- a path down from such a node: each next node is the child of the move being searched, one ply less deep, under the window left for that move
abbrev pub IsPath : Shogi → Eval → ℕ → ℤ → ℤ → List Entered → Type 0
IsPath p e d low high [] = ⊥
IsPath p e d low high (n ∷ []) = IsNodeAt p e d low high n
IsPath p e d low high (n ∷ m ∷ more) =
    IsNodeAt p e d low high n
    × ((0 < d)
    × IsSomeAnd n.current (λ code.
    (is_in code n.unsearched ≡ true)
    × IsPath (after_code p code) e (d - 1) (negated high)
    (negated (move_alpha n.best_value n.best_code code)) (m ∷ more)))
