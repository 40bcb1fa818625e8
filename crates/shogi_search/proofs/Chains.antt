-- The stack grows and shrinks at its top.
use Rattle.std.proofs.Common.{◌≡◌, ◌<◌, ◌+◌, ◌-◌, ℕ, ℤ, List, [], ◌∷◌, ◌++◌, length, refl, ap, ◌∙◌, arith}
use Rattle.std.specs.Prelude.{sum_by}
use Rattle.std.proofs.lemmas.List.Sums.{sum_by-append}
use Rattle.shogi_core.specs.declared.moves.Move.{Move}
use Rattle.shogi_core.specs.Codes.{code_of}
use Rattle.shogi_core.specs.Position.{Shogi}
use Rattle.shogi_moves.specs.After.{after_code}
use Rattle.shogi_eval.specs.declared.eval.Eval.{Eval}
use Rattle.search_nodes.specs.declared.frame.Frame.{Frame}
use Rattle.search_nodes.specs.declared.frame.NodeState.{NodeState}
use Rattle.search_nodes.specs.declared.frame.NodeState.TheVariants.{Expanding, AwaitingChild, CutOff}
use Rattle.search_nodes.specs.Frames.{move_alpha_of, position_after}
use Rattle.minimax.specs.Minimax.{negated}
use Rattle.search_nodes.specs.Changes.{IsAt, IsSame}
use Rattle.shogi_search.specs.Stack.{IsChain, WhereAsked}

-- the frame `q` is the child of `f` by the move that `f` waits for
pub record IsChild (f q : Frame) (m : Move) : Type 0 where
  pub deep : 0 < f.depth
  pub asks : f.state ≡ AwaitingChild m
  pub at_child : IsAt (position_after f m) f.node.eval (f.depth - 1) (negated f.beta) (negated (move_alpha_of f m)) q

-- a fact of the move that a node waits for may be weakened
where_map : (w : NodeState) (P Q : Move → Type 0) → ((m : Move) → P m → Q m) → WhereAsked w P → WhereAsked w Q
where_map Expanding P Q g h = h
where_map (AwaitingChild m) P Q g h = g m h
where_map (CutOff v) P Q g h = h

pub chain_same : (p : Shogi) (eval : Eval) (d : ℕ) (alpha beta : ℤ) (fs : List Frame) (f g : Frame) → IsChain p eval d alpha beta fs f → IsSame f g → IsChain p eval d alpha beta fs g
chain_same p eval d alpha beta [] f g c s = grind arith
chain_same p eval d alpha beta (h ∷ fs) f g c s = (c.0, (c.1.0, where_map h.state _ _ (λ m k. chain_same (after_code p (code_of m)) eval (d - 1) (negated beta) (negated (move_alpha_of h m)) fs f g k s) c.1.1))

pub chain_push : (p : Shogi) (eval : Eval) (d : ℕ) (alpha beta : ℤ) (fs : List Frame) (f q : Frame) (m : Move) → IsChain p eval d alpha beta fs f → IsChild f q m → IsChain p eval d alpha beta (fs ++ f ∷ []) q
chain_push p eval d alpha beta [] f q m c k = (c, (grind arith, rw k.asks (grind arith)))
chain_push p eval d alpha beta (h ∷ fs) f q m c k = (c.0, (c.1.0, where_map h.state _ _ (λ n i. chain_push (after_code p (code_of n)) eval (d - 1) (negated beta) (negated (move_alpha_of h n)) fs f q m i k) c.1.1))

-- the node below the top waits for a move, and the top is its child
pub record IsPopped (p : Shogi) (eval : Eval) (d : ℕ) (alpha beta : ℤ) (fs : List Frame) (f q : Frame) : Type 0 where
  pub chain : IsChain p eval d alpha beta fs f
  pub by : Move
  pub child : IsChild f q by

-- the node waits for some move, and the fact holds of that
record Asks (w : NodeState) (P : Move → Type 0) : Type 0 where
  pub current : Move
  pub is : w ≡ AwaitingChild current
  pub has : P current

asks : (w : NodeState) (P : Move → Type 0) → WhereAsked w P → Asks w P
asks Expanding P h = absurd h
asks (AwaitingChild m) P h = record { current = m; is = refl; has = h }
asks (CutOff v) P h = absurd h

pub chain_pop : (p : Shogi) (eval : Eval) (d : ℕ) (alpha beta : ℤ) (fs : List Frame) (f q : Frame) → IsChain p eval d alpha beta (fs ++ f ∷ []) q → IsPopped p eval d alpha beta fs f q
chain_pop p eval d alpha beta [] f q c =
    let a : Asks f.state (λ (m : Move). IsAt (after_code p (code_of m)) eval (d - 1) (negated beta) (negated (move_alpha_of f m)) q) = asks f.state _ c.1.1 in
    record { chain = c.0; by = a.current; child = grind arith }
chain_pop p eval d alpha beta (h ∷ fs) f q c =
    let a : Asks h.state (λ (m : Move). IsChain (after_code p (code_of m)) eval (d - 1) (negated beta) (negated (move_alpha_of h m)) (fs ++ f ∷ []) q) = asks h.state _ c.1.1 in
    let r : _ = chain_pop (after_code p (code_of a.current)) eval (d - 1) (negated beta) (negated (move_alpha_of h a.current)) fs f q a.has in
    record { chain = (c.0, (c.1.0, rw a.is r.chain)); by = r.by; child = r.child }

-- the top of a chain has at least two plies left
pub chain_deep : (p : Shogi) (eval : Eval) (d : ℕ) (alpha beta : ℤ) (fs : List Frame) (f : Frame) → IsChain p eval d alpha beta fs f → 1 < f.depth
chain_deep p eval d alpha beta [] f c = c.deep
chain_deep p eval d alpha beta (h ∷ fs) f c =
    let a : Asks h.state (λ (m : Move). IsChain (after_code p (code_of m)) eval (d - 1) (negated beta) (negated (move_alpha_of h m)) fs f) = asks h.state _ c.1.1 in
    chain_deep (after_code p (code_of a.current)) eval (d - 1) (negated beta) (negated (move_alpha_of h a.current)) fs f a.has

-- the frames below the top and its depth add up to the root's depth
pub chain_height : (p : Shogi) (eval : Eval) (d : ℕ) (alpha beta : ℤ) (fs : List Frame) (f : Frame) → IsChain p eval d alpha beta fs f → length fs + f.depth ≡ d
chain_height p eval d alpha beta [] f c = omega (arith, c.depth)
chain_height p eval d alpha beta (h ∷ fs) f c =
    let a : Asks h.state (λ (m : Move). IsChain (after_code p (code_of m)) eval (d - 1) (negated beta) (negated (move_alpha_of h m)) fs f) = asks h.state _ c.1.1 in
    omega (arith, c.1.0, chain_height (after_code p (code_of a.current)) eval (d - 1) (negated beta) (negated (move_alpha_of h a.current)) fs f a.has)

-- a frame waits for one move only
pub same_asked : (f q : Frame) (m n : Move) → IsChild f q m → f.state ≡ AwaitingChild n → IsChild f q n
same_asked f q m n k e = let s : n ≡ m = cc in rw s k

-- the sum over the frames is that over the lower ones and the top's
pub left_above : (left : Frame → ℕ) (all fs : List Frame) (f : Frame) → all ≡ fs ++ f ∷ [] → sum_by left all ≡ sum_by left fs + left f
left_above left all fs f e = ap (sum_by left) e ∙ sum_by-append left fs (f ∷ []) ∙ grind (arith)
