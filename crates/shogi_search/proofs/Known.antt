-- What is known of the nodes of a stack, as a caller sees it.
use Rattle.std.proofs.Common.{◌≡◌, ◌<◌, ◌-◌, ◌≤ℤ◌, ℕ, ℤ, Bool, true, false, List, [], ◌∷◌, ◌++◌, map, Option, None, Some, arith, rules}
use Rattle.std.specs.List.{All}
use Rattle.std.specs.Prelude.{MatchOption, IsSomeAnd, slice_index_or}
use Rattle.std.proofs.lemmas.List.Elements.{All-map}
use Rattle.shogi_core.specs.declared.moves.Move.{Move}
use Rattle.shogi_core.specs.Codes.{code_of}
use Rattle.shogi_core.specs.Position.{Shogi}
use Rattle.shogi_eval.specs.declared.eval.Eval.{Eval}
use Rattle.shogi_moves.specs.After.{after_code}
use Rattle.shogi_moves.specs.Rising.{is_in}
use Rattle.shogi_search.specs.declared.found.Found.{Found}
use Rattle.search_nodes.specs.declared.frame.Frame.{Frame}
use Rattle.search_nodes.specs.declared.frame.NodeState.{NodeState}
use Rattle.search_nodes.specs.declared.frame.NodeState.TheVariants.{Expanding, AwaitingChild, CutOff}
use Rattle.shogi_search.specs.Entered.{Entered, IsKnownNode, IsNodeAt, IsPath}
use Rattle.minimax.specs.Minimax.{negated, worth, value}
use Rattle.search_nodes.specs.Order.{todo}
use Rattle.shogi_search.specs.SlicedSearch.{IsSearch, progress_of, entered_of, entered_in, current_in, conclusive_in, and_current}
use Rattle.shogi_search.specs.Progress.{HasPath}
use Rattle.shogi_search.proofs.SearchCallLaws.{entered_count}
use Rattle.search_nodes.specs.Changes.{IsAt}
use Rattle.shogi_search.specs.Stack.{IsChain, IsStack, WhereAsked, frames_of, parents_of}
use Rattle.shogi_search.specs.declared.stack.Stack.{Stack}
use Rattle.shogi_search.specs.declared.sliced_search.Search.TheInside.{Inside}
use Rattle.minimax.specs.declared.bounds.TheConstants.{INFINITY}
use Rattle.shogi_search.proofs.Places.{HasTop, has_top, frames_are}
use Rattle.search_nodes.specs.Visits.{IsKnownWhile, moves_at}
use Rattle.minimax.specs.Window.{IsCovered, move_alpha, code_at}

-- what a node knows by what it waits for, as a caller sees it
known_while : (p : Shogi) (e : Eval) (d : ℕ) (alpha beta best_value : ℤ) (best_move : Option ℕ) (codes : List ℕ) (w : NodeState) → IsKnownWhile p e d alpha beta best_value best_move codes w → MatchOption (conclusive_in w) (IsCovered (worth p e (d - 1)) (moves_at p d) (and_current (current_in w) codes) alpha best_value best_move) (λ v. (beta ≤ℤ v) × (v ≤ℤ value p e d))
known_while p e d alpha beta best_value best_move codes Expanding k = k
known_while p e d alpha beta best_value best_move codes (AwaitingChild m) k = k
known_while p e d alpha beta best_value best_move codes (CutOff v) k = (k.0.1, k.0.0)

node_known : (f : Frame) → IsKnownNode (entered_of f)
node_known f = known_while _ _ _ _ _ _ _ _ f.state f.known

pub nodes_known : (found : Option Found) (started : Bool) (fs : List Frame) → All IsKnownNode (entered_in found started (map entered_of fs))
nodes_known (Some f) started fs = λ k d h. absurd (omega arith)
nodes_known None false fs = λ k d h. absurd (omega arith)
nodes_known None true fs = All-map IsKnownNode entered_of fs (λ k d h. node_known (slice_index_or fs k d))

node_at : (p : Shogi) (e : Eval) (d : ℕ) (alpha beta : ℤ) (f : Frame) → IsAt p e d alpha beta f → IsNodeAt p e d alpha beta (entered_of f)
node_at p e d alpha beta f a = assumption

head_in : (code : ℕ) (codes : List ℕ) → is_in code (code ∷ codes) ≡ true
head_in code codes = search rules

-- what holds of the move that is asked for holds of the current one, which is not searched yet
asked_current : (w : NodeState) (codes : List ℕ) (P : Move → Type 0) (Q : ℕ → Type 0) → ((m : Move) → P m → Q (code_of m)) → WhereAsked w P → IsSomeAnd (current_in w) (λ code. (is_in code (and_current (current_in w) codes) ≡ true) × Q code)
asked_current Expanding codes P Q g h = absurd h
asked_current (AwaitingChild m) codes P Q g h = (head_in (code_of m) codes, g m h)
asked_current (CutOff v) codes P Q g h = absurd h

no_current : (o : Option ℕ) (A : ℕ → Type 0) → IsSomeAnd o (λ code. A code × ⊥) → ⊥
no_current None A h = h
no_current (Some code) A h = h.1

-- a node before a way down from its current move
longer : (p : Shogi) (e : Eval) (d : ℕ) (low high : ℤ) (n : Entered) (ns : List Entered) → IsNodeAt p e d low high n → 0 < d → IsSomeAnd n.current (λ code. (is_in code n.unsearched ≡ true) × IsPath (after_code p code) e (d - 1) (negated high) (negated (move_alpha n.best_value n.best_code code)) ns) → IsPath p e d low high (n ∷ ns)
longer p e d low high n [] a deep h = absurd (no_current n.current _ h)
longer p e d low high n (m ∷ more) a deep h = (a, (deep, h))

chain_path : (p : Shogi) (e : Eval) (d : ℕ) (low high : ℤ) (fs : List Frame) (top : Frame) → IsChain p e d low high fs top → IsPath p e d low high (map entered_of (fs ++ top ∷ []))
chain_path p e d low high [] top c = node_at p e d low high top c
chain_path p e d low high (f ∷ fs) top c =
    longer p e d low high (entered_of f) (map entered_of (fs ++ top ∷ [])) (node_at p e d low high f c.0) c.1.0
    (asked_current f.state (todo f.node.position f.picker) _ (λ code. IsPath (after_code p code) e (d - 1) (negated high) (negated (move_alpha f.best_value (code_at f.best_move) code)) (map entered_of (fs ++ top ∷ [])))
    (λ m k. chain_path (after_code p (code_of m)) e (d - 1) (negated high) (negated (move_alpha f.best_value (code_at f.best_move) (code_of m))) fs top k) c.1.1)

-- the nodes of a stack are a way down from its root
stack_path : (s : Stack) → IsStack s → IsPath s.root s.eval s.depth (negated INFINITY) s.bound (map entered_of (frames_of s))
stack_path s k =
    let t : HasTop s (IsChain s.root s.eval s.depth (negated INFINITY) s.bound (parents_of s)) = has_top s _ k.chain in
    rw (frames_are s t.top t.is) (chain_path _ _ _ _ _ (parents_of s) t.top t.has)

-- while a search is under way, its entered nodes lead down from its root
pub nodes_path : (s : Inside) → IsSearch s → s.started ≡ true → s.found ≡ None → HasPath (progress_of s)
nodes_path s i b o = record {
  high = s.stack.bound;
  within = (i.ready o b).stack.within;
  whole = λ one. (i.ready o b).whole (omega (arith, one, entered_count s.found s.started s.stack o b (i.ready o b).stack));
  path = rw (o, b) (stack_path s.stack (i.ready o b).stack);
}
