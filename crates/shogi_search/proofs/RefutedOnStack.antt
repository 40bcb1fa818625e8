-- What replies refute, on the stack.
use Rattle.std.proofs.Common.{◌≡◌, ◌<◌, ◌≤◌, ◌+◌, ◌-◌, ℕ, ℤ, List, [], ◌∷◌, ◌++◌, length, take, get_or, Option, Some, None, subst, ◌∙◌, arith}
use Rattle.std.specs.Prelude.{IfSome}
use Rattle.std.proofs.lemmas.Option.{slice_get-get_or}
use Rattle.shogi_core.specs.declared.moves.Move.{Move}
use Rattle.shogi_core.specs.Codes.{code_of, move_of}
use Rattle.commuting_moves.specs.declared.Refutation.{Refutation}
use Rattle.minimax.specs.Minimax.{negated}
use Rattle.minimax.specs.declared.bounds.TheConstants.{INFINITY}
use Rattle.search_nodes.specs.declared.frame.Frame.{Frame}
use Rattle.search_nodes.specs.declared.frame.NodeState.TheVariants.{AwaitingChild}
use Rattle.search_nodes.specs.Frames.{IsLost, move_alpha_of}
use Rattle.search_nodes.specs.Refuted.{IsRefutedAfter, IsRefutedAt, Refutes}
use Rattle.search_nodes.proofs.RefutedMoves.{lost_on_stack, refuted_at}
use Rattle.shogi_search.specs.declared.stack.Stack.{Stack}
use Rattle.shogi_search.specs.Stack.{AwaitsMove, IsChain, IsParentOf, IsStack, OnTop}
use Rattle.shogi_search.proofs.Chains.{IsChild, IsPopped, chain_deep, chain_pop, same_asked}
use Rattle.shogi_search.proofs.Places.{IsBelow, IsTop, below, of_top, on_top, take_next}

-- what holds of something that is there may be exchanged for what follows from it
pub some_map : (found : Option Refutation) (P Q : Refutation → Type 0) → ((r : Refutation) → P r → Q r) → IfSome found P → IfSome found Q
some_map None P Q g h = h
some_map (Some r) P Q g h = g r h

-- the node below the top may keep the move it waits for, by what the node on top says
pub kept_below : (s : Stack) (d : Frame) (m : Move) (found : Refutation) → IsStack s → 0 < s.height → s.height < length s.frames → (get_or s.frames (s.height - 1) d).state ≡ AwaitingChild m → move_of (code_of m) ≡ Some m → OnTop s (λ top. Refutes top found) → IsRefutedAt (get_or s.frames (s.height - 1) d) m found
kept_below s d m found k h fits asks back known =
    let r : IsBelow s (get_or s.frames (s.height - 1) d) = below s d k h fits in
    let q : IsChild (get_or s.frames (s.height - 1) d) r.top m = same_asked _ _ _ _ r.popped.child asks in
    refuted_at (get_or s.frames (s.height - 1) d) r.top m found asks back q.at_child.position q.at_child.eval q.at_child.depth (on_top s r.top (λ (top : Frame). Refutes top found) r.is known)

-- its parent keeps such moves too, if it is a node on the stack
pub kept_at_parent : (f child : Frame) (m : Move) (found : Refutation) → move_of (code_of m) ≡ Some m → IsParentOf child m f → Refutes child found → IsRefutedAt f m found
kept_at_parent f child m found back p known = refuted_at f child m found p.waits.asked back p.waits.position p.waits.eval p.depth_is known

-- the current move of the node on top fails low if the node two plies earlier says so
pub lost_on_top : (s : Stack) (d d' : Frame) (top : Frame) (m r x : Move) → IsStack s → 1 < s.height → s.height < length s.frames → IsTop s top
    → (get_or s.frames (s.height - 2) d').state ≡ AwaitingChild m → (get_or s.frames (s.height - 1) d).state ≡ AwaitingChild r → OnTop s (AwaitsMove x)
    → move_of (code_of m) ≡ Some m → move_of (code_of r) ≡ Some r → move_of (code_of x) ≡ Some x
    → IsRefutedAfter (get_or s.frames (s.height - 2) d') m r x (move_alpha_of top x) → OnTop s (λ f. IsLost f x)
lost_on_top s d d' top m r x k h fits is at_f at_g at_h back_m back_r back_x refuted =
    let f : Frame = get_or s.frames (s.height - 2) d' in
    let g : Frame = get_or s.frames (s.height - 1) d in
    let one : IsBelow s g = below s d k (omega (arith, h)) fits in
    let same : one.top ≡ top = cc in
    let next : s.height - 2 + 1 ≡ s.height - 1 = omega (arith, h) in
    let parents : take (s.height - 1) s.frames ≡ take (s.height - 2) s.frames ++ f ∷ [] = subst (λ (n : ℕ). take n s.frames ≡ take (s.height - 2) s.frames ++ f ∷ []) next (take_next s.frames (s.height - 2) f (slice_get-get_or s.frames (s.height - 2) d' (omega (arith, fits)))) in
    let two : IsPopped s.root s.eval s.depth (negated INFINITY) s.bound (take (s.height - 2) s.frames) f g = chain_pop _ _ _ _ _ (take (s.height - 2) s.frames) f g (subst (λ (fs : List Frame). IsChain s.root s.eval s.depth (negated INFINITY) s.bound fs g) parents one.popped.chain) in
    let child : IsChild g top r = subst (λ (t : Frame). IsChild g t r) same (same_asked _ _ _ _ one.popped.child at_g) in
    let parent : IsChild f g m = same_asked _ _ _ _ two.child at_f in
    of_top s top (λ (t : Frame). IsLost t x) is
    (lost_on_stack f g top m r x at_f at_g (on_top s top (AwaitsMove x) is at_h) back_m back_r back_x parent.at_child.position child.at_child.position (child.at_child.eval ∙ parent.at_child.eval)
    (omega (arith, child.at_child.depth, child.at_child.deep, parent.at_child.depth, parent.at_child.deep)) child.at_child.deep refuted)
