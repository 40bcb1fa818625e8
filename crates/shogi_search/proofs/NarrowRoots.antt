-- A root's window is narrowed for one of its moves, and made whole again.
use Rattle.std.proofs.Common.{◌≡◌, ◌<◌, ◌≤◌, ◌+◌, ◌-◌, ◌≤ℤ◌, ℤ, ℕ, [], ◌∷◌, ◌++◌, length, take, get_or, refl, ◌∙◌, arith}
use Rattle.std.specs.Prelude.{sum_by}
use Rattle.std.proofs.lemmas.Int.{ints}
use Rattle.std.proofs.lemmas.Option.{slice_get_within}
use Rattle.shogi_core.specs.declared.moves.Move.{Move}
use Rattle.minimax.specs.Minimax.{negated, tree_size}
use Rattle.minimax.specs.declared.bounds.TheConstants.{INFINITY}
use Rattle.search_nodes.specs.declared.frame.Frame.{Frame}
use Rattle.search_nodes.specs.declared.frame.NodeState.TheVariants.{AwaitingChild}
use Rattle.shogi_search.specs.declared.stack.Stack.{Stack}
use Rattle.search_nodes.specs.Frames.{position_after}
use Rattle.search_nodes.specs.ReplyCache.{IsFoundAt}
use Rattle.search_nodes.specs.Changes.{IsAt, KeepsAsked, left_of_frame, steps_after}
use Rattle.shogi_search.specs.Stack.{IsChain, IsParentOf, IsNarrow, IsStack, OnTop, UsesSteps, parents_of, steps_for, steps_left}
use Rattle.shogi_search.proofs.Again.{left_narrow, left_root}
use Rattle.shogi_search.proofs.Chains.{IsChild, left_above, same_asked}
use Rattle.shogi_search.proofs.Places.{HasTop, IsBelow, IsTop, below, found_same, has_top, left_in, left_read, of_top, on_top, on_with, stack_with, top_with, with_frame}

-- the stack with another bound
abbrev pub with_bound : Stack → ℤ → Stack
with_bound s bound = record s { bound = bound }

-- the first frame is the root
pub first_at : (s : Stack) (i : ℕ) (f : Frame) → i ≡ 0 → IsChain s.root s.eval s.depth (negated INFINITY) s.bound (take i s.frames) f → IsAt s.root s.eval s.depth (negated INFINITY) s.bound f
first_at s i f e c = (rw e at c)

stack_ending : (s : Stack) (i : ℕ) (f g : Frame) (bound : ℤ) → i ≡ 0 → i < length s.frames → IsStack s → IsAt s.root s.eval s.depth (negated INFINITY) s.bound f → KeepsAsked f g → g.beta ≡ bound → bound ≤ℤ s.beta → IsFoundAt g s.reply_cache → IsStack (with_frame (with_bound s bound) i g)
stack_ending s i f g bound e fits k at same ends within found =
    stack_with (with_bound s bound) i g fits (omega (arith, e)) k.shallow within k.most
    (rw e (grind (arith, at, same, ends))) found

-- as many steps are left to a frame that keeps its moves
asked_kept : (f g : Frame) → KeepsAsked f g → left_of_frame g ≡ left_of_frame f
asked_kept f g same = grind arith

-- a root alone on the stack counts its steps left twice
left_alone : (s : Stack) (f : Frame) → IsTop s f → s.height ≡ 0 → f.depth ≡ s.depth → steps_left s ≡ left_of_frame f + left_of_frame f
left_alone s f is e d =
    let none : sum_by (left_in s) (parents_of s) ≡ 0 = rw e refl in
    omega (arith, none, left_read s f is, left_root s.depth s.bound s.beta f d)

-- ---- narrowing

pub narrowed : (s : Stack) (f g : Frame) (bound : ℤ) → IsTop s f → IsStack s → s.height ≡ 0 → KeepsAsked f g → g.beta ≡ bound → bound ≤ℤ s.beta → IsStack (with_frame (with_bound s bound) s.height g)
narrowed s f g bound is k e same ends within =
    stack_ending s s.height f g bound e (slice_get_within s.frames s.height f is) k (first_at s s.height f e (on_top s f _ is k.chain)) same ends within
    (found_same f g s.reply_cache same.0 same.1.0 (on_top s f (λ (top : Frame). IsFoundAt top s.reply_cache) is k.found))

pub left_narrowed : (s : Stack) (f g : Frame) (bound : ℤ) → IsTop s f → IsStack s → s.height ≡ 0 → KeepsAsked f g → steps_left (with_frame (with_bound s bound) s.height g) ≡ steps_left s
left_narrowed s f g bound is k e same =
    let at : IsAt s.root s.eval s.depth (negated INFINITY) s.bound f = first_at s s.height f e (on_top s f _ is k.chain) in
    let there : IsTop (with_frame (with_bound s bound) s.height g) g = top_with (with_bound s bound) s.height g (slice_get_within s.frames s.height f is) in
    omega (arith, left_alone (with_frame (with_bound s bound) s.height g) g there e (same.1.0 ∙ at.depth), left_alone s f is e at.depth, asked_kept f g same)

pub top_narrowed : (s : Stack) (f g : Frame) (bound : ℤ) → IsTop s f → KeepsAsked f g → OnTop s (λ old. OnTop (with_frame (with_bound s bound) s.height g) (λ new. KeepsAsked old new))
top_narrowed s f g bound is same =
    of_top s f (λ (old : Frame). OnTop (with_frame (with_bound s bound) s.height g) (λ new. KeepsAsked old new)) is
    (on_with (with_bound s bound) s.height g (KeepsAsked f) (slice_get_within s.frames s.height f is) same)

-- an unchanged stack keeps its top
pub top_same : (s : Stack) (f : Frame) → IsTop s f → OnTop s (λ old. OnTop s (λ new. KeepsAsked old new))
top_same s f is =
    of_top s f (λ (old : Frame). OnTop s (λ new. KeepsAsked old new)) is
    (of_top s f (KeepsAsked f) is (refl, (refl, (refl, (refl, (refl, (refl, refl)))))))

-- narrowing keeps the steps allowed for a move
pub uses_after : (s n t : Stack) (f : Frame) (m : Move) → IsTop s f → OnTop s (λ old. OnTop n (λ new. KeepsAsked old new)) → n.depth ≡ s.depth → steps_left n ≡ steps_left s → UsesSteps n t m 1 → UsesSteps s t m 1
uses_after s n t f m is top d left uses =
    of_top s f (λ (old : Frame). steps_left t + 1 ≤ steps_left s + steps_for s.depth old m) is
    (let kept : HasTop n (KeepsAsked f) = has_top n _ (on_top s f (λ (old : Frame). OnTop n (λ new. KeepsAsked old new)) is top) in
    grind (arith, kept.has, on_top n kept.top (λ (new : Frame). steps_left t + 1 ≤ steps_left n + steps_for n.depth new m) kept.is uses))

-- ---- widening

-- the root stands below its child on top
pub record IsRootBelow (s : Stack) (m : Move) (f : Frame) : Type 0 where
  pub top : Frame
  pub is : IsTop s top
  pub first : s.height - 1 ≡ 0
  pub at : IsAt s.root s.eval s.depth (negated INFINITY) s.bound f
  pub parents : parents_of s ≡ take (s.height - 1) s.frames ++ f ∷ []
  pub child : IsChild f top m

pub root_below : (s : Stack) (d : Frame) (m : Move) → IsNarrow s → s.height < length s.frames → (get_or s.frames (s.height - 1) d).state ≡ AwaitingChild m → IsRootBelow s m (get_or s.frames (s.height - 1) d)
root_below s d m narrow fits asks =
    let f : Frame = get_or s.frames (s.height - 1) d in
    let r : IsBelow s f = below s d narrow.stack (omega (arith, narrow.child)) fits in
    let e : s.height - 1 ≡ 0 = omega (arith, narrow.child) in
    record { top = r.top; is = r.is; first = e; at = first_at s (s.height - 1) f e r.popped.chain; parents = r.parents; child = same_asked _ _ _ _ r.popped.child asks }

pub widened : (s : Stack) (m : Move) (f g : Frame) (bound : ℤ) → IsRootBelow s m f → IsStack s → KeepsAsked f g → g.beta ≡ bound → bound ≡ s.beta → IsStack (with_frame (with_bound s bound) (s.height - 1) g)
widened s m f g bound r k same ends whole =
    stack_ending s (s.height - 1) f g bound r.first (omega (arith, slice_get_within s.frames s.height r.top r.is)) k r.at same ends (omega (arith, ints, whole))
    (λ two. absurd (omega (arith, r.child.at_child.deep, r.child.at_child.depth, same.1.0, two)))

pub left_widened : (s : Stack) (m : Move) (f g : Frame) (bound : ℤ) → IsRootBelow s m f → IsNarrow s → KeepsAsked f g → OnTop (with_frame (with_bound s bound) (s.height - 1) g) (λ root. steps_left (with_frame (with_bound s bound) (s.height - 1) g) + 1 + steps_after root m ≤ steps_left s)
left_widened s m f g bound r narrow same =
    let fits : s.height - 1 < length s.frames = omega (arith, slice_get_within s.frames s.height r.top r.is) in
    let there : IsTop (with_frame (with_bound s bound) (s.height - 1) g) g = top_with (with_bound s bound) (s.height - 1) g fits in
    let none : sum_by (left_in s) (take (s.height - 1) s.frames) ≡ 0 = rw r.first refl in
    let below : r.top.depth + 1 ≡ s.depth = omega (arith, r.child.at_child.depth, r.child.deep, r.at.depth) in
    let tree : tree_size r.top.node.position r.top.depth ≡ tree_size (position_after g m) (g.depth - 1) = grind (arith, r.child.at_child, same) in
    of_top (with_frame (with_bound s bound) (s.height - 1) g) g (λ (root : Frame). steps_left (with_frame (with_bound s bound) (s.height - 1) g) + 1 + steps_after root m ≤ steps_left s) there
    (omega (arith, none, tree, left_alone (with_frame (with_bound s bound) (s.height - 1) g) g there r.first (same.1.0 ∙ r.at.depth), asked_kept f g same, left_read s r.top r.is, left_above (left_in s) (parents_of s) (take (s.height - 1) s.frames) f r.parents, left_root s.depth s.bound s.beta f r.at.depth, left_narrow s.depth s.bound s.beta r.top below narrow.less))

pub child_widened : (s : Stack) (m : Move) (f g : Frame) (bound : ℤ) → IsRootBelow s m f → KeepsAsked f g → OnTop s (λ child. OnTop (with_frame (with_bound s bound) (s.height - 1) g) (IsParentOf child m))
child_widened s m f g bound r same =
    of_top s r.top (λ (child : Frame). OnTop (with_frame (with_bound s bound) (s.height - 1) g) (IsParentOf child m)) r.is
    (on_with (with_bound s bound) (s.height - 1) g (IsParentOf r.top m) (omega (arith, slice_get_within s.frames s.height r.top r.is)) (grind (arith, r.child, same)))
