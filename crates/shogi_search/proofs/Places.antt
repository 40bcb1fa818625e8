-- The node on top of a stack, among its frames.
use Rattle.std.proofs.Common.{◌≡◌, ◌<◌, ◌≤◌, ◌+◌, ◌-◌, ◌*◌, ◌≤ℤ◌, ℤ, ℕ, zero, suc, List, [], ◌∷◌, ◌++◌, length, take, set, get_or, Option, Some, None, refl, sym, ap, ◌∙◌, arith, subst}
use Rattle.std.specs.Prelude.{sum_by, slice_get, IsSomeAnd}
use Rattle.std.proofs.lemmas.List.{take-set, take_more, length-take-le}
use Rattle.std.proofs.lemmas.Option.{slice_get_within, slice_get-get_or, get_or_from_slice_get}
use Rattle.shogi_core.specs.declared.moves.Move.{Move}
use Rattle.search_nodes.specs.declared.frame.Frame.{Frame}
use Rattle.search_nodes.specs.declared.reply_cache.ReplyCache.{ReplyCache}
use Rattle.search_nodes.specs.ReplyCache.{IsFoundAt, IsReplyCacheOf}
use Rattle.search_nodes.specs.declared.frame.NodeState.TheVariants.{AwaitingChild}
use Rattle.minimax.specs.declared.entry.Entry.{Entry}
use Rattle.shogi_search.specs.declared.stack.Stack.{Stack}
use Rattle.minimax.specs.Minimax.{negated, tree_size}
use Rattle.search_nodes.specs.Frames.{position_after, move_alpha_of}
use Rattle.search_nodes.specs.Changes.{IsAt, IsSame, left_of_frame, steps_after}
use Rattle.shogi_search.specs.Stack.{IsChain, IsConclusiveEntry, IsEntryOf, IsStack, OnTop, UsesSteps, frames_of, parents_of, left_at, steps_left, steps_for}
use Rattle.shogi_search.proofs.Again.{left_root, left_pushed, left_stays, left_taken, left_whole}
use Rattle.shogi_core.specs.Position.{Shogi}
use Rattle.minimax.proofs.MinimaxLaws.{tree_size-positive}
use Rattle.shogi_eval.specs.declared.eval.Eval.{Eval}
use Rattle.search_nodes.specs.Order.{IsWithinTree}
use Rattle.search_nodes.proofs.Passing.{left_kept}
use Rattle.shogi_search.proofs.Chains.{chain_deep, IsChild, IsPopped, chain_pop, chain_push, chain_same, chain_height, same_asked, left_above}
use Rattle.minimax.specs.declared.bounds.TheConstants.{SEARCH_DEPTH_MAX, INFINITY}

-- the frame is on top of the stack
abbrev pub IsTop : Stack → Frame → Type 0
IsTop s f = slice_get s.frames s.height ≡ Some f

-- only one frame is on top
pub one_top : (s : Stack) (f h : Frame) → IsTop s f → IsTop s h → f ≡ h
one_top s f h a b = cc

-- a fact of the node on top is a fact of that frame, and back
pub on_top : (s : Stack) (f : Frame) (fact : Frame → Type 0) → IsTop s f → OnTop s fact → fact f
on_top s f fact e h = subst (λ (o : Option Frame). IsSomeAnd o fact) e h

pub of_top : (s : Stack) (f : Frame) (fact : Frame → Type 0) → IsTop s f → fact f → OnTop s fact
of_top s f fact e h = subst (λ (o : Option Frame). IsSomeAnd o fact) (sym e) h

-- if a fact holds of the node on top, there is one
pub record HasTop (s : Stack) (fact : Frame → Type 0) : Type 0 where
  pub top : Frame
  pub is : IsTop s top
  pub has : fact top

pub has_top : (s : Stack) (fact : Frame → Type 0) → OnTop s fact → HasTop s fact
has_top s fact h = has (slice_get s.frames s.height) refl h
  where
    has : (o : Option Frame) → slice_get s.frames s.height ≡ o → IsSomeAnd o fact → HasTop s fact
    has None e h = absurd h
    has (Some f) e h = record { top = f; is = e; has = h }

-- a fact of the node on top may be weakened
pub on_map : (s : Stack) (P Q : Frame → Type 0) → ((f : Frame) → P f → Q f) → OnTop s P → OnTop s Q
on_map s P Q g h = let t : HasTop s P = has_top s P h in of_top s t.top Q t.is (g t.top t.has)

pub take_next : (xs : List Frame) (i : ℕ) (f : Frame) → slice_get xs i ≡ Some f → take (i + 1) xs ≡ take i xs ++ f ∷ []
take_next xs i f e = grind (arith, take_more xs i f, slice_get_within xs i f e, get_or_from_slice_get xs i f f e)

-- the frames are those that wait for a child, and the top
pub frames_are : (s : Stack) (f : Frame) → IsTop s f → frames_of s ≡ parents_of s ++ f ∷ []
frames_are s f e = take_next s.frames s.height f e

set_there : (xs : List Frame) (i : ℕ) (f : Frame) → i < length xs → slice_get (set xs i f) i ≡ Some f
set_there [] i f h = absurd (omega arith)
set_there (x ∷ xs) zero f h = refl
set_there (x ∷ xs) (suc i) f h = set_there xs i f (omega arith)

-- the stack with this frame on top, at this index
abbrev pub with_frame : Stack → ℕ → Frame → Stack
with_frame s i f = record s { frames = set s.frames i f; height = i }

-- the stack with another reply cache
abbrev pub with_cache : Stack → ReplyCache → Stack
with_cache s cache = record s { reply_cache = cache }

-- a cache that is true of a position is true of its frame
pub found_at : (f : Frame) (p : Shogi) (e : Eval) (cache : ReplyCache) → f.node.position ≡ p → f.node.eval ≡ e → IsReplyCacheOf (record { position = p; eval = e }) cache → IsFoundAt f cache
found_at f p e cache here under of = λ two. rw (here, under) of

-- a cache stays true in a frame of the same node and depth
pub found_same : (f g : Frame) (cache : ReplyCache) → g.node ≡ f.node → g.depth ≡ f.depth → IsFoundAt f cache → IsFoundAt g cache
found_same f g cache node depth found = λ two. rw node (found (sym depth ∙ two))

pub top_with : (s : Stack) (i : ℕ) (f : Frame) → i < length s.frames → IsTop (with_frame s i f) f
top_with s i f h = set_there s.frames i f h

pub on_with : (s : Stack) (i : ℕ) (f : Frame) (fact : Frame → Type 0) → i < length s.frames → fact f → OnTop (with_frame s i f) fact
on_with s i f fact h k = of_top (with_frame s i f) f fact (top_with s i f h) k

-- the steps left to a frame of the stack
abbrev pub left_in : Stack → Frame → ℕ
left_in s f = left_at s.depth s.bound s.beta f

pub left_with : (s : Stack) (i : ℕ) (f : Frame) → i < length s.frames → steps_left (with_frame s i f) ≡ sum_by (left_in s) (take i s.frames) + left_in s f
left_with s i f h = left_above (left_in s) (frames_of (with_frame s i f)) (take i s.frames) f (frames_are (with_frame s i f) f (top_with s i f h) ∙ ap (λ (fs : List Frame). fs ++ f ∷ []) (take-set s.frames i f))

pub stack_with : (s : Stack) (i : ℕ) (f : Frame) → i < length s.frames → i < SEARCH_DEPTH_MAX → s.depth ≤ SEARCH_DEPTH_MAX → s.bound ≤ℤ s.beta → s.beta ≤ℤ INFINITY → IsChain s.root s.eval s.depth (negated INFINITY) s.bound (take i s.frames) f → IsFoundAt f s.reply_cache → IsStack (with_frame s i f)
stack_with s i f h fits shallow within most c found = record {
  shallow = shallow;
  height_fits = fits;
  within = within;
  most = most;
  chain = on_with s i f (IsChain s.root s.eval s.depth (negated INFINITY) s.bound (parents_of (with_frame s i f))) h
      (subst (λ (fs : List Frame). IsChain s.root s.eval s.depth (negated INFINITY) s.bound fs f) (sym (take-set s.frames i f)) c);
  found = on_with s i f (λ (top : Frame). IsFoundAt top s.reply_cache) h found;
}

-- the frame at the index of the height is on top
pub read_top : (s : Stack) (d : Frame) → s.height < length s.frames → IsTop s (get_or s.frames s.height d)
read_top s d h = slice_get-get_or s.frames s.height d h

-- a fact of the node on top holds of the frame at that index
pub read_on : (s : Stack) (d : Frame) (fact : Frame → Type 0) → s.height < length s.frames → OnTop s fact → fact (get_or s.frames s.height d)
read_on s d fact fits k = on_top s (get_or s.frames s.height d) fact (read_top s d fits) k

pub left_read : (s : Stack) (f : Frame) → IsTop s f → steps_left s ≡ sum_by (left_in s) (parents_of s) + left_in s f
left_read s f e = left_above (left_in s) (frames_of s) (parents_of s) f (frames_are s f e)

-- the node on top may change in its place
pub changed : (s : Stack) (f g : Frame) → IsTop s f → IsStack s → IsSame f g → IsStack (with_frame s s.height g)
changed s f g e k same = stack_with s s.height g (slice_get_within s.frames s.height f e) k.height_fits k.shallow k.within k.most (chain_same _ _ _ _ _ _ f g (on_top s f _ e k.chain) same) (found_same f g s.reply_cache same.0 same.1.0 (on_top s f (λ (top : Frame). IsFoundAt top s.reply_cache) e k.found))

-- the node on top and the reply cache may change together
pub looked : (s : Stack) (f g : Frame) (cache : ReplyCache) → IsTop s f → IsStack s → IsSame f g → IsFoundAt g cache → IsStack (with_frame (with_cache s cache) s.height g)
looked s f g cache e k same found = stack_with (with_cache s cache) s.height g (slice_get_within s.frames s.height f e) k.height_fits k.shallow k.within k.most (chain_same _ _ _ _ _ _ f g (on_top s f _ e k.chain) same) found

pub left_changed : (s : Stack) (f g : Frame) → IsTop s f → steps_left (with_frame s s.height g) + left_in s f ≡ steps_left s + left_in s g
left_changed s f g e = omega (arith, left_with s s.height g (slice_get_within s.frames s.height f e), left_read s f e)

-- no node is deeper than the root
pub depth_most : (s : Stack) (f : Frame) → IsTop s f → IsStack s → f.depth ≤ s.depth
depth_most s f e k = omega (arith, chain_height s.root s.eval s.depth (negated INFINITY) s.bound (parents_of s) f (on_top s f _ e k.chain))

-- there is room above a node with more than one ply left
pub room : (s : Stack) (f : Frame) → IsTop s f → IsStack s → 1 < f.depth → s.height + 1 < 16
room s f e k deep =
    let c : IsChain s.root s.eval s.depth (negated INFINITY) s.bound (parents_of s) f = on_top s f _ e k.chain in
    let fits : s.height < length s.frames = slice_get_within s.frames s.height f e in
    omega (arith, chain_height s.root s.eval s.depth (negated INFINITY) s.bound (parents_of s) f c, length-take-le s.height s.frames (omega arith), k.shallow)

-- the frame below the top, read at its index, is the top's parent
pub record IsBelow (s : Stack) (f : Frame) : Type 0 where
  pub top : Frame
  pub is : IsTop s top
  pub parents : parents_of s ≡ take (s.height - 1) s.frames ++ f ∷ []
  pub popped : IsPopped s.root s.eval s.depth (negated INFINITY) s.bound (take (s.height - 1) s.frames) f top

pub below : (s : Stack) (d : Frame) → IsStack s → 0 < s.height → s.height < length s.frames → IsBelow s (get_or s.frames (s.height - 1) d)
below s d k h fits =
    let t : HasTop s (IsChain s.root s.eval s.depth (negated INFINITY) s.bound (parents_of s)) = has_top s _ k.chain in
    let f : Frame = get_or s.frames (s.height - 1) d in
    let e : parents_of s ≡ take (s.height - 1) s.frames ++ f ∷ [] = grind (arith, take_next s.frames (s.height - 1) f (slice_get-get_or s.frames (s.height - 1) d (omega arith))) in
    record { top = t.top; is = t.is; parents = e; popped = chain_pop _ _ _ _ _ (take (s.height - 1) s.frames) f t.top (subst (λ (fs : List Frame). IsChain s.root s.eval s.depth (negated INFINITY) s.bound fs t.top) e t.has) }

pub asked_below : (s : Stack) (d : Frame) → IsStack s → 0 < s.height → s.height < length s.frames → ((m : Move) → (get_or s.frames (s.height - 1) d).state ≡ AwaitingChild m → ⊥) → ⊥
asked_below s d k h fits none = let r : IsBelow s (get_or s.frames (s.height - 1) d) = below s d k h fits in none r.popped.by r.popped.child.asks

-- the node on top has at least two plies left
pub top_deep : (s : Stack) (f : Frame) → IsTop s f → IsStack s → 1 < f.depth
top_deep s f is k = chain_deep _ _ _ _ _ (parents_of s) f (on_top s f _ is k.chain)

pub below_deep : (s : Stack) (d : Frame) → IsStack s → 0 < s.height → s.height < length s.frames → 1 < (get_or s.frames (s.height - 1) d).depth
below_deep s d k h fits = chain_deep _ _ _ _ _ _ _ (below s d k h fits).popped.chain

-- an entry of the node on top is an entry of the child that its parent waits for
pub entry_below : (s : Stack) (d : Frame) (m : Move) (entry : Entry) → IsStack s → 0 < s.height → s.height < length s.frames → (get_or s.frames (s.height - 1) d).state ≡ AwaitingChild m → OnTop s (λ top. IsEntryOf top entry)
    → IsConclusiveEntry (position_after (get_or s.frames (s.height - 1) d) m) (get_or s.frames (s.height - 1) d).node.eval ((get_or s.frames (s.height - 1) d).depth - 1) (negated (get_or s.frames (s.height - 1) d).beta) (negated (move_alpha_of (get_or s.frames (s.height - 1) d) m)) entry
entry_below s d m entry k h fits asks known =
    let r : IsBelow s (get_or s.frames (s.height - 1) d) = below s d k h fits in
    let q : IsChild (get_or s.frames (s.height - 1) d) r.top m = same_asked _ _ _ _ r.popped.child asks in
    rw (← q.at_child.position, ← q.at_child.eval, ← q.at_child.depth, ← q.at_child.alpha_is, ← q.at_child.beta_is) (on_top s r.top (λ (top : Frame). IsEntryOf top entry) r.is known)

-- once the top is popped, its parent is on top
pub stack_popped : (s : Stack) (d g : Frame) → IsStack s → 0 < s.height → s.height < length s.frames → IsSame (get_or s.frames (s.height - 1) d) g → IsStack (with_frame s (s.height - 1) g)
stack_popped s d g k h fits same =
    let r : IsBelow s (get_or s.frames (s.height - 1) d) = below s d k h fits in
    let low : s.height < SEARCH_DEPTH_MAX = k.height_fits in
    stack_with s (s.height - 1) g (omega arith) (omega arith) k.shallow k.within k.most (chain_same _ _ _ _ _ _ (get_or s.frames (s.height - 1) d) g r.popped.chain same)
    (λ two. absurd (omega (arith, r.popped.child.at_child.deep, r.popped.child.at_child.depth, same.1.0, two)))

pub left_popped : (s : Stack) (d g : Frame) → IsStack s → 0 < s.height → s.height < length s.frames → IsSame (get_or s.frames (s.height - 1) d) g → g.picker ≡ (get_or s.frames (s.height - 1) d).picker → steps_left (with_frame s (s.height - 1) g) < steps_left s
left_popped s d g k h fits same picker =
    let f : Frame = get_or s.frames (s.height - 1) d in
    let l : left_in s g ≡ left_in s f = left_stays s.depth s.bound s.beta f g same (left_kept f g same picker) in
    let r : IsBelow s f = below s d k h fits in
    omega (arith, l, left_with s (s.height - 1) g (omega arith), left_read s r.top r.is, left_above (left_in s) (parents_of s) (take (s.height - 1) s.frames) f r.parents)

-- a stack has steps left
pub left_positive : (s : Stack) → IsStack s → 0 < steps_left s
left_positive s k =
    let t : HasTop s (IsChain s.root s.eval s.depth (negated INFINITY) s.bound (parents_of s)) = has_top s _ k.chain in
    omega (arith, left_read s t.top t.is)

-- once the child is pushed, it is on top
pub stack_entered : (s : Stack) (f g : Frame) (m : Move) (cache : ReplyCache) → IsTop s f → IsStack s → f.state ≡ AwaitingChild m → 0 < f.depth → s.height + 1 < SEARCH_DEPTH_MAX → s.height + 1 < length s.frames → IsAt (position_after f m) f.node.eval (f.depth - 1) (negated f.beta) (negated (move_alpha_of f m)) g → IsFoundAt g cache → IsStack (with_frame (with_cache s cache) (s.height + 1) g)
stack_entered s f g m cache is k asks more low fits place found =
    stack_with (with_cache s cache) (s.height + 1) g fits low k.shallow k.within k.most
    (rw (frames_are s f is) (chain_push _ _ _ _ _ (parents_of s) f g m (on_top s f _ is k.chain) (record { deep = omega (arith, more); asks = asks; at_child = place }))) found

-- a node just entered has fewer steps left than two for each node of its tree
pub frame_entered : (f : Frame) (p : Shogi) (e : Eval) (d : ℕ) (alpha beta : ℤ) → IsAt p e d alpha beta f → IsWithinTree p d f.picker → left_of_frame f < 2 * tree_size p d
frame_entered f p e d alpha beta place counted = rw (place.position, place.depth) counted

-- a root just entered has fewer steps left than four for each node of its tree
pub left_begun : (s : Stack) (f : Frame) (p : Shogi) (e : Eval) (alpha beta : ℤ) → 0 < length s.frames → IsAt p e s.depth alpha beta f → IsWithinTree p s.depth f.picker → steps_left (with_frame s 0 f) + 1 < 4 * tree_size p s.depth
left_begun s f p e alpha beta fits place counted =
    omega (arith, frame_entered f p e s.depth alpha beta place counted, left_with s 0 f fits, left_root s.depth s.bound s.beta f place.depth)

pub left_child : (s : Stack) (f g : Frame) (m : Move) (e : Eval) (alpha beta : ℤ) → IsTop s f → IsStack s → 0 < f.depth → s.height + 1 < length s.frames → IsAt (position_after f m) e (f.depth - 1) alpha beta g → IsWithinTree (position_after f m) (f.depth - 1) g.picker → UsesSteps s (with_frame s (s.height + 1) g) m 1
left_child s f g m e alpha beta is k deep fits place counted =
    let below : g.depth + 1 ≡ f.depth = omega (arith, place.depth, deep) in
    let less : left_in s g + 1 ≤ steps_for s.depth f m = left_pushed s.depth s.bound s.beta f g m (depth_most s f is k) below place.position (frame_entered g _ e _ alpha beta place counted) in
    of_top s f (λ (top : Frame). steps_left (with_frame s (s.height + 1) g) + 1 ≤ steps_left s + steps_for s.depth top m) is
    (omega (arith, less, left_with s (s.height + 1) g fits))

-- while the root has its whole window, entering a child takes the steps for its tree once
pub left_once : (s : Stack) (f g : Frame) (m : Move) (e : Eval) (alpha beta : ℤ) → IsTop s f → IsStack s → 0 < f.depth → s.bound ≡ s.beta → s.height + 1 < length s.frames → IsAt (position_after f m) e (f.depth - 1) alpha beta g → IsWithinTree (position_after f m) (f.depth - 1) g.picker → OnTop s (λ top. steps_left (with_frame s (s.height + 1) g) + 1 ≤ steps_left s + steps_after top m)
left_once s f g m e alpha beta is k deep whole fits place counted =
    let low : g.depth < s.depth = omega (arith, place.depth, deep, depth_most s f is k) in
    of_top s f (λ (top : Frame). steps_left (with_frame s (s.height + 1) g) + 1 ≤ steps_left s + steps_after top m) is
    (omega (arith, left_whole s.depth s.bound s.beta g low whole, frame_entered g _ e _ alpha beta place counted, left_with s (s.height + 1) g fits))

-- backing up a move at the top takes one step
pub left_visited : (s : Stack) (m : Move) (f g : Frame) → IsTop s f → IsSame f g → g.picker ≡ f.picker → UsesSteps s (with_frame s s.height g) m 1
left_visited s m f g is same picker =
    of_top s f (λ (top : Frame). steps_left (with_frame s s.height g) + 1 ≤ steps_left s + steps_for s.depth top m) is
    (omega (arith, left_changed s f g is, left_stays s.depth s.bound s.beta f g same (left_kept f g same picker), tree_size-positive (position_after f m) (f.depth - 1)))

-- picking a move and going on with it takes its steps
pub left_descended : (s t : Stack) (m : Move) (f g : Frame) (n : ℕ) → IsTop s f → IsSame f g → steps_after g m + left_of_frame g ≤ left_of_frame f → UsesSteps (with_frame s s.height g) t m n → steps_left t + n ≤ steps_left s
left_descended s t m f g n is same less l =
    let k : steps_left t + n ≤ steps_left (with_frame s s.height g) + steps_for s.depth g m = on_top (with_frame s s.height g) g (λ (top : Frame). steps_left t + n ≤ steps_left (with_frame s s.height g) + steps_for s.depth top m) (top_with s s.height g (slice_get_within s.frames s.height f is)) l in
    let taken : left_in s g + steps_for s.depth g m ≤ left_in s f = left_taken s.depth s.bound s.beta f g (steps_after g m) same (omega (arith, less)) in
    omega (arith, k, left_changed s f g is, taken)

-- without a picked move, no more steps are left than before
pub left_passed : (s : Stack) (f g : Frame) → IsTop s f → IsSame f g → left_of_frame g ≤ left_of_frame f → steps_left (with_frame s s.height g) ≤ steps_left s
left_passed s f g is same less =
    omega (arith, left_changed s f g is, left_taken s.depth s.bound s.beta f g 0 same (omega (arith, less)))
