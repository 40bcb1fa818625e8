-- The stack of a search in slices: the nodes that wait for a child, from the root on, and the node on top.
use Rattle.std.specs.Prelude.{◌≡◌, ◌==◌, ◌≤◌, ◌≤ℤ◌, ◌<ℤ◌, ℕ, ◌+◌, ◌*◌, ◌-◌, ◌<◌, ℤ, List, [], ◌∷◌, cond, ◌&&◌, not, sum_by, take, slice_get, IsSomeAnd, Option, Some, None, IfSome, IfNone, ◌^◌, min}
use Rattle.std.specs.Ordering.{int_eq}
use Rattle.shogi_core.specs.declared.moves.Move.{Move}
use Rattle.shogi_core.specs.Codes.{code_of}
use Rattle.shogi_core.specs.Position.{Shogi}
use Rattle.shogi_core.specs.Validity.{IsValid}
use Rattle.shogi_moves.specs.After.{after_code}
use Rattle.shogi_eval.specs.Evaluated.{Evaluated}
use Rattle.shogi_eval.specs.declared.eval.Eval.{Eval}
use Rattle.search_nodes.specs.declared.frame.Frame.{Frame}
use Rattle.search_nodes.specs.declared.frame.NodeState.{NodeState}
use Rattle.search_nodes.specs.declared.frame.NodeState.TheVariants.{Expanding, AwaitingChild, CutOff}
use Rattle.minimax.specs.declared.entry.Entry.{Entry}
use Rattle.shogi_search.specs.declared.memo.Memo.{Ghosts}
use Rattle.shogi_search.specs.declared.stack.Stack.{Stack}
use Rattle.search_nodes.specs.Frames.{position_after, move_alpha_of}
use Rattle.search_nodes.specs.Visits.{IsFree}
use Rattle.search_nodes.specs.ReplyCache.{IsFoundAt}
use Rattle.minimax.specs.Entries.{IsConclusive}
use Rattle.minimax.specs.Minimax.{negated, tree_size, IsTrueEntry}
use Rattle.shogi_search.specs.Calls.{Asks, Call, CallsInSteps, EndsWith, Note}
use Rattle.minimax.specs.declared.bounds.TheConstants.{SEARCH_DEPTH_MAX, INFINITY}
use Rattle.search_nodes.specs.Changes.{IsAt, left_of_frame, steps_after}

-- the node waits for a move of which the fact holds
abbrev pub WhereAsked : NodeState → (Move → Type 0) → Type 0
WhereAsked Expanding fact = ⊥
WhereAsked (AwaitingChild m) fact = fact m
WhereAsked (CutOff v) fact = ⊥

-- each frame is the child that the frame below it waits for
abbrev pub IsChain : Shogi → Eval → ℕ → ℤ → ℤ → List Frame → Frame → Type 0
IsChain p e d alpha beta [] top = IsAt p e d alpha beta top
IsChain p e d alpha beta (f ∷ fs) top =
    IsAt p e d alpha beta f
    × ((0 < d)
    × WhereAsked f.state (λ m.
    IsChain (after_code p (code_of m)) e (d - 1) (negated beta) (negated (move_alpha_of f m))
    fs top))

-- the stack keeps its root, depth, evaluation and bound
abbrev pub KeepsGoal : Stack → Stack → Type 0
KeepsGoal old new =
    (new.root ≡ old.root)
    × ((new.depth ≡ old.depth) × ((new.eval ≡ old.eval) × (new.beta ≡ old.beta)))

-- the nodes that wait for a child, from the root on
abbrev pub parents_of : Stack → List Frame
parents_of s = take s.height s.frames

-- all nodes of the stack, from the root to the top
abbrev pub frames_of : Stack → List Frame
frames_of s = take (s.height + 1) s.frames

-- the fact holds of the node on top
abbrev pub OnTop : Stack → (Frame → Type 0) → Type 0
OnTop s fact = IsSomeAnd (slice_get s.frames s.height) fact

-- the node waits for the move to this child, which has at least two plies left
pub record AwaitsChild (m : Move) (child : Evaluated) (f : Frame) : Type 0 where
  pub asked : f.state ≡ AwaitingChild m
  pub deep : 2 < f.depth
  pub position : child.position ≡ position_after f m
  pub eval : child.eval ≡ f.node.eval

-- the node waits for the move to this entered child, one ply less deep
pub record IsParentOf (child : Frame) (m : Move) (f : Frame) : Type 0 where
  pub waits : AwaitsChild m child.node f
  pub depth_is : child.depth ≡ f.depth - 1

-- the entry is true of the position and conclusive for the window
pub record IsConclusiveEntry (p : Shogi) (e : Eval) (d : ℕ) (alpha beta : ℤ) (entry : Entry)
    : Type 0 where
  pub truth : IsTrueEntry p e d entry
  pub conclusive : IsConclusive alpha beta entry

-- the entry is true of the node and conclusive for its window
abbrev pub IsEntryOf : Frame → Entry → Type 0
IsEntryOf f entry = IsConclusiveEntry f.node.position f.node.eval f.depth f.alpha f.beta entry

-- the entry is true of the root and conclusive for its whole window
abbrev pub IsRootEntry : Stack → Entry → Type 0
IsRootEntry s entry = IsConclusiveEntry s.root s.eval s.depth (negated INFINITY) s.beta entry

-- the entry is true of every valid position at this depth
abbrev pub IsTrueAnywhere : ℕ → Entry → Type 0
IsTrueAnywhere d entry = (p : Shogi) (e : Eval) → IsValid p → IsTrueEntry p e d entry

-- the frames form a chain from the root under its present bound, at most that of the search; the reply cache is true of a top node of depth 2
pub record IsStack (s : Stack) : Type 0 where
  pub shallow : s.depth ≤ SEARCH_DEPTH_MAX
  pub height_fits : s.height < SEARCH_DEPTH_MAX
  pub within : s.bound ≤ℤ s.beta
  pub most : s.beta ≤ℤ INFINITY
  pub chain : OnTop s (IsChain s.root s.eval s.depth (negated INFINITY) s.bound (parents_of s))
  pub found : OnTop s (λ top. IsFoundAt top s.reply_cache)

-- a root on top has its whole window
abbrev pub IsWhole : Stack → Type 0
IsWhole s = s.height ≡ 0 → s.bound ≡ s.beta

-- the frames form a chain, and the fact holds of the node on top
pub record IsStackWith (s : Stack) (fact : Frame → Type 0) : Type 0 where
  pub stack : IsStack s
  pub top : OnTop s fact

-- the frames form a chain, the fact holds of the node on top, and a root on top has its whole window
pub record IsWholeWith (s : Stack) (fact : Frame → Type 0) : Type 0 where
  pub stack : IsStack s
  pub whole : IsWhole s
  pub top : OnTop s fact

-- the node waits for this move
abbrev pub AwaitsMove : Move → Frame → Type 0
AwaitsMove m f = f.state ≡ AwaitingChild m

-- between two steps: the node on top waits for no child
abbrev pub IsReady : Stack → Type 0
IsReady s = IsWholeWith s (λ top. IsFree top.state)

-- a child of the root is on top, under a narrow window
pub record IsNarrow (s : Stack) : Type 0 where
  pub stack : IsStack s
  pub child : s.height ≡ 1
  pub less : s.bound <ℤ s.beta

-- the steps that may be left a second time, since children of the root may be searched twice: those of the root, and the tree of its child under a narrow window
abbrev pub left_again : ℕ → ℤ → ℤ → Frame → ℕ
left_again d bound beta f =
    cond (f.depth == d) (left_of_frame f)
    (cond (f.depth + 1 == d && not (int_eq bound beta))
    (2 * tree_size f.node.position f.depth) 0)

-- the steps left to a frame, those of a second search included
abbrev pub left_at : ℕ → ℤ → ℤ → Frame → ℕ
left_at d bound beta f = left_of_frame f + left_again d bound beta f

-- the most steps for the tree after a move, twice that after a move of the root
abbrev pub steps_for : ℕ → Frame → Move → ℕ
steps_for d f m = steps_after f m + cond (f.depth == d) (steps_after f m) 0

-- the steps left to the whole stack
abbrev pub steps_left : Stack → ℕ
steps_left s = sum_by (left_at s.depth s.bound s.beta) (frames_of s)

-- the steps made and left are at most those left before and those for the move of the node on top
abbrev pub UsesSteps : Stack → Stack → Move → ℕ → Type 0
UsesSteps old new m made =
    OnTop old (λ top. steps_left new + made ≤ steps_left old + steps_for old.depth top m)

-- while the root has its whole window, entering the child takes the steps for its tree only once
abbrev pub UsesStepsOnce : Stack → Stack → Move → Type 0
UsesStepsOnce old new m =
    old.bound ≡ old.beta
    → OnTop old (λ top. steps_left new + 1 ≤ steps_left old + steps_after top m)

-- the steps left, one step, and those for a move of the node now on top are at most those left before
abbrev pub LeavesStepsFor : Stack → Stack → Move → Type 0
LeavesStepsFor old new m =
    OnTop new (λ top. steps_left new + 1 + steps_after top m ≤ steps_left old)

-- the note of the root's entry
abbrev pub note_of_root : Stack → Entry → Call
note_of_root s entry = Note s.root s.eval s.depth entry

-- the last call noted the root's entry
abbrev pub EndsWithRoot : {M : Type 0} → (M → Call → M → Type 0) → M → M → Stack → Entry → Type 0
EndsWithRoot called old new s entry = EndsWith called old new (note_of_root s entry)

-- if the root is on top, its note was the only call
abbrev pub NotesRoot : {M : Type 0} → (M → Call → M → Type 0) → M → M → Stack → Entry → Type 0
NotesRoot called old new s entry = s.height ≡ 0 → called old (note_of_root s entry) new

-- at most `most` probes were made, and no note
pub record OnlyAsks {M : Type 0} (memory : Ghosts M) (memo_before memo_after : M) (most : ℕ)
    : Type 0 where
  pub asked : Asks memory.called memo_before memo_after most
  pub capacity : memory.capacity memo_after ≡ memory.capacity memo_before

-- the child of the top node's move is entered, with at most one probe
pub record EntersChild {M : Type 0} (memory : Ghosts M) (memo_before memo_after : M)
    (old : Stack) (m : Move) (new : Stack) : Type 0 where
  pub ready : IsReady new
  pub height : new.height ≡ old.height + 1
  pub left : UsesSteps old new m 1
  pub once : UsesStepsOnce old new m
  pub unchanged : KeepsGoal old new
  pub asks : OnlyAsks memory memo_before memo_after 1

-- the node on top is left, and its parent or a node in its place is on top: at most one probe for a node entered, and no note
pub record LeavesTop {M : Type 0} (memory : Ghosts M) (memo_before memo_after : M)
    (old new : Stack) : Type 0 where
  pub ready : IsReady new
  pub fewer : steps_left new < steps_left old
  pub some : 0 < old.height
  pub above : new.height ≤ old.height
  pub below : old.height ≤ new.height + 1
  pub unchanged : KeepsGoal old new
  pub asks : OnlyAsks memory memo_before memo_after (new.height + 1 - old.height)

-- the count of steps rises by the budget, or by no more at the end, and saturates
pub record CountsSteps {A : Type 0} (budget before after : ℕ) (result : Option A) : Type 0 where
  pub all : IfNone result (after ≡ min (before + budget) (2 ^ 64 - 1))
  pub rises : before ≤ after
  pub most : after ≤ before + budget

-- the number of nodes entered and not left: none once the root is left
abbrev pub entered_unless : Option Entry → Stack → ℕ
entered_unless None s = s.height + 1
entered_unless (Some entry) s = 0

-- the calls between two counts of steps, as the stack changes or its root is left
abbrev pub CallsOnStack : {M : Type 0} → (M → Call → M → Type 0) → M → M → ℕ → ℕ
    → Stack → Option Entry → Stack → Type 0
CallsOnStack called old new before after stack left next =
    CallsInSteps called old new before after (stack.height + 1) (entered_unless left next) 0

-- a run of `budget` steps, or of fewer if the root is left: then its entry is conclusive, and noted last
pub record IsRunOf {M : Type 0} (memory : Ghosts M) (memo_before memo_after : M)
    (before after budget : ℕ) (old : Stack) (left : Option Entry) (new : Stack) : Type 0 where
  pub ready : IfNone left (IsReady new)
  pub fewer : IfNone left (steps_left new + budget ≤ steps_left old)
  pub known : IfSome left (IsRootEntry old)
  pub unchanged : KeepsGoal old new
  pub calls : CallsOnStack memory.called memo_before memo_after before after old left new
  pub told : IfSome left (EndsWithRoot memory.called memo_before memo_after old)
  pub capacity : memory.capacity memo_after ≡ memory.capacity memo_before

-- a run of one step
abbrev pub IsStep : {M : Type 0} → Ghosts M → M → M → Stack → Option Entry → Stack → Type 0
IsStep memory memo_before memo_after = IsRunOf memory memo_before memo_after 0 1 1
