use Rattle.std.proofs.Common.{arith, get_or, length, rules, refl, ap, subst, sym, ℕ, ◌≡◌, ◌<◌, ◌≤◌, ◌-◌, ◌∙◌}
use Rattle.shogi_moves.proofs.LegalLaws.{listed_to_legal}
use Rattle.shogi_moves.specs.After.{after_code}
use Rattle.shogi_eval.specs.Evaluated.{Evaluated}
use Rattle.shogi_core.specs.declared.moves.Move.{Move}
use Rattle.std.proofs.lemmas.Int.{ints}
use Rattle.std.proofs.lemmas.Option.{slice_get_within}
use Rattle.search_nodes.specs.Frames.{IsConclusiveAfter, position_after, move_alpha_of}
use Rattle.shogi_search.proofs.Entries.{same_truth, same_window}
use Rattle.minimax.specs.Minimax.{IsTrueEntry, negated}
use Rattle.search_nodes.specs.Changes.{EndsVisit, KeepsAsked}
use Rattle.shogi_search.specs.Stack.{AwaitsChild, IsReady, IsStack, IsWhole, OnTop}
use Rattle.search_nodes.specs.Visits.{IsAsked, IsCurrent, IsFree}
use Rattle.search_nodes.specs.declared.frame.Frame.{Frame}
use Rattle.search_nodes.specs.declared.frame.NodeState.TheVariants.{AwaitingChild}
use Rattle.minimax.proofs.Valid.{after_valid}
use Rattle.shogi_core.specs.Codes.{code_of}
use Rattle.shogi_search.specs.declared.stack.Stack.{Stack}
use Rattle.search_nodes.proofs.Nodes.{asked, is_asked, waits}
use Rattle.shogi_search.proofs.Places.{top_deep, IsTop, one_top, read_on, read_top, on_map, on_top, on_with, with_frame, changed, left_visited}
use Rattle.shogi_search.proofs.NarrowRoots.{uses_after}
use Rattle.shogi_search.proofs.CallLaws.{asks_in_step, stays, steps_and_steps}
use Rattle.shogi_search.proofs.stack.Stack.enter_child.Goals as goal

-- the node on top waits for this move
asks_there : (s : Stack) (m : Move) (d : Frame) → s.height < length s.frames → OnTop s (λ top. top.state ≡ AwaitingChild m) → IsCurrent (get_or s.frames s.height d).state m
asks_there s m d fits top = asked _ m (read_on s d (λ (f : Frame). f.state ≡ AwaitingChild m) fits top)

pub advance-requires : goal.advance-requires
advance-requires g c =
    let f : Frame = get_or c.args.self.now.frames c.args.self.now.height c.index-self-self-2.result in
    let w : _ = waits _ _ _ _ _ _ _ _ _ _ (asks_there c.args.self.now c.args.current.now c.index-self-self-2.result (omega (arith, c.requires.stack.height_fits)) c.requires.top) f.known in
    listed_to_legal _ _ c.reveal_invariant.ensures.back w.is_listed

pub back_up-requires : goal.back_up-requires
back_up-requires g c =
    let s : Stack = c.args.self.now in
    let m : Move = c.args.current.now in
    let f : Frame = get_or s.frames s.height c.index-self-self-in-Some.result in
    let h : Frame = get_or s.frames s.height c.index-self-self-2.result in
    let is : IsTop s f = read_top s c.index-self-self-in-Some.result (omega (arith, c.requires.stack.height_fits)) in
    let same : h ≡ f = one_top s h f (read_top s c.index-self-self-2.result (omega (arith, c.requires.stack.height_fits))) is in
    let current : IsCurrent f.state m = asks_there s m c.index-self-self-in-Some.result (omega (arith, c.requires.stack.height_fits)) c.requires.top in
    let w : _ = waits _ _ _ _ _ _ _ _ _ _ current f.known in
    let truth : IsTrueEntry (position_after f m) f.node.eval (h.depth - 1) c.in-Some.entry = c.in-Some.ensures.truth _ _ (after_valid f.node.position (code_of m) f.valid w.is_listed) in
    record {
      deep = top_deep s f is c.requires.stack;
      current = current;
      truth = subst (λ (x : Frame). IsTrueEntry (position_after f m) f.node.eval (x.depth - 1) c.in-Some.entry) same truth;
      conclusive = subst (λ (x : Frame). IsConclusiveAfter x m c.in-Some.entry) same
          (same_window _ (negated h.beta) _ (negated (move_alpha_of h m)) c.in-Some.entry
          (omega (arith, ints, c.window-alpha.ensures.alpha, c.window-alpha.ensures.least, c.window-alpha.ensures.«open», c.window-alpha.ensures.most))
          (omega (arith, ints, c.window-alpha.ensures.beta, c.window-alpha.ensures.least, c.window-alpha.ensures.«open», c.window-alpha.ensures.most))
          c.in-Some.ensures.conclusive);
    }

pub back_up-requires-in-Some-answer_of : goal.back_up-requires-in-Some-answer_of
back_up-requires-in-Some-answer_of g c =
    let s : Stack = c.args.self.now in
    let m : Move = c.args.current.now in
    let f : Frame = get_or s.frames s.height c.index-self-self-in-Some-answer_of.result in
    let h : Frame = get_or s.frames s.height c.index-self-self-2.result in
    let is : IsTop s f = read_top s c.index-self-self-in-Some-answer_of.result (omega (arith, c.requires.stack.height_fits)) in
    let same : h ≡ f = one_top s h f (read_top s c.index-self-self-2.result (omega (arith, c.requires.stack.height_fits))) is in
    let current : IsCurrent f.state m = asks_there s m c.index-self-self-in-Some-answer_of.result (omega (arith, c.requires.stack.height_fits)) c.requires.top in
    let place : c.advance.new.self.position ≡ position_after h m = search rules in
    let eval : c.advance.new.self.eval ≡ h.node.eval = search rules in
    let truth : IsTrueEntry (position_after h m) h.node.eval (h.depth - 1) c.in-Some-answer_of.entry = same_truth _ _ _ _ _ _ c.in-Some-answer_of.entry place eval refl c.in-Some-answer_of.ensures.known.truth in
    record {
      deep = top_deep s f is c.requires.stack;
      current = current;
      truth = subst (λ (x : Frame). IsTrueEntry (position_after x m) x.node.eval (x.depth - 1) c.in-Some-answer_of.entry) same truth;
      conclusive = subst (λ (x : Frame). IsConclusiveAfter x m c.in-Some-answer_of.entry) same
          (same_window _ (negated h.beta) _ (negated (move_alpha_of h m)) c.in-Some-answer_of.entry
          (omega (arith, ints, c.window-alpha.ensures.alpha, c.window-alpha.ensures.least, c.window-alpha.ensures.«open», c.window-alpha.ensures.most))
          (omega (arith, ints, c.window-alpha.ensures.beta, c.window-alpha.ensures.least, c.window-alpha.ensures.«open», c.window-alpha.ensures.most))
          c.in-Some-answer_of.ensures.known.conclusive);
    }

pub returns-in-Some-clause-left : goal.returns-in-Some-clause-left
returns-in-Some-clause-left g c =
    let f : Frame = get_or c.args.self.now.frames c.args.self.now.height c.index-self-self-in-Some.result in
    left_visited c.args.self.now c.args.current.now f c.back_up.new.self (read_top c.args.self.now c.index-self-self-in-Some.result (omega (arith, c.requires.stack.height_fits))) c.back_up.ensures.0 c.back_up.ensures.1.0

pub returns-in-Some-answer_of-clause-left : goal.returns-in-Some-answer_of-clause-left
returns-in-Some-answer_of-clause-left g c =
    let f : Frame = get_or c.args.self.now.frames c.args.self.now.height c.index-self-self-in-Some-answer_of.result in
    left_visited c.args.self.now c.args.current.now f c.back_up-in-Some-answer_of.new.self (read_top c.args.self.now c.index-self-self-in-Some-answer_of.result (omega (arith, c.requires.stack.height_fits))) c.back_up-in-Some-answer_of.ensures.0 c.back_up-in-Some-answer_of.ensures.1.0

-- once the visit of its current move has ended, the node on top is ready
ready_on : (s : Stack) (f h : Frame) → IsTop s f → IsStack s → IsWhole s → EndsVisit f h → IsReady (with_frame s s.height h)
ready_on s f h is stack whole ends = record {
  stack = changed s f h is stack ends.0;
  whole = whole;
  top = on_with s s.height h (λ (top : Frame). IsFree top.state) (slice_get_within s.frames s.height f is) ends.1.1;
}

-- the node on top keeps its moves as the window is narrowed
topmost : (s : Stack) (d : Frame) (n : Stack) → IsTop s (get_or s.frames s.height d) → OnTop s (λ old. OnTop n (λ new. KeepsAsked old new)) → OnTop n (λ new. KeepsAsked (get_or s.frames s.height d) new)
topmost s d n is top = on_top s (get_or s.frames s.height d) (λ (old : Frame). OnTop n (λ new. KeepsAsked old new)) is top

pub narrow-requires : goal.narrow-requires
narrow-requires g c = record {
  stack = c.requires.stack;
  top = on_map c.args.self.now (λ top. top.state ≡ AwaitingChild c.args.current.now) (λ top. IsAsked top.state) (λ f e. is_asked f.state c.args.current.now e) c.requires.top;
}

pub returns-clause-left : goal.returns-clause-left
returns-clause-left g c =
    uses_after c.args.self.now c.narrow.new.self c.push.new.self (get_or c.args.self.now.frames c.args.self.now.height c.index-self-self-2.result) c.args.current.now
    (read_top c.args.self.now c.index-self-self-2.result (omega (arith, c.requires.stack.height_fits)))
    c.narrow.ensures.top (search rules) c.narrow.ensures.left c.push.ensures.left

pub returns-in-Some-clause-calls : goal.returns-in-Some-clause-calls
returns-in-Some-clause-calls g c = asks_in_step (stays g.M.Memo.called _ 0 0 0 0 refl) refl (omega arith) (omega arith)

pub returns-in-Some-answer_of-clause-calls : goal.returns-in-Some-answer_of-clause-calls
returns-in-Some-answer_of-clause-calls g c = asks_in_step c.answer_of.ensures.asks.asked refl (omega arith) (omega arith)

pub returns-clause-calls : goal.returns-clause-calls
returns-clause-calls g c =
    asks_in_step (steps_and_steps c.answer_of.ensures.asks.asked c.push.ensures.asks.asked) refl (omega (arith, c.push.ensures.height, c.narrow.ensures.height)) (omega (arith, c.push.ensures.height, c.narrow.ensures.height))

pub window-alpha-requires : goal.window-alpha-requires
window-alpha-requires g c = record { current = asks_there c.args.self.now c.args.current.now c.index-self-self-2.result (omega (arith, c.requires.stack.height_fits)) c.requires.top }

pub overflow_sub-depth : goal.overflow_sub-depth
overflow_sub-depth g c =
    let f : Frame = get_or c.args.self.now.frames c.args.self.now.height c.index-self-self-2.result in
    omega (arith, (waits _ _ _ _ _ _ _ _ _ _ (asks_there c.args.self.now c.args.current.now c.index-self-self-2.result (omega (arith, c.requires.stack.height_fits)) c.requires.top) f.known).deep)

pub answer_of-requires : goal.answer_of-requires
answer_of-requires g c = record { «open» = omega (arith, ints, c.window-alpha.ensures.least, c.window-alpha.ensures.«open», c.window-alpha.ensures.most) }

pub push-requires : goal.push-requires
push-requires g c =
    let m : Move = c.args.current.now in
    let f : Frame = get_or c.args.self.now.frames c.args.self.now.height c.index-self-self-2.result in
    let is : IsTop c.args.self.now f = read_top c.args.self.now c.index-self-self-2.result (omega (arith, c.requires.stack.height_fits)) in
    let asks : f.state ≡ AwaitingChild m = on_top c.args.self.now f (λ (top : Frame). top.state ≡ AwaitingChild m) is c.requires.top in
    let deep : 2 ≤ f.depth - 1 = c.in_default-answer_of.ensures.deep in
    let position : c.advance.new.self.position ≡ position_after f m = search rules in
    let eval : c.advance.new.self.eval ≡ f.node.eval = search rules in
    record {
      stack = c.narrow.ensures.stack;
      top = on_map c.narrow.new.self (λ new. KeepsAsked f new) (AwaitsChild m c.advance.new.self) (λ new k. record {
        asked = k.1.1.1.1.0 ∙ asks;
        deep = subst (λ (n : ℕ). 2 < n) (sym k.1.0) (omega (arith, deep));
        position = position ∙ ap (λ (x : Evaluated). after_code x.position (code_of m)) (sym k.0);
        eval = eval ∙ ap (λ (x : Evaluated). x.eval) (sym k.0);
      }) (topmost c.args.self.now c.index-self-self-2.result c.narrow.new.self is c.narrow.ensures.top);
    }

pub returns-in-Some-clause-ready : goal.returns-in-Some-clause-ready
returns-in-Some-clause-ready g c = ready_on c.args.self.now _ c.back_up.new.self (read_top c.args.self.now c.index-self-self-in-Some.result (omega (arith, c.requires.stack.height_fits))) c.requires.stack c.requires.whole c.back_up.ensures

pub returns-in-Some-answer_of-clause-ready : goal.returns-in-Some-answer_of-clause-ready
returns-in-Some-answer_of-clause-ready g c = ready_on c.args.self.now _ c.back_up-in-Some-answer_of.new.self (read_top c.args.self.now c.index-self-self-in-Some-answer_of.result (omega (arith, c.requires.stack.height_fits))) c.requires.stack c.requires.whole c.back_up-in-Some-answer_of.ensures

pub returns-clause-ready : goal.returns-clause-ready
returns-clause-ready g c = c.push.ensures.ready

pub returns-then-is_refuted_below-clause-ready : goal.returns-then-is_refuted_below-clause-ready
returns-then-is_refuted_below-clause-ready g c = ready_on c.args.self.now _ c.fail_low.new.self (read_top c.args.self.now c.index-self-self.result (omega (arith, c.requires.stack.height_fits))) c.requires.stack c.requires.whole c.fail_low.ensures.ended

pub returns-then-is_refuted_below-clause-left : goal.returns-then-is_refuted_below-clause-left
returns-then-is_refuted_below-clause-left g c =
    let f : Frame = get_or c.args.self.now.frames c.args.self.now.height c.index-self-self.result in
    left_visited c.args.self.now c.args.current.now f c.fail_low.new.self (read_top c.args.self.now c.index-self-self.result (omega (arith, c.requires.stack.height_fits))) c.fail_low.ensures.ended.0 c.fail_low.ensures.ended.1.0

pub returns-then-is_refuted_below-clause-calls : goal.returns-then-is_refuted_below-clause-calls
returns-then-is_refuted_below-clause-calls g c = asks_in_step (stays g.M.Memo.called _ 0 0 0 0 refl) refl (omega arith) (omega arith)
