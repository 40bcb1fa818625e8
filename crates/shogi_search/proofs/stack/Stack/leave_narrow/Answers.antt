use Rattle.std.proofs.Common.{arith, get_or, length, subst, ◌≡◌, ◌+◌, ◌<◌, ◌≤◌}
use Rattle.std.proofs.lemmas.Int.{ints}
use Rattle.minimax.specs.Minimax.{negated}
use Rattle.shogi_core.specs.declared.moves.Move.{Move}
use Rattle.search_nodes.specs.Frames.{IsConclusiveAfter, IsTrueOf, move_alpha_of}
use Rattle.search_nodes.specs.Changes.{steps_after}
use Rattle.shogi_search.specs.Stack.{AwaitsChild, IsParentOf, OnTop, steps_left}
use Rattle.search_nodes.specs.Visits.{IsFree}
use Rattle.search_nodes.specs.declared.frame.Frame.{Frame}
use Rattle.search_nodes.proofs.Nodes.{asked}
use Rattle.shogi_search.specs.declared.stack.Stack.{Stack}
use Rattle.shogi_search.proofs.Again.{left_stays}
use Rattle.shogi_search.proofs.CallLaws.{only_asks_none, only_at_most}
use Rattle.search_nodes.proofs.Passing.{left_kept}
use Rattle.shogi_search.proofs.Entries.{same_truth, same_window}
use Rattle.shogi_search.proofs.Places.{top_deep, HasTop, IsTop, has_top, changed, left_changed, left_in, on_map, on_top, on_with, one_top, read_top}
use Rattle.shogi_search.proofs.RefutedOnStack.{kept_at_parent, some_map}
use Rattle.search_nodes.specs.Refuted.{IsRefutedAt, Refutes}
use Rattle.shogi_search.proofs.Runs.{kept_on}
use Rattle.shogi_search.proofs.stack.Stack.leave_narrow.Goals as goal

-- the root is the parent of the child that was on top
parent_of : (s n : Stack) (child f : Frame) (m : Move) → IsTop s child → IsTop n f → OnTop s (λ top. OnTop n (IsParentOf top m)) → IsParentOf child m f
parent_of s n child f m is top at =
    on_top n f (IsParentOf child m) top (on_top s child (λ (c : Frame). OnTop n (IsParentOf c m)) is at)

pub back_up_with-requires : goal.back_up_with-requires
back_up_with-requires g c =
    let s : Stack = c.args.self.now in
    let n : Stack = c.widen-current.new.self in
    let m : Move = c.widen-current.result in
    let low : n.height < length n.frames = omega (arith, c.widen-current.ensures.root) in
    let child : Frame = get_or s.frames s.height c.index-self-self.result in
    let top : IsTop s child = read_top s c.index-self-self.result (omega (arith, c.requires.narrow.stack.height_fits)) in
    let f : Frame = get_or n.frames n.height c.index-self-self-then-is_conclusive.result in
    let is : IsTop n f = read_top n c.index-self-self-then-is_conclusive.result low in
    let h : Frame = get_or n.frames n.height c.index-self-self-2.result in
    let same : h ≡ f = one_top n h f (read_top n c.index-self-self-2.result low) is in
    let p : IsParentOf child m f = parent_of s n child f m top is c.widen-current.ensures.child in
    record {
      deep = top_deep n f is c.widen-current.ensures.stack;
      current = asked f.state m p.waits.asked;
      truth = same_truth _ _ _ _ _ _ c.args.entry.now p.waits.position p.waits.eval p.depth_is (on_top s child (λ (top : Frame). IsTrueOf top c.args.entry.now) top c.requires.truth);
      conclusive = subst (λ (x : Frame). IsConclusiveAfter x m c.args.entry.now) same
          (same_window _ (negated h.beta) _ (negated (move_alpha_of h m)) c.args.entry.now
          (omega (arith, ints, c.window-alpha.ensures.alpha, c.window-alpha.ensures.least, c.window-alpha.ensures.«open», c.window-alpha.ensures.most))
          (omega (arith, ints, c.window-alpha.ensures.beta, c.window-alpha.ensures.least, c.window-alpha.ensures.«open», c.window-alpha.ensures.most))
          (c.is_conclusive.ensures.0 c.if-is_conclusive.true));
      refuted = some_map c.refutation-refutation.result (λ found. Refutes child found) (λ found. IsRefutedAt f m found) (λ found known. kept_at_parent f child m found c.reveal_invariant.ensures.back p known) c.refutation-refutation.ensures;
    }

pub refutation-refutation-requires : goal.refutation-refutation-requires
refutation-refutation-requires g c = record { deep = top_deep c.args.self.now _ (read_top c.args.self.now c.index-self-self.result (omega (arith, c.requires.narrow.stack.height_fits))) c.requires.narrow.stack }

pub window-alpha-requires : goal.window-alpha-requires
window-alpha-requires g c =
    let s : Stack = c.args.self.now in
    let n : Stack = c.widen-current.new.self in
    let child : Frame = get_or s.frames s.height c.index-self-self.result in
    let f : Frame = get_or n.frames n.height c.index-self-self-2.result in
    let p : IsParentOf child c.widen-current.result f = parent_of s n child f c.widen-current.result (read_top s c.index-self-self.result (omega (arith, c.requires.narrow.stack.height_fits))) (read_top n c.index-self-self-2.result (omega (arith, c.widen-current.ensures.root))) c.widen-current.ensures.child in
    record { current = asked f.state c.widen-current.result p.waits.asked }

pub push-requires : goal.push-requires
push-requires g c =
    let s : Stack = c.args.self.now in
    let n : Stack = c.widen-current.new.self in
    let m : Move = c.widen-current.result in
    let child : Frame = get_or s.frames s.height c.index-self-self.result in
    let is : IsTop s child = read_top s c.index-self-self.result (omega (arith, c.requires.narrow.stack.height_fits)) in
    record {
      stack = c.widen-current.ensures.stack;
      top = on_map n (IsParentOf child m) (AwaitsChild m child.node) (λ top p. p.waits) (on_top s child (λ (top : Frame). OnTop n (IsParentOf top m)) is c.widen-current.ensures.child);
    }

pub returns-then-is_conclusive : goal.returns-then-is_conclusive
returns-then-is_conclusive g c =
    let n : Stack = c.widen-current.new.self in
    let low : n.height < length n.frames = omega (arith, c.widen-current.ensures.root) in
    let f : Frame = get_or n.frames n.height c.index-self-self-then-is_conclusive.result in
    let is : IsTop n f = read_top n c.index-self-self-then-is_conclusive.result low in
    let kept : left_in n c.back_up_with.new.self ≡ left_in n f = left_stays n.depth n.bound n.beta f c.back_up_with.new.self c.back_up_with.ensures.0 (left_kept f c.back_up_with.new.self c.back_up_with.ensures.0 c.back_up_with.ensures.1.0) in
    let less : steps_left n + 1 + steps_after f c.widen-current.result ≤ steps_left c.args.self.now = on_top n f (λ (root : Frame). steps_left n + 1 + steps_after root c.widen-current.result ≤ steps_left c.args.self.now) is c.widen-current.ensures.left in
    record {
      ready = record {
        stack = changed n f c.back_up_with.new.self is c.widen-current.ensures.stack c.back_up_with.ensures.0;
        whole = λ _. c.widen-current.ensures.whole;
        top = on_with n n.height c.back_up_with.new.self (λ (top : Frame). IsFree top.state) low c.back_up_with.ensures.1.1;
      };
      fewer = omega (arith, kept, less, left_changed n f c.back_up_with.new.self is);
      some = omega (arith, c.requires.narrow.child);
      above = omega (arith, c.widen-current.ensures.root);
      below = omega (arith, c.requires.narrow.child);
      unchanged = c.widen-current.ensures.unchanged;
      asks = only_asks_none g.M.Memo _ _;
    }

pub returns : goal.returns
returns g c =
    let s : Stack = c.args.self.now in
    let n : Stack = c.widen-current.new.self in
    let m : Move = c.widen-current.result in
    let h : HasTop n (λ (root : Frame). steps_left n + 1 + steps_after root m ≤ steps_left s) = has_top n _ c.widen-current.ensures.left in
    let once : steps_left c.push.new.self + 1 ≤ steps_left n + steps_after h.top m = on_top n h.top (λ (root : Frame). steps_left c.push.new.self + 1 ≤ steps_left n + steps_after root m) h.is (c.push.ensures.once c.widen-current.ensures.whole) in
    record {
      ready = c.push.ensures.ready;
      fewer = omega (arith, once, h.has);
      some = omega (arith, c.requires.narrow.child);
      above = omega (arith, c.push.ensures.height, c.widen-current.ensures.root, c.requires.narrow.child);
      below = omega (arith, c.requires.narrow.child);
      unchanged = kept_on s n c.push.new.self c.widen-current.ensures.unchanged c.push.ensures.unchanged;
      asks = only_at_most c.push.ensures.asks (omega (arith, c.push.ensures.height, c.requires.narrow.child));
    }
