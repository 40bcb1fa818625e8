use Rattle.std.proofs.Common.{arith, get_or, refl, ◌≡◌}
use Rattle.shogi_search.specs.declared.stack.Stack.{Stack}
use Rattle.search_nodes.specs.Order.{todo}
use Rattle.search_nodes.specs.Visits.{IsFree, IsOver}
use Rattle.search_nodes.specs.declared.frame.Frame.{Frame}
use Rattle.search_nodes.specs.ReplyCache.{IsFoundAt}
use Rattle.search_nodes.specs.declared.frame.NodeState.TheVariants.{AwaitingChild}
use Rattle.shogi_search.proofs.Places.{IsTop, left_passed, read_on, read_top, on_with, changed, looked, left_descended}
use Rattle.shogi_search.proofs.Runs.{step_from}
use Rattle.shogi_search.proofs.stack.Stack.step.Goals as goal

pub next_move-requires-clause-found : goal.next_move-requires-clause-found
next_move-requires-clause-found g c = read_on c.args.self.now c.index-self-self.result (λ (top : Frame). IsFoundAt top c.args.self.now.reply_cache) (omega (arith, c.requires.stack.height_fits)) c.requires.stack.found

pub enter_child-requires : goal.enter_child-requires
enter_child-requires g c = record {
  stack = looked c.args.self.now _ c.next_move.new.self c.next_move.new.cache (read_top c.args.self.now c.index-self-self.result (omega (arith, c.requires.stack.height_fits))) c.requires.stack c.next_move.ensures.asks.0 c.next_move.ensures.found;
  whole = c.requires.whole;
  top = on_with c.args.self.now c.args.self.now.height c.next_move.new.self (λ (top : Frame). top.state ≡ AwaitingChild c.in-Some.current) (omega (arith, c.requires.stack.height_fits)) c.in-Some.ensures.asks.1.0;
}

pub leave-requires : goal.leave-requires
leave-requires g c = record {
  stack = looked c.args.self.now _ c.next_move.new.self c.next_move.new.cache (read_top c.args.self.now c.index-self-self.result (omega (arith, c.requires.stack.height_fits))) c.requires.stack c.next_move.ensures.asks.0 c.next_move.ensures.found;
  whole = c.requires.whole;
  top = on_with c.args.self.now c.args.self.now.height c.next_move.new.self (λ (top : Frame). IsOver top.state (todo top.node.position top.picker)) (omega (arith, c.requires.stack.height_fits)) (rw c.in_default.ensures.asks.1.0 c.in_default.ensures.asks.1.1.1);
}

pub leave-requires-2 : goal.leave-requires-2
leave-requires-2 g c =
    let s : Stack = c.args.self.now in
    let f : Frame = get_or s.frames s.height c.index-self-self.result in
    let free : IsFree f.state = read_on s c.index-self-self.result (λ (top : Frame). IsFree top.state) (omega (arith, c.requires.stack.height_fits)) c.requires.top in
    record {
      stack = changed s f f (read_top s c.index-self-self.result (omega (arith, c.requires.stack.height_fits))) c.requires.stack (refl, (refl, (refl, refl)));
      whole = c.requires.whole;
      top = on_with s s.height f (λ (top : Frame). IsOver top.state (todo top.node.position top.picker)) (omega (arith, c.requires.stack.height_fits)) (grind (arith, free, c.is_next.ensures.1, c.if-is_next.false));
    }

pub returns-then-is_next : goal.returns-then-is_next
returns-then-is_next g c = record {
  ready = c.enter_child.ensures.ready;
  fewer = left_descended c.args.self.now c.enter_child.new.self c.in-Some.current (get_or c.args.self.now.frames c.args.self.now.height c.index-self-self.result) c.next_move.new.self 1 (read_top c.args.self.now c.index-self-self.result (omega (arith, c.requires.stack.height_fits))) c.next_move.ensures.asks.0 c.in-Some.ensures.asks.1.1.0 c.enter_child.ensures.left;
  known = tt;
  unchanged = c.enter_child.ensures.unchanged;
  calls = c.enter_child.ensures.calls;
  told = tt;
  capacity = c.enter_child.ensures.capacity;
}

pub returns-in_default : goal.returns-in_default
returns-in_default g c =
    let s : Stack = c.args.self.now in
    let is = read_top s c.index-self-self.result (omega (arith, c.requires.stack.height_fits)) in
    step_from g.M.Memo _ _ s c.next_move.new.self c.next_move.new.cache _ _ (left_passed s _ c.next_move.new.self is c.next_move.ensures.asks.0 c.in_default.ensures.asks.1.1.0) c.leave.ensures

pub returns : goal.returns
returns g c =
    let s : Stack = c.args.self.now in
    let f : Frame = get_or s.frames s.height c.index-self-self.result in
    let is : IsTop s f = read_top s c.index-self-self.result (omega (arith, c.requires.stack.height_fits)) in
    step_from g.M.Memo _ _ s f s.reply_cache _ _ (left_passed s f f is (refl, (refl, (refl, refl))) (omega arith)) c.leave-2.ensures
