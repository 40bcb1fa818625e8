use Rattle.std.proofs.Common.{ap, arith, get_or, refl, ◌∙◌}
use Rattle.search_nodes.specs.Frames.{IsToBeLeft, IsTrueOf}
use Rattle.search_nodes.specs.declared.frame.Frame.{Frame}
use Rattle.shogi_search.specs.declared.stack.Stack.{Stack}
use Rattle.shogi_search.specs.Stack.{IsEntryOf}
use Rattle.shogi_search.proofs.Places.{IsTop, of_top, read_on, read_top}
use Rattle.shogi_search.proofs.CallLaws.{asks_further, ends_at_once, stays, told_in_step}
use Rattle.shogi_search.proofs.stack.Stack.leave.Goals as goal

pub to_entry-entry-requires : goal.to_entry-entry-requires
to_entry-entry-requires g c = record { over = read_on c.args.self.now c.index-self-self.result IsToBeLeft (omega (arith, c.requires.stack.height_fits)) c.requires.top }

pub store_top-requires : goal.store_top-requires
store_top-requires g c =
    let s : Stack = c.args.self.now in
    let f : Frame = get_or s.frames s.height c.index-self-self.result in
    let is : IsTop s f = read_top s c.index-self-self.result (omega (arith, c.requires.stack.height_fits)) in
    record {
      stack = c.requires.stack;
      top = of_top s f (λ (top : Frame). IsTrueOf top c.to_entry-entry.result) is c.to_entry-entry.ensures.truth;
    }

pub pop-requires : goal.pop-requires
pop-requires g c =
    let s : Stack = c.args.self.now in
    let f : Frame = get_or s.frames s.height c.index-self-self.result in
    let is : IsTop s f = read_top s c.index-self-self.result (omega (arith, c.requires.stack.height_fits)) in
    record {
      stack = c.requires.stack;
      whole = c.requires.whole;
      top = of_top s f (λ (top : Frame). IsEntryOf top c.to_entry-entry.result) is (record {
        truth = c.to_entry-entry.ensures.truth;
        conclusive = c.to_entry-entry.ensures.conclusive;
      });
    }

pub returns-then-not-pop : goal.returns-then-not-pop
returns-then-not-pop g c =
    let root = c.pop.ensures.root c.if-not-pop.true in
    let kept = c.pop.ensures.kept c.if-not-pop.true in
    record {
      ready = tt;
      fewer = tt;
      known = root.1;
      unchanged = kept.1;
      calls = told_in_step {most = 0} 0 c.store_top.ensures.told (rw kept.0 (stays g.M.Memo.called _ 0 0 0 0 refl)) refl (omega (arith, root.0)) (omega arith);
      told = rw kept.0 (ends_at_once (c.store_top.ensures.root root.0));
      capacity = ap g.M.Memo.capacity kept.0 ∙ c.store_top.ensures.capacity;
    }

pub returns-then-self-eq0 : goal.returns-then-self-eq0
returns-then-self-eq0 g c =
    let left = c.pop.ensures.left c.if-not-pop.false in
    record {
      ready = left.ready;
      fewer = omega (arith, left.fewer);
      known = tt;
      unchanged = left.unchanged;
      calls = told_in_step 1 c.store_top.ensures.told (asks_further {r = 14} left.asks c.keep_line.ensures (omega (arith, left.below, left.some))).asked refl (omega (arith, left.below, left.some)) (omega (arith, left.below, left.some));
      told = tt;
      capacity = c.keep_line.ensures.capacity ∙ (left.asks.capacity ∙ c.store_top.ensures.capacity);
    }

pub returns : goal.returns
returns g c =
    let left = c.pop.ensures.left c.if-not-pop.false in
    record {
      ready = left.ready;
      fewer = omega (arith, left.fewer);
      known = tt;
      unchanged = left.unchanged;
      calls = told_in_step 0 c.store_top.ensures.told left.asks.asked refl (omega (arith, left.below, left.above)) (omega (arith, left.below, left.above));
      told = tt;
      capacity = left.asks.capacity ∙ c.store_top.ensures.capacity;
    }
