use Rattle.std.proofs.Common.{FitsSigned, w32, arith, get_or, length, refl, rules, ◌≡◌, ◌<◌, ◌-◌, ◌∙◌}
use Rattle.std.proofs.lemmas.Int.{ints, to_z-of_z}
use Rattle.search_nodes.specs.Visits.{IsFree}
use Rattle.search_nodes.specs.Changes.{IsAt}
use Rattle.search_nodes.specs.Frames.{IsTrueOf}
use Rattle.search_nodes.proofs.Nodes.{asked}
use Rattle.minimax.specs.Minimax.{negated}
use Rattle.minimax.specs.declared.bounds.TheConstants.{INFINITY}
use Rattle.shogi_search.specs.Stack.{IsChain, IsEntryOf, parents_of}
use Rattle.shogi_search.specs.declared.stack.Stack.{Stack}
use Rattle.shogi_search.proofs.Entries.{same_truth, same_window}
use Rattle.shogi_search.proofs.NarrowRoots.{first_at}
use Rattle.search_nodes.specs.declared.frame.Frame.{Frame}
use Rattle.shogi_search.proofs.Places.{below_deep, HasTop, has_top, on_map, on_top, of_top, read_top, top_deep, asked_below, entry_below, stack_popped, left_popped, on_with}
use Rattle.shogi_search.proofs.RefutedOnStack.{kept_below, some_map}
use Rattle.search_nodes.specs.Refuted.{IsRefutedAt, Refutes}
use Rattle.shogi_search.proofs.CallLaws.{only_asks_none}
use Rattle.shogi_search.proofs.stack.Stack.pop.Goals as goal
use Rattle.shogi_search.proofs.stack.Stack.pop.Goals.{else-self-eq1-via-then-self-eq1+else-self, else-self-eq1-via-else-self-eq1}

pub unreachable-requires : goal.unreachable-requires
unreachable-requires g c = asked_below c.args.self.now _ c.requires.stack (omega (arith, c.if-self-eq0.false)) (omega (arith, c.requires.stack.height_fits)) c.in_default.not-AwaitingChild

pub back_up_with-requires : goal.back_up_with-requires
back_up_with-requires g c =
    let s : Stack = c.args.self.now in
    let some : 0 < s.height = omega (arith, c.if-self-eq0.false) in
    let fits : s.height < length s.frames = omega (arith, c.requires.stack.height_fits) in
    let known = entry_below s _ _ _ c.requires.stack some fits c.in-AwaitingChild.is c.requires.top in
    let top : Frame = get_or s.frames s.height c.index-self-self.result in
    record {
      deep = below_deep s _ c.requires.stack some fits;
      current = asked _ _ c.in-AwaitingChild.is;
      truth = known.truth;
      conclusive = known.conclusive;
      refuted = some_map c.refutation-refutation.result (λ found. Refutes top found) (λ found. IsRefutedAt (get_or s.frames (s.height - 1) c.index-self-self-2.result) c.in-AwaitingChild.current found)
          (λ found known. kept_below s _ c.in-AwaitingChild.current found c.requires.stack some fits c.in-AwaitingChild.is c.reveal_invariant.ensures.back (of_top s top (λ (f : Frame). Refutes f found) (read_top s c.index-self-self.result fits) known)) c.refutation-refutation.ensures;
    }

pub refutation-refutation-requires : goal.refutation-refutation-requires
refutation-refutation-requires g c = record { deep = top_deep c.args.self.now _ (read_top c.args.self.now c.index-self-self.result (omega (arith, c.requires.stack.height_fits))) c.requires.stack }

pub leave_narrow-requires-clause-truth : goal.leave_narrow-requires-clause-truth
leave_narrow-requires-clause-truth g c = on_map c.args.self.now (λ top. IsEntryOf top c.args.entry.now) (λ top. IsTrueOf top c.args.entry.now) (λ f known. known.truth) c.requires.top

pub leave_narrow-requires-clause-narrow : goal.leave_narrow-requires-clause-narrow
leave_narrow-requires-clause-narrow g c =
    let s : Stack = c.args.self.now in
    let low : FitsSigned w32 s.bound = search rules in
    let high : FitsSigned w32 s.beta = search rules in
    record {
      stack = c.requires.stack;
      child = c.if-self-eq1.true;
      less = omega (arith, ints, to_z-of_z w32 s.bound low, to_z-of_z w32 s.beta high, c.if-self.true);
    }

pub returns-then-self-eq0-clause-root : goal.returns-then-self-eq0-clause-root
returns-then-self-eq0-clause-root g c = λ _.
    let s : Stack = c.args.self.now in
    let t : HasTop s (IsChain s.root s.eval s.depth (negated INFINITY) s.bound (parents_of s)) = has_top s _ c.requires.stack.chain in
    let at : IsAt s.root s.eval s.depth (negated INFINITY) s.bound t.top = first_at s s.height t.top c.if-self-eq0.true t.has in
    let known : IsEntryOf t.top c.args.entry.now = on_top s t.top (λ (top : Frame). IsEntryOf top c.args.entry.now) t.is c.requires.top in (
      c.if-self-eq0.true,
      record {
        truth = same_truth _ _ _ _ _ _ c.args.entry.now at.position at.eval at.depth known.truth;
        conclusive = same_window _ _ _ _ c.args.entry.now at.alpha_is (at.beta_is ∙ c.requires.whole c.if-self-eq0.true) known.conclusive;
      },
    )

pub returns-then-self-clause-left : goal.returns-then-self-clause-left
returns-then-self-clause-left g c = λ _. c.leave_narrow.ensures

pub returns-clause-left : goal.returns-clause-left
returns-clause-left g c = λ _.
    let s : Stack = c.args.self.now in
    let some : 0 < s.height = omega (arith, c.if-self-eq0.false) in
    let fits : s.height < length s.frames = omega (arith, c.requires.stack.height_fits) in
    let low : FitsSigned w32 s.bound = search rules in
    let high : FitsSigned w32 s.beta = search rules in
    record {
      ready = record {
        stack = stack_popped s _ c.back_up_with.new.self c.requires.stack some fits c.back_up_with.ensures.0;
        whole = λ zero. elim c.else-self-eq1.branch [
          | else-self-eq1-via-then-self-eq1+else-self w ↦ omega (arith, ints, to_z-of_z w32 s.bound low, to_z-of_z w32 s.beta high, w.if-self.false, c.requires.stack.within)
          | else-self-eq1-via-else-self-eq1 w ↦ absurd {A = s.bound ≡ s.beta} (omega (arith, zero, c.if-self-eq0.false, w.if-self-eq1.false))
        ];
        top = on_with s (s.height - 1) c.back_up_with.new.self (λ (top : Frame). IsFree top.state) (omega (arith, fits)) c.back_up_with.ensures.1.1;
      };
      fewer = left_popped s _ c.back_up_with.new.self c.requires.stack some fits c.back_up_with.ensures.0 c.back_up_with.ensures.1.0;
      some = some;
      above = omega arith;
      below = omega arith;
      unchanged = (refl, (refl, (refl, refl)));
      asks = only_asks_none g.M.Memo _ _;
    }
