use Rattle.std.proofs.Common.{◌∙◌, rules, arith, refl, Some, subst}
use Rattle.std.proofs.lemmas.Int.{ints}
use Rattle.std.proofs.lemmas.Grind.{common_steps}
use Rattle.minimax.specs.Minimax.{value}
use Rattle.minimax.proofs.Best.{none_iff, legal_best}
use Rattle.minimax.proofs.MinimaxLaws.{value_within, Within}
use Rattle.shogi_search.specs.Progress.{KeepsQuestion, Progress, untouched}
use Rattle.shogi_search.proofs.SearchCallLaws.{told_after}
use Rattle.shogi_search.proofs.CallLaws.{as_counted, steps_and_steps}
use Rattle.shogi_search.proofs.full_search.search.Goals as goal

pub slices-init : goal.slices-init
slices-init g c =
    let same : KeepsQuestion (untouched c.args.p.now c.args.e c.args.d) c.advance.new.self = subst (λ (s : Progress). KeepsQuestion s c.advance.new.self) c.start-search.ensures c.advance.ensures.slice.unchanged in
    record {
      root = same.0;
      eval = same.1.0;
      depth = same.1.1.0;
      beta = same.1.1.1;
      calls = rw c.start-search.ensures at c.advance.ensures.calls;
      begun = c.in_default.ensures.begun (omega arith);
      none_found = c.advance.ensures.slice.found ∙ c.in_default.is;
      capacity = search rules;
      unknown = first_of (search rules, grind (arith, common_steps));
    }

pub slices-preserved : goal.slices-preserved
slices-preserved g c =
    let same = c.advance-in-slices.ensures.slice.unchanged in
    record {
      root = same.0 ∙ c.slices.invariant.root;
      eval = same.1.0 ∙ c.slices.invariant.eval;
      depth = same.1.1.0 ∙ c.slices.invariant.depth;
      beta = same.1.1.1 ∙ c.slices.invariant.beta;
      calls = steps_and_steps c.slices.invariant.calls (rw c.slices.invariant.begun at c.advance-in-slices.ensures.calls);
      begun = c.in_default-advance.ensures.begun (omega arith);
      none_found = c.advance-in-slices.ensures.slice.found ∙ c.in_default-advance.is;
      capacity = search rules;
      unknown = c.slices.invariant.unknown;
    }

pub returns-in-Some-advance-clause-calls : goal.returns-in-Some-advance-clause-calls
returns-in-Some-advance-clause-calls g c =
    as_counted
    (steps_and_steps c.slices.invariant.calls (rw c.slices.invariant.begun at c.advance-in-slices.ensures.calls))
    refl c.in-Some-advance.ensures.finds.counted refl (rw c.in-Some-advance.ensures.slice.left_all refl) (omega arith)

pub returns-in-Some-advance-clause-told : goal.returns-in-Some-advance-clause-told
returns-in-Some-advance-clause-told g c =
    told_after g.M.Memo.called _ _ _ _ _ _ _ _ (untouched c.args.p.now c.args.e c.args.d) c.slices.search (Some c.in-Some-advance.found) c.slices.invariant.calls
    (c.slices.invariant.root, (c.slices.invariant.eval, (c.slices.invariant.depth, omega (arith, ints, c.slices.invariant.beta))))
    (c.in-Some-advance.ensures.told c.slices.invariant.none_found)

pub returns-in-Some-clause-least : goal.returns-in-Some-clause-least
returns-in-Some-clause-least g c =
    let w : Within c.args.d (value c.args.p.now c.args.e c.args.d) = value_within c.args.d c.args.p.now c.args.e c.reveal_invariant.ensures in
    omega (arith, ints, (rw c.start-search.ensures at c.in-Some.ensures.finds.value) refl)

pub returns-in-Some-clause-most : goal.returns-in-Some-clause-most
returns-in-Some-clause-most g c =
    let w : Within c.args.d (value c.args.p.now c.args.e c.args.d) = value_within c.args.d c.args.p.now c.args.e c.reveal_invariant.ensures in
    omega (arith, ints, (rw c.start-search.ensures at c.in-Some.ensures.finds.value) refl)

pub returns-in-Some-clause-if_none : goal.returns-in-Some-clause-if_none
returns-in-Some-clause-if_none g c = none_iff _ _ _ _ ((rw c.start-search.ensures at c.in-Some.ensures.finds.best) refl)

pub returns-in-Some-clause-legal : goal.returns-in-Some-clause-legal
returns-in-Some-clause-legal g c = legal_best _ _ _ _ ((rw c.start-search.ensures at c.in-Some.ensures.finds.best) refl)

pub returns-in-Some-advance-clause-least : goal.returns-in-Some-advance-clause-least
returns-in-Some-advance-clause-least g c =
    let w : Within c.args.d (value c.args.p.now c.args.e c.args.d) = value_within c.args.d c.args.p.now c.args.e c.reveal_invariant.ensures in
    omega (arith, ints, (rw (c.slices.invariant.root, c.slices.invariant.eval, c.slices.invariant.depth) at c.in-Some-advance.ensures.finds.value) c.slices.invariant.beta)

pub returns-in-Some-advance-clause-most : goal.returns-in-Some-advance-clause-most
returns-in-Some-advance-clause-most g c =
    let w : Within c.args.d (value c.args.p.now c.args.e c.args.d) = value_within c.args.d c.args.p.now c.args.e c.reveal_invariant.ensures in
    omega (arith, ints, (rw (c.slices.invariant.root, c.slices.invariant.eval, c.slices.invariant.depth) at c.in-Some-advance.ensures.finds.value) c.slices.invariant.beta)

pub returns-in-Some-advance-clause-if_none : goal.returns-in-Some-advance-clause-if_none
returns-in-Some-advance-clause-if_none g c = none_iff _ _ _ _ ((rw (c.slices.invariant.root, c.slices.invariant.eval, c.slices.invariant.depth) at c.in-Some-advance.ensures.finds.best) c.slices.invariant.beta)

pub returns-in-Some-advance-clause-legal : goal.returns-in-Some-advance-clause-legal
returns-in-Some-advance-clause-legal g c = legal_best _ _ _ _ ((rw (c.slices.invariant.root, c.slices.invariant.eval, c.slices.invariant.depth) at c.in-Some-advance.ensures.finds.best) c.slices.invariant.beta)
