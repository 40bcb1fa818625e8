use Rattle.std.proofs.Common.{◌≡◌, ◌∙◌, ℤ, Bool, true, false, Option, None, refl, arith, sym}
use Rattle.shogi_search.proofs.CallLaws.{calls_and_calls, stays, asked_first, steps_and_steps}
use Rattle.shogi_search.proofs.SearchCallLaws.{asks_root, asks_root_alone, told_after}
use Rattle.std.specs.Prelude.{IsSome, is_some}
use Rattle.minimax.specs.Entries.{IsEnoughBelow, IsExactly}
use Rattle.minimax.specs.declared.entry.Entry.{Entry}
use Rattle.shogi_search.specs.declared.found.Found.{Found}
use Rattle.shogi_search.specs.Progress.{IsAnsweredBy, IsFresh, IsUnderWay, Progress}
use Rattle.shogi_search.specs.SlicedSearch.{progress_of}
use Rattle.shogi_search.specs.declared.sliced_search.Search.TheInside.{Inside}
use Rattle.shogi_search.proofs.SliceLaws.{answered_finds, answered_slice, empty_slice, ended_finds, ended_slice, ends_in_slice, finds_as, step_and_slice}
use Rattle.shogi_search.proofs.sliced_search.Search.advance.Goals as goal

-- a search without a result that has not started is fresh
fresh_seen : (inside : Inside) (search : Progress) (b : Bool) → progress_of inside ≡ search → b ≡ is_some inside.found → b ≡ false → inside.started ≡ false → IsFresh search
fresh_seen inside search b e is not unstarted = rw (← e) (record { unstarted = unstarted; none = grind arith })

under_way : (inside : Inside) (search : Progress) (b : Bool) → progress_of inside ≡ search → b ≡ is_some inside.found → b ≡ false → inside.started ≡ true → IsUnderWay search
under_way inside search b e is not begun = rw (← e) (record { begun = begun; none = grind arith })

-- without a result there is no answer
no_answer : (found : Option Found) → found ≡ None → IsSome found → ⊥
no_answer found e some = cc

exactly_enough : (beta : ℤ) (answer : Option Entry) → IsExactly answer → IsEnoughBelow beta answer
exactly_enough beta answer k = grind arith

pub returns-then-is_some-clause-finds : goal.returns-then-is_some-clause-finds
returns-then-is_some-clause-finds g c = rw (← c.self.view_is) (ended_finds c.self.inside c.self.invariant)

pub returns-then-is_some-clause-slice : goal.returns-then-is_some-clause-slice
returns-then-is_some-clause-slice g c = rw (← c.self.view_is) (ended_slice c.args.budget c.self.inside (sym c.is_some.ensures ∙ c.if-is_some.true))

pub returns-in-Some-clause-finds : goal.returns-in-Some-clause-finds
returns-in-Some-clause-finds g c = answered_finds c.self.inside c.args.self.now c.in-Some.found c.self.view_is c.self.invariant c.in-Some.ensures.below c.in-Some.ensures.steps

pub returns-in-Some-clause-slice : goal.returns-in-Some-clause-slice
returns-in-Some-clause-slice g c = rw (← c.self.view_is) (answered_slice c.args.budget c.self.inside c.in-Some.found)

pub returns-then-budget-eq0-clause-slice : goal.returns-then-budget-eq0-clause-slice
returns-then-budget-eq0-clause-slice g c = rw (← c.self.view_is) (empty_slice c.args.budget c.self.inside c.if-budget-eq0.true (fresh_seen c.self.inside _ _ refl c.is_some.ensures c.if-is_some.false c.if-self.false).none c.if-self.false (omega (arith, c.self.ranges)))

pub returns-then-budget-eq0-clause-finds : goal.returns-then-budget-eq0-clause-finds
returns-then-budget-eq0-clause-finds g c = record { below = tt; value = tt; best = tt; counted = tt; range = tt }

pub returns-then-is_some-clause-calls : goal.returns-then-is_some-clause-calls
returns-then-is_some-clause-calls g c = rw (← c.self.view_is) (stays g.M.Memo.called _ c.self.inside.steps _ _ _ (omega (arith, c.self.ranges)))

pub returns-then-budget-eq0-clause-asked : goal.returns-then-budget-eq0-clause-asked
returns-then-budget-eq0-clause-asked g c = λ _ _. asks_root_alone c.probe_root.ensures.first

pub returns-in-Some-clause-asked : goal.returns-in-Some-clause-asked
returns-in-Some-clause-asked g c = λ _ _. asks_root_alone c.probe_root.ensures.first

pub resume-requires : goal.resume-requires
resume-requires g c = under_way c.self.inside _ _ c.self.view_is c.is_some.ensures c.if-is_some.false c.if-self.true

pub answer_root-requires-clause-fresh : goal.answer_root-requires-clause-fresh
answer_root-requires-clause-fresh g c = fresh_seen c.self.inside _ _ c.self.view_is c.is_some.ensures c.if-is_some.false c.if-self.false

pub enter_root-requires-clause-fresh : goal.enter_root-requires-clause-fresh
enter_root-requires-clause-fresh g c = fresh_seen c.self.inside _ _ c.self.view_is c.is_some.ensures c.if-is_some.false c.if-self.false

pub resume-requires-2 : goal.resume-requires-2
resume-requires-2 g c = record { begun = c.enter_root.ensures.begun; none = c.enter_root.ensures.slice.found }

pub returns-then-self : goal.returns-then-self
returns-then-self g c =
    let under : IsUnderWay c.args.self.now = under_way c.self.inside _ _ c.self.view_is c.is_some.ensures c.if-is_some.false c.if-self.true in
    record {
      finds = c.resume.ensures.finds;
      slice = c.resume.ensures.slice;
      capacity = c.resume.ensures.calls.capacity;
      calls = rw under.begun c.resume.ensures.calls.calls;
      asked = λ no _. absurd (cc);
      told = λ _. c.resume.ensures.calls.told;
      again = λ f e. absurd (cc);
      idle = λ some. absurd (no_answer _ under.none some);
      begun = λ _. grind (arith, c.resume.ensures.begun);
      enough = λ no _. absurd (cc);
      known = λ no _. absurd (cc);
    }

pub returns-then-self-lt2 : goal.returns-then-self-lt2
returns-then-self-lt2 g c =
    let fresh : IsFresh c.args.self.now = fresh_seen c.self.inside _ _ c.self.view_is c.is_some.ensures c.if-is_some.false c.if-self.false in
    let asked : _ = c.probe_root.ensures.asks.asked in
    let little : (IsAnsweredBy (g.M.Memo.answers c.args.memo.now) c.args.self.now → ⊥) = (λ enough. no_answer c.probe_root.result c.in_default.is (c.probe_root.ensures.enough.1 enough)) in
    record {
      finds = c.answer_root.ensures.finds;
      slice = ends_in_slice c.args.budget c.args.self.now c.answer_root.result c.answer_root.new.self (omega (arith, c.if-budget-eq0.false)) c.answer_root.ensures.some c.answer_root.ensures.slice;
      capacity = c.answer_root.ensures.calls.capacity ∙ c.probe_root.ensures.asks.capacity;
      calls = rw fresh.unstarted (asked_first asked c.answer_root.ensures.calls.calls);
      asked = λ _ _. asks_root _ _ c.probe_root.ensures.first little c.answer_root.ensures.calls.calls.each;
      told = λ _. told_after g.M.Memo.called _ _ _ _ _ _ _ _ c.args.self.now c.args.self.now c.answer_root.result asked (refl, (refl, (refl, refl))) c.answer_root.ensures.calls.told;
      again = λ f e. absurd (cc);
      idle = λ some. absurd (no_answer _ fresh.none some);
      begun = λ _. grind (arith, c.answer_root.ensures.some);
      enough = λ _ enough. absurd (little enough);
      known = λ _ exactly. absurd (little (exactly_enough _ _ exactly));
    }

pub returns : goal.returns
returns g c =
    let fresh : IsFresh c.args.self.now = fresh_seen c.self.inside _ _ c.self.view_is c.is_some.ensures c.if-is_some.false c.if-self.false in
    let asked : _ = c.probe_root.ensures.asks.asked in
    let little : (IsAnsweredBy (g.M.Memo.answers c.args.memo.now) c.args.self.now → ⊥) = (λ enough. no_answer c.probe_root.result c.in_default.is (c.probe_root.ensures.enough.1 enough)) in
    let entered = c.enter_root.ensures in
    let rest = c.resume-2.ensures in
    record {
      finds = finds_as c.args.self.now c.enter_root.new.self c.resume-2.result c.resume-2.new.self entered.slice.unchanged rest.finds;
      slice = step_and_slice c.args.budget c.args.self.now c.enter_root.new.self c.resume-2.result c.resume-2.new.self (omega (arith, c.if-budget-eq0.false)) entered.slice rest.slice;
      capacity = rest.calls.capacity ∙ (entered.calls.capacity ∙ c.probe_root.ensures.asks.capacity);
      calls = rw fresh.unstarted (asked_first asked (steps_and_steps entered.calls.calls rest.calls.calls));
      asked = λ _ _. asks_root _ _ c.probe_root.ensures.first little (calls_and_calls g.M.Memo.called _ _ _ _ _ entered.calls.calls.each rest.calls.calls.each);
      told = λ _. told_after g.M.Memo.called _ _ _ _ _ _ _ _ c.args.self.now c.enter_root.new.self c.resume-2.result (asked_first asked entered.calls.calls) entered.slice.unchanged rest.calls.told;
      again = λ f e. absurd (cc);
      idle = λ some. absurd (no_answer _ fresh.none some);
      begun = λ _. grind (arith, rest.begun);
      enough = λ _ enough. absurd (little enough);
      known = λ _ exactly. absurd (little (exactly_enough _ _ exactly));
    }
