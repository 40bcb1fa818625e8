use Rattle.std.proofs.Common.{◌≡◌, ◌≤◌, None, refl, rules, arith, inl, subst, sym}
use Rattle.shogi_search.proofs.CallLaws.{as_counted}
use Rattle.shogi_search.proofs.SearchCallLaws.{entered_count}
use Rattle.std.proofs.lemmas.Int.{ints}
use Rattle.shogi_search.proofs.Searches.{known_found}
use Rattle.shogi_search.specs.SlicedSearch.{left_in, progress_of, steps_of_tree}
use Rattle.shogi_search.proofs.Entries.{same_found, same_truth, same_window}
use Rattle.shogi_search.specs.Progress.{IsUnderWay}
use Rattle.shogi_search.specs.Stack.{IsStack, steps_left}
use Rattle.shogi_search.specs.declared.sliced_search.Search.TheInside.{Inside}
use Rattle.shogi_search.proofs.Places.{left_positive}
use Rattle.shogi_search.proofs.SliceLaws.{ended_by, finds_by}
use Rattle.shogi_search.proofs.sliced_search.Search.resume.Goals as goal

pub invariant_of-self-2 : goal.invariant_of-self-2
invariant_of-self-2 g c =
    let under : IsUnderWay (progress_of c.self.inside) = subst IsUnderWay (sym c.self.view_is) c.requires in
    let rest : left_in c.self.inside.found c.self.inside.started (steps_of_tree c.self.inside.stack) (steps_left c.self.inside.stack) ≡ steps_left c.self.inside.stack = rw (under.none, under.begun) refl in
    let same = c.in_ok-entry.ensures.run.unchanged in
    record {
      shallow = rw same.1.0 c.self.invariant.shallow;
      beta = rw same.1.1.1 c.self.invariant.beta;
      known = known_found _ c.found_of.result _ refl (omega (arith, ints)) c.found_of.ensures.below c.found_of.ensures.steps;
      ready = λ e. absurd (cc);
      counted = rw (same.0, same.1.0) (omega (arith, rest, c.self.invariant.counted, c.in_ok-entry.ensures.fell));
    }

pub found_of-requires-clause-shallow : goal.found_of-requires-clause-shallow
found_of-requires-clause-shallow g c = omega (arith, c.self.invariant.shallow, c.in_ok-entry.ensures.run.unchanged.1.0)

pub found_of-requires-clause-open : goal.found_of-requires-clause-open
found_of-requires-clause-open g c = omega (arith, ints, c.self.invariant.beta.above, c.self.invariant.beta.most, c.in_ok-entry.ensures.run.unchanged.1.1.1)

pub found_of-requires-clause-known : goal.found_of-requires-clause-known
found_of-requires-clause-known g c =
    let same = c.in_ok-entry.ensures.run.unchanged in
    record {
      truth = same_truth _ _ _ _ _ _ c.in_ok-entry.entry (sym same.0) (sym same.1.1.0) (sym same.1.0) c.in_ok-entry.ensures.run.known.truth;
      conclusive = same_window _ _ _ _ c.in_ok-entry.entry refl (omega (arith, ints, c.self.invariant.beta.above, c.self.invariant.beta.most, same.1.1.1)) c.in_ok-entry.ensures.run.known.conclusive;
    }

pub returns-in_err-entry : goal.returns-in_err-entry
returns-in_err-entry g c =
    let s : Inside = c.self.inside in
    let under : IsUnderWay (progress_of c.self.inside) = subst IsUnderWay (sym c.self.view_is) c.requires in
    let chain : IsStack s.stack = (c.self.invariant.ready under.none under.begun).stack in
    let before : left_in s.found s.started (steps_of_tree s.stack) (steps_left s.stack) ≡ steps_left s.stack = rw (under.none, under.begun) refl in
    let after : left_in s.found s.started (steps_of_tree c.run.new.self) (steps_left c.run.new.self) ≡ steps_left c.run.new.self = rw (under.none, under.begun) refl in
    let nothing : c.from_residual.result ≡ None = search rules in
    let run = c.in_err-entry.ensures.run in
    let counts = c.in_err-entry.ensures.counts in
    rw (nothing, ← c.self.view_is) (record {
      finds = record { below = tt; value = tt; best = tt; counted = tt; range = tt };
      slice = record {
        unchanged = (run.unchanged.0, (run.unchanged.1.1.0, (run.unchanged.1.0, run.unchanged.1.1.1)));
        counts = record { all = counts.all; rises = counts.rises; most = counts.most };
        left = omega (arith, before, after, run.fewer);
        fell = omega (arith, before, after, run.fewer, counts.most);
        found = under.none;
        over = tt;
        left_all = tt;
        unfinished = omega (arith, after, left_positive c.run.new.self run.ready.stack);
      };
      calls = record {
        calls = as_counted run.calls refl refl (entered_count s.found s.started s.stack under.none under.begun chain) (entered_count s.found s.started c.run.new.self under.none under.begun run.ready.stack) (omega arith);
        told = tt;
        capacity = run.capacity;
      };
      begun = under.begun;
    })

pub returns : goal.returns
returns g c =
    let under : IsUnderWay (progress_of c.self.inside) = subst IsUnderWay (sym c.self.view_is) c.requires in
    let rest : left_in c.self.inside.found c.self.inside.started (steps_of_tree c.self.inside.stack) (steps_left c.self.inside.stack) ≡ steps_left c.self.inside.stack = rw (under.none, under.begun) refl in
    let run = c.in_ok-entry.ensures.run in
    let counts = c.in_ok-entry.ensures.counts in
    let same = run.unchanged in
    let all : c.run.new.steps ≤ steps_of_tree c.self.inside.stack = omega (arith, rest, c.self.invariant.counted, c.in_ok-entry.ensures.fell) in
    rw (← c.self.view_is) (record {
      finds = finds_by _ _ _ (same_found _ _ _ _ _ _ _ _ c.found_of.result same.0 same.1.1.0 same.1.0 (omega (arith, ints, c.self.invariant.beta.above, c.self.invariant.beta.most, same.1.1.1)) c.found_of.ensures.below)
          c.found_of.ensures.steps (omega (arith, all, c.found_of.ensures.steps));
      slice = ended_by _ _ _ _ (same.0, (same.1.1.0, (same.1.0, same.1.1.1))) counts.rises counts.most (omega (arith, rest, c.in_ok-entry.ensures.fell)) refl refl refl;
      calls = record {
        calls = as_counted run.calls refl refl (entered_count c.self.inside.found c.self.inside.started c.self.inside.stack under.none under.begun (c.self.invariant.ready under.none under.begun).stack) refl (omega arith);
        told = record { entry = c.in_ok-entry.entry; says = c.found_of.ensures.says; enough = run.known.conclusive; last = inl run.told };
        capacity = run.capacity;
      };
      begun = under.begun;
    })

pub run-requires : goal.run-requires
run-requires g c = let under : IsUnderWay (progress_of c.self.inside) = subst IsUnderWay (sym c.self.view_is) c.requires in c.self.invariant.ready under.none under.begun
