use Rattle.std.proofs.Common.{subst, sym, ◌≡◌, ◌≤◌, rules, refl, arith, inl}
use Rattle.std.proofs.lemmas.Int.{ints}
use Rattle.minimax.specs.Minimax.{tree_size, negated}
use Rattle.minimax.specs.declared.bounds.TheConstants.{INFINITY}
use Rattle.shogi_search.proofs.CallLaws.{as_counted, ends_at_once, stays, tells_note, told_in_step}
use Rattle.shogi_search.proofs.Entries.{same_found, same_window}
use Rattle.shogi_search.proofs.Searches.{known_found}
use Rattle.shogi_search.proofs.SliceLaws.{ended_by, finds_by}
use Rattle.minimax.proofs.MinimaxLaws.{tree_size-positive}
use Rattle.shogi_search.specs.SlicedSearch.{left_in, progress_of, steps_of_tree}
use Rattle.shogi_search.specs.Progress.{IsFresh}
use Rattle.shogi_search.specs.Stack.{steps_left}
use Rattle.shogi_search.proofs.sliced_search.Search.answer_root.Goals as goal

pub invariant_of-self : goal.invariant_of-self
invariant_of-self g c =
    let s = c.self.inside in
    let fresh : IsFresh (progress_of s) = subst IsFresh (sym c.self.view_is) c.requires.fresh in
    let left : left_in s.found s.started (steps_of_tree s.stack) (steps_left s.stack) ≡ steps_of_tree s.stack = rw (fresh.none, fresh.unstarted) refl in
    record {
      shallow = c.self.invariant.shallow;
      beta = c.self.invariant.beta;
      known = known_found _ c.found_of.result _ refl (omega (arith, ints)) c.found_of.ensures.below c.found_of.ensures.steps;
      ready = λ e. absurd (cc);
      counted = omega (arith, left, c.self.invariant.counted, tree_size-positive s.stack.root s.stack.depth, c.saturating_add-self-inside.ensures);
    }

pub returns : goal.returns
returns g c =
    let s = c.self.inside in
    let fresh : IsFresh (progress_of s) = subst IsFresh (sym c.self.view_is) c.requires.fresh in
    let some : 1 ≤ tree_size s.stack.root s.stack.depth = tree_size-positive s.stack.root s.stack.depth in
    let left : left_in s.found s.started (steps_of_tree s.stack) (steps_left s.stack) ≡ steps_of_tree s.stack = rw (fresh.none, fresh.unstarted) refl in
    let zero : s.steps ≡ 0 = omega (arith, left, c.self.invariant.counted) in
    let steps = c.saturating_add-self-inside.ensures in
    rw (← c.self.view_is) (record {
      finds = finds_by _ _ _ (same_found _ _ _ _ _ _ _ _ c.found_of.result refl refl refl (omega (arith, ints)) c.found_of.ensures.below) c.found_of.ensures.steps
          (omega (arith, zero, some, c.found_of.ensures.steps, steps));
      slice = ended_by _ _ _ _ (refl, (refl, (refl, refl))) (omega (arith, zero)) (omega (arith, steps)) (omega (arith, zero, some, left, steps)) refl refl refl;
      calls = record {
        calls = as_counted (told_in_step {x = 0} 0 (tells_note g.M.Memo.called _ _ _ _ _ _ c.note.ensures.called) (stays g.M.Memo.called _ 0 0 0 0 refl) steps (omega arith) (omega arith))
            refl refl (rw (fresh.none, fresh.unstarted) refl) refl (omega arith);
        told = record {
          entry = c.answer_at_once-entry.result;
          says = c.found_of.ensures.says;
          enough = same_window _ (negated INFINITY) _ s.stack.beta c.answer_at_once-entry.result (omega (arith, ints)) (omega (arith, ints)) c.answer_at_once-entry.ensures.conclusive;
          last = inl (ends_at_once c.note.ensures.called);
        };
        capacity = c.note.ensures.capacity;
      };
      some = search rules;
    })
