use Rattle.std.proofs.Common.{arith, refl, subst, sym, true, w32, ◌≡◌, ◌<◌, ◌≤◌, ◌+◌, ◌-◌, ◌*◌, ◌^◌, ◌∙◌, ◌≤ℤ◌, ℤ, length}
use Rattle.std.specs.Prelude.{min}
use Rattle.std.proofs.lemmas.Int.{ints}
use mir.Val.{to_z, of_z}
use Rattle.shogi_search.proofs.CallLaws.{as_counted, asks_in_step}
use Rattle.shogi_search.proofs.SearchCallLaws.{entered_count}
use Rattle.shogi_search.proofs.Searches.{end_kept}
use Rattle.search_nodes.specs.declared.frame.Frame.{Frame}
use Rattle.search_nodes.specs.declared.reply_cache.ReplyCache.{ReplyCache}
use Rattle.minimax.specs.Minimax.{negated, tree_size}
use Rattle.minimax.specs.declared.bounds.TheConstants.{INFINITY, SEARCH_DEPTH_MAX}
use Rattle.search_nodes.specs.Changes.{IsAt}
use Rattle.search_nodes.specs.Visits.{IsFree}
use Rattle.search_nodes.specs.ReplyCache.{IsFoundAt}
use Rattle.shogi_search.specs.Stack.{IsReady, steps_left}
use Rattle.shogi_search.specs.Progress.{IsFresh}
use Rattle.shogi_search.specs.declared.sliced_search.Search.TheInside.{Inside}
use Rattle.shogi_search.specs.SlicedSearch.{IsSearch, left_in, progress_of, steps_of_tree}
use Rattle.shogi_search.specs.declared.stack.Stack.{Stack}
use Rattle.shogi_search.proofs.Places.{stack_with, on_with, found_at, with_cache, with_frame, left_begun, left_positive}
use Rattle.shogi_search.proofs.NarrowRoots.{with_bound}
use Rattle.shogi_search.proofs.sliced_search.Search.enter_root.Goals as goal

-- the root just entered is alone on the stack, under its whole window
root_ready : (s : Stack) (bound : ℤ) (cache : ReplyCache) (f : Frame) → s.depth ≤ SEARCH_DEPTH_MAX → bound ≡ s.beta → s.beta ≤ℤ INFINITY → 0 < length s.frames
    → IsAt s.root s.eval s.depth (negated INFINITY) bound f → IsFoundAt f cache → IsFree f.state → IsReady (with_frame (with_cache (with_bound s bound) cache) 0 f)
root_ready s bound cache f shallow whole most room root found free = record {
  stack = stack_with (with_cache (with_bound s bound) cache) 0 f room (omega arith) shallow (omega (arith, ints, whole)) most root found;
  whole = λ _. whole;
  top = on_with (with_cache (with_bound s bound) cache) 0 f (λ (top : Frame). IsFree top.state) room free;
}

pub invariant_of-self : goal.invariant_of-self
invariant_of-self g c =
    let s : Stack = c.self.inside.stack in
    let i : IsSearch c.self.inside = c.self.invariant in
    let fresh : IsFresh (progress_of c.self.inside) = subst IsFresh (sym c.self.view_is) c.requires.fresh in
    let n : Stack = with_cache (with_bound s (to_z w32 (of_z w32 s.beta))) c.unknown-self-inside.result in
    let looked : IsFoundAt c.enter.new.self c.unknown-self-inside.result = found_at c.enter.new.self _ _ c.unknown-self-inside.result (c.enter.ensures.place.position ∙ sym c.as_position.ensures) refl (c.unknown-self-inside.ensures c.enter.new.self.node.eval) in
    let root : IsAt s.root s.eval s.depth (negated INFINITY) n.bound c.enter.new.self = rw (← c.of-node.ensures.position, ← c.of-node.ensures.eval) c.enter.ensures.place in
    let left : steps_left (with_frame n 0 c.enter.new.self) + 1 < 4 * tree_size s.root s.depth = left_begun n c.enter.new.self _ _ _ _ (omega arith) root (rw (← c.of-node.ensures.position) c.enter.ensures.counted) in
    let before : left_in c.self.inside.found c.self.inside.started (steps_of_tree s) (steps_left s) ≡ steps_of_tree s = rw (fresh.none, fresh.unstarted) refl in
    let after : left_in c.self.inside.found true (steps_of_tree s) (steps_left (with_frame n 0 c.enter.new.self)) ≡ steps_left (with_frame n 0 c.enter.new.self) = rw fresh.none refl in
    record {
      shallow = i.shallow;
      beta = i.beta;
      known = λ f e. absurd (cc);
      ready = λ _ _. root_ready s _ c.unknown-self-inside.result c.enter.new.self i.shallow (end_kept s.beta i.beta.above i.beta.most) i.beta.most (omega arith) root looked (rw c.enter.ensures.state tt);
      counted = omega (arith, i.counted, c.saturating_add-self-inside.ensures, left, before, after);
    }

pub returns : goal.returns
returns g c =
    let s : Inside = c.self.inside in
    let fresh : IsFresh (progress_of s) = subst IsFresh (sym c.self.view_is) c.requires.fresh in
    let n : Stack = with_frame (with_cache (with_bound s.stack (to_z w32 (of_z w32 s.stack.beta))) c.unknown-self-inside.result) 0 c.enter.new.self in
    let known = invariant_of-self g c in
    let ready : IsReady n = known.ready fresh.none refl in
    let steps : c.saturating_add-self-inside.result ≡ min (s.steps + 1) (2 ^ 64 - 1) = c.saturating_add-self-inside.ensures in
    let before : left_in s.found s.started (steps_of_tree s.stack) (steps_left s.stack) ≡ steps_of_tree s.stack = rw (fresh.none, fresh.unstarted) refl in
    let after : left_in s.found true (steps_of_tree s.stack) (steps_left n) ≡ steps_left n = rw fresh.none refl in
    rw (← c.self.view_is) (record {
      slice = record {
        unchanged = (refl, (refl, (refl, refl)));
        counts = record { all = steps; rises = omega (arith, steps, c.self.ranges); most = omega (arith, steps) };
        left = omega (arith, steps, before, after, known.counted);
        fell = omega (arith, before, after, known.counted);
        found = fresh.none;
        over = tt;
        left_all = tt;
        unfinished = omega (arith, after, left_positive n ready.stack);
      };
      calls = record {
        calls = as_counted (asks_in_step {x = 0} c.hash_move_of-hash_move.ensures.asks.asked steps (omega arith) (omega arith)) refl refl (rw (fresh.none, fresh.unstarted) refl)
            (entered_count s.found true n fresh.none refl ready.stack) (omega arith);
        told = tt;
        capacity = c.hash_move_of-hash_move.ensures.asks.capacity;
      };
      begun = refl;
    })
