-- Runs of a stack, one step after another.
use Rattle.std.proofs.Common.{◌≡◌, ◌≤◌, ◌+◌, ◌-◌, ◌^◌, ◌∙◌, ℕ, Option, None, refl, arith}
use Rattle.std.specs.Prelude.{IfNone, min}
use Rattle.std.proofs.lemmas.Option.{IfSome_then}
use Rattle.minimax.specs.declared.entry.Entry.{Entry}
use Rattle.search_nodes.specs.declared.frame.Frame.{Frame}
use Rattle.search_nodes.specs.declared.reply_cache.ReplyCache.{ReplyCache}
use Rattle.shogi_search.specs.Stack.{IsReady, IsRunOf, IsStep, KeepsGoal, steps_left}
use Rattle.shogi_search.specs.declared.memo.Memo.{Ghosts}
use Rattle.shogi_search.specs.declared.stack.Stack.{Stack}
use Rattle.shogi_search.proofs.CallLaws.{ends_after, joined, stays}
use Rattle.shogi_search.proofs.Places.{with_cache, with_frame}

-- the goal is kept over two steps
pub kept_on : (s t u : Stack) → KeepsGoal s t → KeepsGoal t u → KeepsGoal s u
kept_on s t u first second = grind arith

-- a run of no step
pub no_run : {M : Type 0} (memory : Ghosts M) (a : M) (steps : ℕ) (s : Stack) → IsReady s
    → IsRunOf memory a a steps (min (steps + 0) (2 ^ 64 - 1)) 0 s None s
no_run memory a steps s ready = record {
  ready = ready;
  fewer = omega arith;
  known = tt;
  unchanged = (refl, (refl, (refl, refl)));
  calls = stays memory.called a steps _ (s.height + 1) 0 refl;
  told = tt;
  capacity = refl;
}

-- a run and one step more
pub run_and_step : {M : Type 0} (memory : Ghosts M) (a b c : M) (steps now made budget : ℕ) (s t u : Stack) (left : Option Entry)
    → IsRunOf memory a b steps (min (steps + made) (2 ^ 64 - 1)) made s None t → IsStep memory b c t left u
    → now ≡ min (steps + (made + 1)) (2 ^ 64 - 1) → IfNone left (budget ≡ made + 1)
    → IsRunOf memory a c steps now budget s left u
run_and_step memory a b c steps now made budget s t u left first second counted all =
    let same : KeepsGoal s t = first.unchanged in
    record {
      ready = second.ready;
      fewer = grind (arith, first.fewer, second.fewer);
      known = IfSome_then left second.known (λ entry k. rw (← same.0, ← same.1.0, ← same.1.1.0, ← same.1.1.1) k);
      unchanged = kept_on s t u same second.unchanged;
      calls = joined steps now _ _ 0 first.calls second.calls (λ m n e f. omega arith) (omega arith) (omega arith);
      told = IfSome_then left second.told (λ entry k. rw (← same.0, ← same.1.0, ← same.1.1.0) (ends_after first.calls k));
      capacity = second.capacity ∙ first.capacity;
    }

-- a run with equal counts
pub run_as : {M : Type 0} (memory : Ghosts M) (a b : M) (steps now now' made budget : ℕ) (s t : Stack)
    → IsRunOf memory a b steps now made s None t → now' ≡ now → budget ≡ made → IsRunOf memory a b steps now' budget s None t
run_as memory a b steps now now' made budget s t k counted all = rw (counted, all) k

-- a step from a changed top, with no more steps left, and another reply cache is a step of the stack
pub step_from : {M : Type 0} (memory : Ghosts M) (a b : M) (s : Stack) (g : Frame) (cache : ReplyCache) (left : Option Entry) (u : Stack)
    → steps_left (with_frame s s.height g) ≤ steps_left s → IsStep memory a b (with_frame (with_cache s cache) s.height g) left u
    → IsStep memory a b s left u
step_from memory a b s g cache left u most k =
    let fewer : IfNone left (steps_left u + 1 ≤ steps_left s) = grind (arith, k.fewer) in
    assumption
