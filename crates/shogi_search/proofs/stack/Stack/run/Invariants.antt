use Rattle.std.proofs.Common.{◌≡◌, ◌≤◌, ◌+◌, ◌-◌, ◌^◌, None}
use Rattle.std.specs.Prelude.{min}
use Rattle.shogi_search.specs.Stack.{IsRunOf}
use Rattle.shogi_search.proofs.stack.Stack.run.Given as goal

abbrev pub invariant-steps : goal.invariant-steps
invariant-steps g l = record {
  run : IsRunOf g.M.Memo l.fn.memo l.memo l.fn.steps (min (l.fn.steps + l.made) (2 ^ 64 - 1)) l.made l.fn.self None l.self;
  within : l.made ≤ l.budget;
  counted : l.steps ≡ l.fn.steps;
}

abbrev pub decreases-steps : goal.decreases-steps
decreases-steps g l = l.budget - l.made
