use Rattle.std.proofs.Common.{arith, refl, ◌+◌, ◌≤◌}
use Rattle.shogi_search.specs.Stack.{steps_left}
use Rattle.shogi_search.proofs.Places.{left_positive}
use Rattle.shogi_search.proofs.Runs.{no_run, run_and_step, run_as}
use Rattle.shogi_search.proofs.stack.Stack.run.Goals as goal

pub returns-in-Some-clause-fell : goal.returns-in-Some-clause-fell
returns-in-Some-clause-fell g c =
    let left : steps_left c.steps.self + c.steps.made ≤ steps_left c.args.self.now = c.steps.invariant.run.fewer in
    omega (arith, c.saturating_add.ensures, left, c.steps.invariant.counted, left_positive c.steps.self c.steps.invariant.run.ready.stack)

pub steps-init : goal.steps-init
steps-init g c = record { run = no_run g.M.Memo _ _ _ c.requires; within = omega arith; counted = refl }

pub step-requires : goal.step-requires
step-requires g c = c.steps.invariant.run.ready

pub steps-preserved : goal.steps-preserved
steps-preserved g c = record {
  run = run_and_step g.M.Memo _ _ _ _ _ _ _ _ _ _ _ c.steps.invariant.run c.in_default.ensures refl refl;
  within = omega arith;
  counted = c.steps.invariant.counted;
}

pub returns-in-Some-clause-run : goal.returns-in-Some-clause-run
returns-in-Some-clause-run g c = run_and_step g.M.Memo _ _ _ _ _ _ _ _ _ _ _ c.steps.invariant.run c.in-Some.ensures (omega (arith, c.saturating_add.ensures, c.steps.invariant.counted)) tt

pub returns-clause-run : goal.returns-clause-run
returns-clause-run g c = run_as g.M.Memo _ _ _ _ _ _ _ _ _ c.steps.invariant.run (omega (arith, c.saturating_add-2.ensures, c.steps.invariant.counted)) (omega arith)
