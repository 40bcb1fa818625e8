use Rattle.std.proofs.Common.{◌≡◌, ◌≤◌, ◌+◌, ◌-◌, ◌∙◌, ℕ, [], Option, Some, None, refl, sym, arith, rules}
use Rattle.usi_lines.specs.Lines.{ahead}
use Rattle.usi_session.specs.Due.{IsMidSearch, load}
use Rattle.usi_session.proofs.Steps.{keeps_same, keeps_then, made_all, made_on, made_so_far, mid_load, not_enough}
use Rattle.usi_session.proofs.WholeReplies.{grows_then}
use Rattle.usi_session.proofs.TellsLaws.{ended_then_for, none_called, none_ended_for}
use Rattle.usi_session.proofs.session.Session.work.Goals as goal

-- `Some` is injective
some_of : (n m : ℕ) → Some n ≡ Some m → n ≡ m
some_of n m e = cc

still_all : (budget left n : ℕ) (made : Option ℕ) → left ≡ budget → made ≡ Some n → made ≡ Some 0 → left - n ≡ budget
still_all budget left n made e is none = let zero : n ≡ 0 = some_of n 0 (sym is ∙ none) in omega arith

none_or_some : (made : Option ℕ) → made ≡ None → made ≡ Some 0 → ⊥
none_or_some made e f = let bad : ◌≡◌ {A = Option ℕ} None (Some 0) = sym e ∙ f in cc

none_made : (budget left : ℕ) → left ≡ budget → budget - left ≡ 0
none_made budget left e = omega arith

pub turns-init : goal.turns-init
turns-init g c = record {
  kept = keeps_same _ _ refl;
  within = search rules;
  made = search rules;
  told = none_ended_for _ _ _ _ _ (none_called _ _) (λ x. refl);
  known = λ keeps known. (refl, known);
  capacity = search rules;
}

pub overflow_sub-left : goal.overflow_sub-left
overflow_sub-left g c = rw c.in-Some.is at c.in_ok-made.ensures.most

pub turns-smaller : goal.turns-smaller
turns-smaller g c = rw c.in-Some.is at c.in_ok-made.ensures.fewer

-- the lines of a turn come after those of earlier turns
pub turns-preserved : goal.turns-preserved
turns-preserved g c =
    let most : c.in-Some.made ≤ c.turns.left = rw c.in-Some.is at c.in_ok-made.ensures.most in
    let made : c.in-Some.made + load c.work_once.new.self ≤ load c.turns.self = rw c.in-Some.is at c.in_ok-made.ensures.made in
    record {
      kept = keeps_then _ _ _ c.turns.invariant.kept c.work_once.ensures.kept;
      within = search rules;
      made = made_on c.args.budget c.turns.left (load c.args.self.now) (load c.turns.self) c.in-Some.made (load c.work_once.new.self) c.turns.invariant.made most made;
      told = ended_then_for _ _ _ _ _ _ _ c.turns.invariant.told c.work_once.ensures.told;
      capacity = search rules;
      known = λ keeps known. let so_far = c.turns.invariant.known keeps known in let turn = c.in_ok-made.ensures.known keeps so_far.1 in (still_all c.args.budget c.turns.left c.in-Some.made _ so_far.0 c.in-Some.is turn.0, turn.1);
    }

-- the budget was used up within a search
pub returns-in-None-clause-made : goal.returns-in-None-clause-made
returns-in-None-clause-made g c =
    let spent : c.turns.left + load c.work_once.new.self ≤ load c.turns.self = rw c.in-None.is at c.in_ok-made.ensures.spent in
    made_all c.args.budget c.turns.left (load c.args.self.now) (load c.turns.self) (load c.work_once.new.self) c.turns.invariant.made spent

pub returns-in-None-clause-spent : goal.returns-in-None-clause-spent
returns-in-None-clause-spent g c = λ _. (refl, rw c.in-None.is at c.in_ok-made.ensures.unfinished)

pub returns-in-None-clause-enough : goal.returns-in-None-clause-enough
returns-in-None-clause-enough g c = λ enough.
    let spent : c.turns.left + load c.work_once.new.self ≤ load c.turns.self = rw c.in-None.is at c.in_ok-made.ensures.spent in
    let mid : IsMidSearch c.work_once.new.self.go_task = rw c.in-None.is at c.in_ok-made.ensures.unfinished in
    absurd (not_enough c.args.budget (load c.args.self.now) (load c.work_once.new.self)
    (made_all c.args.budget c.turns.left (load c.args.self.now) (load c.turns.self) (load c.work_once.new.self) c.turns.invariant.made spent)
    (mid_load c.work_once.new.self.state c.work_once.new.self.go_task (ahead c.work_once.new.self.input []) mid) enough)

pub returns-in-None-clause-due : goal.returns-in-None-clause-due
returns-in-None-clause-due g c = λ x. c.work_once.ensures.kept.due_is x ∙ c.turns.invariant.kept.due_is x

pub returns-in-None-clause-after : goal.returns-in-None-clause-after
returns-in-None-clause-after g c = λ x. c.work_once.ensures.kept.after_is x ∙ c.turns.invariant.kept.after_is x

-- nothing is pending any more
pub overflow_sub-result : goal.overflow_sub-result
overflow_sub-result g c = c.turns.invariant.within

pub returns-clause-made : goal.returns-clause-made
returns-clause-made g c = made_so_far c.args.budget c.turns.left (load c.args.self.now) (load c.turns.self) c.turns.invariant.within c.turns.invariant.made

pub returns-clause-enough : goal.returns-clause-enough
returns-clause-enough g c = λ _. sym c.pending.ensures ∙ c.turns-test.false

pub returns-clause-due : goal.returns-clause-due
returns-clause-due g c = c.turns.invariant.kept.due_is

pub returns-clause-after : goal.returns-clause-after
returns-clause-after g c = c.turns.invariant.kept.after_is

pub returns-in-None-clause-grown : goal.returns-in-None-clause-grown
returns-in-None-clause-grown g c = grows_then c.turns.invariant.kept.grown c.work_once.ensures.kept.grown

pub returns-in-None-clause-told : goal.returns-in-None-clause-told
returns-in-None-clause-told g c = ended_then_for _ _ _ _ _ _ _ c.turns.invariant.told c.work_once.ensures.told

pub returns-in_err-made-clause-told : goal.returns-in_err-made-clause-told
returns-in_err-made-clause-told g c = ended_then_for _ _ _ _ _ _ _ c.turns.invariant.told c.work_once.ensures.told

pub returns-in-None-clause-known : goal.returns-in-None-clause-known
returns-in-None-clause-known g c = λ keeps known.
    absurd (none_or_some _ c.in-None.is (c.in_ok-made.ensures.known keeps (c.turns.invariant.known keeps known).1).0)

pub returns-clause-known : goal.returns-clause-known
returns-clause-known g c = λ keeps known.
    (none_made c.args.budget c.turns.left (c.turns.invariant.known keeps known).0, sym c.pending.ensures ∙ c.turns-test.false)
