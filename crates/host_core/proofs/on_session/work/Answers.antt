use Rattle.std.proofs.Common.{◌∙◌, refl, sym, arith}
use Rattle.std.proofs.lemmas.Bool.{both_ways}
use Rattle.usi_session.specs.Due.{is_pending}
use Rattle.usi_session.proofs.TellsLaws.{none_called, none_ended_for}
use Rattle.usi_session.proofs.WholeReplies.{grows_by_none}
use Rattle.host_core.proofs.on_session.work.Goals as goal

-- with nothing pending, no search ends
pub returns-then-not-pending-clause-told : goal.returns-then-not-pending-clause-told
returns-then-not-pending-clause-told g c = none_ended_for _ _ _ _ _ (none_called _ _) (λ x. refl)

pub returns-then-not-pending-clause-works : goal.returns-then-not-pending-clause-works
returns-then-not-pending-clause-works g c =
    let none = sym c.pending.ensures ∙ c.if-not-pending.true in
    record {
      owed = λ x. refl;
      after = λ x. refl;
      grown = grows_by_none _;
      most = omega arith;
      made = omega arith;
      spent = λ e. absurd (both_ways (is_pending c.args.session.now) none e);
      enough = λ e. none;
      idle = λ e. (refl, refl);
    }

pub returns-in-Ok-clause-works : goal.returns-in-Ok-clause-works
returns-in-Ok-clause-works g c = record {
  owed = c.work.ensures.due;
  after = c.work.ensures.after;
  grown = c.work.ensures.grown;
  most = c.in-Ok.ensures.most;
  made = c.in-Ok.ensures.made;
  spent = c.in-Ok.ensures.spent;
  enough = c.in-Ok.ensures.enough;
  idle = λ e. absurd (both_ways (is_pending c.args.session.now) e (sym c.pending.ensures ∙ c.if-not-pending.false));
}

pub returns-in-Err-clause-works : goal.returns-in-Err-clause-works
returns-in-Err-clause-works g c = record {
  was_pending = sym c.pending.ensures ∙ c.if-not-pending.false;
  owed = c.work.ensures.due;
  after = c.work.ensures.after;
  grown = c.work.ensures.grown;
  made = c.in-Err.ensures.err;
}

pub returns-in-Ok-clause-idle : goal.returns-in-Ok-clause-idle
returns-in-Ok-clause-idle g c = λ e. absurd (both_ways (is_pending c.args.session.now) e (sym c.pending.ensures ∙ c.if-not-pending.false))

pub returns-in-Err-clause-idle : goal.returns-in-Err-clause-idle
returns-in-Err-clause-idle g c = λ e. absurd (both_ways (is_pending c.args.session.now) e (sym c.pending.ensures ∙ c.if-not-pending.false))

pub returns-then-not-pending-clause-known : goal.returns-then-not-pending-clause-known
returns-then-not-pending-clause-known g c = λ keeps known. (refl, sym c.pending.ensures ∙ c.if-not-pending.true)

pub returns-in-Ok-clause-known : goal.returns-in-Ok-clause-known
returns-in-Ok-clause-known g c = c.in-Ok.ensures.known

pub returns-in-Err-clause-known : goal.returns-in-Err-clause-known
returns-in-Err-clause-known g c = λ keeps known. tt
