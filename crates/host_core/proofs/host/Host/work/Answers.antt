use Rattle.std.proofs.Common.{◌≡◌, ◌∙◌, Some, refl, sym, ap}
use Rattle.session_slots.specs.Slots.{OpenSessions, find, with_session}
use Rattle.session_slots.proofs.Finds.{find-with_session-other}
use Rattle.shared_table.specs.Uses.{IsUsed, answers_of}
use Rattle.usi_session.specs.Due.{EndsSearches, SessionView}
use Rattle.usi_session.specs.Known.{IsAllKnown}
use Rattle.host_core.specs.Steps.{NeedsNoStep}
use Rattle.host_core.specs.ById.{pending_of}
use Rattle.host_core.specs.Events.{Worked}
use Rattle.host_core.specs.Seen.{as_outcome}
use Rattle.host_core.specs.Sessions.{Works}
use Rattle.host_core.proofs.Found.{on_found}
use Rattle.host_core.proofs.Shares.{no_step, of_written}
use Rattle.host_core.proofs.Noted.{noted_written}
use Rattle.host_core.proofs.host.Host.work.Goals as goal

pub invariant_of-self-2 : goal.invariant_of-self-2
invariant_of-self-2 g c =
    let is : find c.self.inside.slots c.args.id ≡ Some c.in-Some.session.now = sym c.in-Some.ensures.value in
    rw (c.set.ensures, c.of.ensures)
    (noted_written c.self.inside.notes.items c.self.inside.slots c.args.id c.in-Some.session.now c.work-worked.new.session is c.self.invariant)

pub returns-clause-worked : goal.returns-clause-worked
returns-clause-worked g c =
    let slots : OpenSessions SessionView = c.self.inside.slots in
    let is : find slots c.args.id ≡ Some c.in-Some.session.now = sym c.in-Some.ensures.value in
    rw (← c.self.view_is) (
      on_found (Works c.args.budget) (record { setup = c.self.inside.setup; table = c.self.inside.table; slots = slots }) c.work-worked.new.memo c.args.id c.in-Some.session.now c.work-worked.new.session (as_outcome Worked c.work-worked.result) is c.work-worked.ensures.works,
      record {
        capacity_is = c.work-worked.ensures.capacity;
        idle = λ h. c.work-worked.ensures.idle (sym (ap pending_of is) ∙ h);
        told = of_written (EndsSearches IsUsed c.self.inside.table c.work-worked.new.memo) slots (with_session slots c.args.id c.work-worked.new.session) c.args.id c.in-Some.session.now c.work-worked.new.session is refl c.work-worked.ensures.told;
        known = of_written (λ before after. IsAllKnown (answers_of c.self.inside.table) before → NeedsNoStep (as_outcome Worked c.work-worked.result) after) slots (with_session slots c.args.id c.work-worked.new.session) c.args.id c.in-Some.session.now c.work-worked.new.session is refl
            (no_step c.work-worked.result c.self.inside.table c.in-Some.session.now c.work-worked.new.session c.work-worked.ensures.known);
      },
    )

pub returns-clause-others : goal.returns-clause-others
returns-clause-others g c =
    let is : find c.self.inside.slots c.args.id ≡ Some c.in-Some.session.now = sym c.in-Some.ensures.value in
    rw (← c.self.view_is)
    (λ other differs. find-with_session-other c.self.inside.slots c.args.id other c.in-Some.session.now c.work-worked.new.session is differs)

pub returns-in_default-clause-others : goal.returns-in_default-clause-others
returns-in_default-clause-others g c = rw (← c.self.view_is) (λ other differs. refl)
