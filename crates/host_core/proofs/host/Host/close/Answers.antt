use Rattle.std.proofs.Common.{◌≡◌, ◌∙◌, refl, sym, ap}
use Rattle.std.specs.Prelude.{◌+◌}
use Rattle.session_slots.specs.Slots.{OpenSessions, count, find}
use Rattle.usi_session.specs.Due.{SessionView}
use Rattle.host_core.specs.Steps.{HostState}
use Rattle.host_core.proofs.Found.{closed_found, closed_none, on_some}
use Rattle.host_core.proofs.Noted.{noted_closed}
use Rattle.host_core.proofs.host.Host.close.Goals as goal

pub invariant_of-self : goal.invariant_of-self
invariant_of-self g c =
    rw c.set.ensures
    (noted_closed c.self.inside.notes.items c.self.inside.slots c.close.new.self c.args.id (rw c.close.ensures.value at c.in-Some.ensures.some) c.close.ensures.if_none c.close.ensures.others c.self.invariant)

pub returns-in-Some-clause-closed : goal.returns-in-Some-clause-closed
returns-in-Some-clause-closed g c =
    rw (← c.self.view_is)
    (closed_found _ _ c.args.id _ c.close.result (sym c.close.ensures.value) c.in-Some.ensures.some (record {
      done = refl;
      none = c.close.ensures.if_none;
      others = c.close.ensures.others;
      max_is = c.close.ensures.unchanged.0;
      next_is = c.close.ensures.unchanged.1;
      count_is = on_some c.close.result (count c.close.new.self + 1 ≡ count c.self.inside.slots) c.in-Some.ensures.some c.close.ensures.count;
      table_is = refl;
      setup_is = refl;
    }))

pub returns-in-Some-clause-others : goal.returns-in-Some-clause-others
returns-in-Some-clause-others g c = rw (← c.self.view_is) c.close.ensures.others

pub returns-in-None-clause-err : goal.returns-in-None-clause-err
returns-in-None-clause-err g c =
    let same = ap (λ (s : OpenSessions SessionView). (let h : HostState = record { setup = c.self.inside.setup; table = c.self.inside.table; slots = s } in h)) (rw c.in-None.ensures.if_none at c.close.ensures.absent) in
    same ∙ c.self.view_is

pub returns-in-None-clause-closed : goal.returns-in-None-clause-closed
returns-in-None-clause-closed g c =
    closed_none _ _ c.args.id (ap (λ (h : HostState). find h.slots c.args.id) (sym c.self.view_is) ∙ (sym c.close.ensures.value ∙ c.in-None.ensures.if_none)) (returns-in-None-clause-err g c)

pub returns-in-None-clause-others : goal.returns-in-None-clause-others
returns-in-None-clause-others g c = rw (← c.self.view_is) c.close.ensures.others
