use Rattle.std.proofs.Common.{◌∙◌, refl, ap}
use Rattle.session_slots.specs.Slots.{OpenSessions}
use Rattle.usi_session.specs.Due.{SessionView}
use Rattle.host_core.specs.Steps.{HostState}
use Rattle.host_core.proofs.Noted.{noted_opened}
use Rattle.host_core.proofs.host.Host.open.Goals as goal

pub invariant_of-self : goal.invariant_of-self
invariant_of-self g c =
    rw (c.set.ensures, c.of-activity.ensures)
    (noted_opened c.self.inside.notes.items c.self.inside.slots c.open.new.self c.in-Ok.id _ c.in-Ok.ensures.opened c.self.invariant)

pub returns-in-Ok-clause-opened : goal.returns-in-Ok-clause-opened
returns-in-Ok-clause-opened g c =
    rw (← c.self.view_is)
    (record { room = λ full. (let e = c.in-Ok.ensures.full.1 full in absurd (cc)); opens = rw c.with_setup-session.ensures.initial at c.in-Ok.ensures.opened; table_is = refl; setup_is = refl })

pub returns-in-Err-Full-clause-err : goal.returns-in-Err-Full-clause-err
returns-in-Err-Full-clause-err g c =
    let same = ap (λ (s : OpenSessions SessionView). (let h : HostState = record { setup = c.self.inside.setup; table = c.self.inside.table; slots = s } in h)) c.in-Err-Full.ensures.err in
    same ∙ c.self.view_is

pub returns-in-Err-Full-clause-opened : goal.returns-in-Err-Full-clause-opened
returns-in-Err-Full-clause-opened g c =
    let e = rw c.in-Err-Full.field-0-is at c.in-Err-Full.ensures.full in
    let full = e.0 refl in
    (rw (← c.self.view_is) full, returns-in-Err-Full-clause-err g c)

pub returns-in-Err-OutOfMemory-clause-err : goal.returns-in-Err-OutOfMemory-clause-err
returns-in-Err-OutOfMemory-clause-err g c =
    let same = ap (λ (s : OpenSessions SessionView). (let h : HostState = record { setup = c.self.inside.setup; table = c.self.inside.table; slots = s } in h)) c.in-Err-OutOfMemory.ensures.err in
    same ∙ c.self.view_is

pub returns-in-Err-OutOfMemory-clause-opened : goal.returns-in-Err-OutOfMemory-clause-opened
returns-in-Err-OutOfMemory-clause-opened g c =
    let e = rw c.in-Err-OutOfMemory.field-0-is at c.in-Err-OutOfMemory.ensures.full in
    (rw (← c.self.view_is) (λ full. (let no = e.1 full in absurd (cc))), returns-in-Err-OutOfMemory-clause-err g c)
