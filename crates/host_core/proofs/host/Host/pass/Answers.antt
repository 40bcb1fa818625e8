use Rattle.std.proofs.Common.{◌≡◌, Some, rules, refl, sym, take}
use Rattle.session_slots.specs.Slots.{find, with_session}
use Rattle.host_core.specs.ById.{queued_of}
use Rattle.host_core.specs.Events.{Take, Gave}
use Rattle.host_core.specs.Seen.{passed_from, passed_of}
use Rattle.host_core.specs.Sessions.{Takes}
use Rattle.host_core.specs.Steps.{HostState}
use Rattle.host_core.proofs.Found.{on_found}
use Rattle.host_core.proofs.Kept.{keeps_others, refused_call}
use Rattle.host_core.proofs.Noted.{noted_written}
use Rattle.host_core.proofs.host.Host.pass.Goals as goal

pub returns-clause-taken : goal.returns-clause-taken
returns-clause-taken g c =
    let is : find c.self.inside.slots c.args.id ≡ Some c.in-Some.session.now = sym c.in-Some.ensures.value in
    let old : HostState = record { setup = c.self.inside.setup; table = c.self.inside.table; slots = c.self.inside.slots } in
    let went : Takes c.args.n c.in-Some.session.now (passed_of (take c.args.n (queued_of (find c.self.inside.slots c.args.id))) c.pass-passed.result) c.pass-passed.new.session = rw is c.pass-passed.ensures.taken in
    rw (← c.self.view_is)
    (on_found (Takes c.args.n) old c.self.inside.table c.args.id c.in-Some.session.now c.pass-passed.new.session (passed_from old c.args.id c.args.n c.pass-passed.result) is went, refl)

pub returns-clause-others : goal.returns-clause-others
returns-clause-others g c = λ id n.
    let new : HostState = record { setup = c.self.inside.setup; table = c.self.inside.table; slots = with_session c.self.inside.slots c.args.id c.pass-passed.new.session } in
    keeps_others c.args.self.now new (Take c.args.id c.args.n) (passed_from c.args.self.now c.args.id c.args.n c.pass-passed.result) (returns-clause-taken g c) id n

pub returns-clause-err : goal.returns-clause-err
returns-clause-err g c = refused_call (λ _. Gave (take c.args.n (queued_of (find c.args.self.now.slots c.args.id)))) c.args.self.now _ (Take c.args.id c.args.n) c.pass-passed.result (λ _. refl) (returns-clause-taken g c)

pub invariant_of-self-2 : goal.invariant_of-self-2
invariant_of-self-2 g c =
    rw (c.set.ensures, c.of.ensures)
    (noted_written c.self.inside.notes.items c.self.inside.slots c.args.id c.in-Some.session.now c.pass-passed.new.session (search rules) c.self.invariant)
