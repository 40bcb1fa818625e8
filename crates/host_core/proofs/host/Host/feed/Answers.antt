use Rattle.std.proofs.Common.{◌≡◌, Some, None, refl, rules, sym}
use Rattle.session_slots.specs.Slots.{find}
use Rattle.session_slots.proofs.Finds.{find-with_session-other}
use Rattle.host_core.specs.Events.{Feed, Done}
use Rattle.host_core.specs.Seen.{done_of}
use Rattle.host_core.specs.Sessions.{Feeds}
use Rattle.host_core.proofs.Found.{on_found, on_none}
use Rattle.host_core.proofs.Kept.{refused_call}
use Rattle.host_core.proofs.Noted.{noted_written}
use Rattle.host_core.proofs.host.Host.feed.Goals as goal

pub returns-clause-fed : goal.returns-clause-fed
returns-clause-fed g c =
    let is : find c.self.inside.slots c.args.id ≡ Some c.in-Some.session.now = sym c.in-Some.ensures.value in
    rw (← c.self.view_is)
    (on_found (Feeds c.args.chunk.now) (record { setup = c.self.inside.setup; table = c.self.inside.table; slots = c.self.inside.slots }) c.self.inside.table c.args.id c.in-Some.session.now c.feed-fed.new.session (done_of c.feed-fed.result) is c.feed-fed.ensures, refl)

pub returns-clause-others : goal.returns-clause-others
returns-clause-others g c =
    let is : find c.self.inside.slots c.args.id ≡ Some c.in-Some.session.now = sym c.in-Some.ensures.value in
    rw (← c.self.view_is)
    (λ other differs. find-with_session-other c.self.inside.slots c.args.id other c.in-Some.session.now c.feed-fed.new.session is differs)

pub returns-clause-err : goal.returns-clause-err
returns-clause-err g c = refused_call (λ _. Done) c.args.self.now _ (Feed c.args.id c.args.chunk.now) c.feed-fed.result (λ _. refl) (returns-clause-fed g c)

pub returns-in_default-clause-others : goal.returns-in_default-clause-others
returns-in_default-clause-others g c = rw (← c.self.view_is) (λ other differs. refl)

pub returns-in_default-clause-fed : goal.returns-in_default-clause-fed
returns-in_default-clause-fed g c =
    let is : find c.self.inside.slots c.args.id ≡ None = search rules in
    rw (← c.self.view_is)
    (on_none (Feeds c.args.chunk.now) (record { setup = c.self.inside.setup; table = c.self.inside.table; slots = c.self.inside.slots }) c.args.id is, refl)

pub returns-in_default-clause-err : goal.returns-in_default-clause-err
returns-in_default-clause-err g c = c.self.view_is

pub invariant_of-self-2 : goal.invariant_of-self-2
invariant_of-self-2 g c =
    let is : find c.self.inside.slots c.args.id ≡ Some c.in-Some.session.now = sym c.in-Some.ensures.value in
    rw (c.set.ensures, c.of.ensures)
    (noted_written c.self.inside.notes.items c.self.inside.slots c.args.id c.in-Some.session.now c.feed-fed.new.session is c.self.invariant)
