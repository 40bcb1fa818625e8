use Rattle.std.proofs.Common.{rules, ◌≡◌, take}
use Rattle.std.proofs.lemmas.List.{take_all}
use Rattle.host_core.specs.Seen.{answered}
use Rattle.host_core.proofs.Chains.{run-start, run_on}
use Rattle.host_core.proofs.Kept.{keeps_capacity, keeps_setup}
use Rattle.host_core.proofs.OneSession.{made_prefix, made_all, kept}
use Rattle.host_core.proofs.Overs.{kept_over, made_over, opened_over}
use Rattle.host_core.proofs.host.Host.run.Goals as goal

pub loop-event-init : goal.loop-event-init
loop-event-init g c = record { chain = run-start c.args.self.now; count = search rules; room = search rules }

pub loop-event-preserved : goal.loop-event-preserved
loop-event-preserved g c = record {
  chain = run_on c.args.events.now c.loop-event.outcomes.items c.push_reserved.new.self.items c.step-outcome.result c.loop-event.event-index _ _ _ _ c.loop-event-test.true c.loop-event.invariant.count c.loop-event.invariant.chain c.step-outcome.ensures.below c.step-outcome.ensures.stepped c.push_reserved.ensures.items;
  count = search rules;
  room = search rules;
}

pub returns-clause-prefix : goal.returns-clause-prefix
returns-clause-prefix g c = λ id o.
    let all : take c.loop-event.event-index c.args.events.now ≡ c.args.events.now = take_all c.loop-event.event-index c.args.events.now c.loop-event-test.false in
    made_prefix c.args.self.now c.loop-event.self id (answered c.args.events.now c.loop-event.outcomes.items) o (rw all at c.loop-event.invariant.chain)

pub returns-clause-all : goal.returns-clause-all
returns-clause-all g c = λ id o settled.
    let all : take c.loop-event.event-index c.args.events.now ≡ c.args.events.now = take_all c.loop-event.event-index c.args.events.now c.loop-event-test.false in
    made_all c.args.self.now c.loop-event.self id (answered c.args.events.now c.loop-event.outcomes.items) o settled (rw all at c.loop-event.invariant.chain)

pub returns-clause-before : goal.returns-clause-before
returns-clause-before g c = λ id s e.
    let all : take c.loop-event.event-index c.args.events.now ≡ c.args.events.now = take_all c.loop-event.event-index c.args.events.now c.loop-event-test.false in
    (kept c.args.self.now c.loop-event.self id (answered c.args.events.now c.loop-event.outcomes.items) s e (rw all at c.loop-event.invariant.chain)).ends

pub returns-clause-ends : goal.returns-clause-ends
returns-clause-ends g c = λ id o.
    let all : take c.loop-event.event-index c.args.events.now ≡ c.args.events.now = take_all c.loop-event.event-index c.args.events.now c.loop-event-test.false in
    opened_over c.args.self.now c.loop-event.self id (answered c.args.events.now c.loop-event.outcomes.items) o (rw all at c.loop-event.invariant.chain)

pub returns-clause-over : goal.returns-clause-over
returns-clause-over g c = λ id o settled.
    let all : take c.loop-event.event-index c.args.events.now ≡ c.args.events.now = take_all c.loop-event.event-index c.args.events.now c.loop-event-test.false in
    made_over c.args.self.now c.loop-event.self id (answered c.args.events.now c.loop-event.outcomes.items) o settled (rw all at c.loop-event.invariant.chain)

pub returns-clause-ends_on : goal.returns-clause-ends_on
returns-clause-ends_on g c = λ id s e.
    let all : take c.loop-event.event-index c.args.events.now ≡ c.args.events.now = take_all c.loop-event.event-index c.args.events.now c.loop-event-test.false in
    kept_over c.args.self.now c.loop-event.self id (answered c.args.events.now c.loop-event.outcomes.items) s e (rw all at c.loop-event.invariant.chain)

pub returns-clause-capacity : goal.returns-clause-capacity
returns-clause-capacity g c =
    let all : take c.loop-event.event-index c.args.events.now ≡ c.args.events.now = take_all c.loop-event.event-index c.args.events.now c.loop-event-test.false in
    keeps_capacity c.args.self.now c.loop-event.self (answered c.args.events.now c.loop-event.outcomes.items) (rw all at c.loop-event.invariant.chain)

pub returns-clause-setup : goal.returns-clause-setup
returns-clause-setup g c =
    let all : take c.loop-event.event-index c.args.events.now ≡ c.args.events.now = take_all c.loop-event.event-index c.args.events.now c.loop-event-test.false in
    keeps_setup c.args.self.now c.loop-event.self (answered c.args.events.now c.loop-event.outcomes.items) (rw all at c.loop-event.invariant.chain)
