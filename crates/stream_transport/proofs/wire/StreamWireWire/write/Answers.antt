use Rattle.std.proofs.Common.{arith, ap, ℕ, Err, ◌≡◌, ◌<◌, ◌%◌, sym, subst, ◌∙◌}
use Rattle.std.specs.Prelude.{vec_len}
use Rattle.transport.specs.declared.wire.WireFault.TheVariants.{Device}
use Rattle.stream_transport.specs.Held.{IsFree, given_under, held}
use Rattle.stream_transport.specs.declared.connection.TheConstants.{PLACES}
use Rattle.stream_transport.proofs.Outcomes.{counted_none}
use Rattle.stream_transport.proofs.Placing.{held_as, none_writes, of_held, of_none, others_then}
use Rattle.stream_transport.proofs.Reports.{writes_held, writes_missing}
use Rattle.stream_transport.proofs.wire.StreamWireWire.write.Goals as goal

-- no connection is held under this number
pub returns-in_default-clause-written : goal.returns-in_default-clause-written
returns-in_default-clause-written g c =
    let told = g.L.Listener.told in
    writes_missing g.L.Stream.ByteStream.unread g.L.Stream.ByteStream.written (given_under c.args.self.now.given.items) (told c.args.self.now.listener) (told c.tell.new.listener) c.args.self.now.places.items c.remove.new.places.items c.args.number _ c.args.buf.now (sym c.remove.ensures.out ∙ c.in_default.is) c.remove.ensures.if_none c.remove.ensures.others c.tell.ensures.noted

pub returns-in_default-clause-cause : goal.returns-in_default-clause-cause
returns-in_default-clause-cause g c = c.tell.ensures.cause

pub returns-in_default-clause-asks : goal.returns-in_default-clause-asks
returns-in_default-clause-asks g c = c.tell.ensures.asks

pub returns-in_default-clause-takes : goal.returns-in_default-clause-takes
returns-in_default-clause-takes g c = of_none _ (held c.args.self.now.places.items c.args.number) _ (sym c.remove.ensures.out ∙ c.in_default.is)

pub returns-in_default-clause-came : goal.returns-in_default-clause-came
returns-in_default-clause-came g c = of_none _ (held c.args.self.now.places.items c.args.number) _ (sym c.remove.ensures.out ∙ c.in_default.is)

pub returns-in_default-clause-readiness : goal.returns-in_default-clause-readiness
returns-in_default-clause-readiness g c = none_writes c.args.self.now.readiness (held c.remove.new.places.items c.args.number) (Err Device) c.remove.ensures.if_none

pub returns-in_default-clause-traffic : goal.returns-in_default-clause-traffic
returns-in_default-clause-traffic g c = ap (λ (n : ℕ). record c.args.self.now.traffic { sent = n }) (counted_none c.args.self.now.traffic.sent (omega arith))

pub returns-in_default-clause-others : goal.returns-in_default-clause-others
returns-in_default-clause-others g c = c.remove.ensures.others

-- the connection is put back into its place
pub insert-requires-clause-room : goal.insert-requires-clause-room
insert-requires-clause-room g c = subst (λ (k : _). k % PLACES < vec_len c.remove.new.places) (sym (c.write-taken.ensures.number ∙ c.in-Some.ensures.number)) c.in-Some.ensures.room

pub insert-requires-clause-free : goal.insert-requires-clause-free
insert-requires-clause-free g c = subst (λ (k : _). IsFree c.remove.new.places.items k) (sym (c.write-taken.ensures.number ∙ c.in-Some.ensures.number)) c.in-Some.ensures.free

pub bytes_written-requires : goal.bytes_written-requires
bytes_written-requires g c = c.write-taken.ensures.within

pub returns-clause-written : goal.returns-clause-written
returns-clause-written g c =
    let same : c.write-taken.new.self.number ≡ c.args.number = c.write-taken.ensures.number ∙ c.in-Some.ensures.number in
    let told = g.L.Listener.told in
    writes_held g.L.Stream.ByteStream.unread g.L.Stream.ByteStream.written (given_under c.args.self.now.given.items) (told c.args.self.now.listener) (told c.tell-2.new.listener) c.args.self.now.places.items c.insert.new.places.items c.args.number c.in-Some.writer c.write-taken.new.self c.write-taken.result c.args.buf.now (sym c.remove.ensures.out ∙ c.in-Some.is) (held_as c.insert.new.places.items c.args.number c.write-taken.new.self.number c.write-taken.new.self same c.insert.ensures.held) (others_then c.args.self.now.places.items c.remove.new.places.items c.insert.new.places.items c.args.number c.write-taken.new.self.number same c.remove.ensures.others c.insert.ensures.others) c.write-taken.ensures.within c.write-taken.ensures.written c.write-taken.ensures.unread c.tell-2.ensures.noted

pub returns-clause-cause : goal.returns-clause-cause
returns-clause-cause g c = c.tell-2.ensures.cause

pub returns-clause-asks : goal.returns-clause-asks
returns-clause-asks g c = c.tell-2.ensures.asks

pub returns-clause-takes : goal.returns-clause-takes
returns-clause-takes g c =
    let same : c.write-taken.new.self.number ≡ c.args.number = c.write-taken.ensures.number ∙ c.in-Some.ensures.number in
    of_held _ (held c.args.self.now.places.items c.args.number) (held c.insert.new.places.items c.args.number) c.in-Some.writer c.write-taken.new.self (sym c.remove.ensures.out ∙ c.in-Some.is) (held_as c.insert.new.places.items c.args.number c.write-taken.new.self.number c.write-taken.new.self same c.insert.ensures.held) c.write-taken.ensures.asked

pub returns-clause-came : goal.returns-clause-came
returns-clause-came g c =
    let same : c.write-taken.new.self.number ≡ c.args.number = c.write-taken.ensures.number ∙ c.in-Some.ensures.number in
    of_held _ (held c.args.self.now.places.items c.args.number) (held c.insert.new.places.items c.args.number) c.in-Some.writer c.write-taken.new.self (sym c.remove.ensures.out ∙ c.in-Some.is) (held_as c.insert.new.places.items c.args.number c.write-taken.new.self.number c.write-taken.new.self same c.insert.ensures.held) c.write-taken.ensures.came

pub returns-clause-readiness : goal.returns-clause-readiness
returns-clause-readiness g c =
    let same : c.write-taken.new.self.number ≡ c.args.number = c.write-taken.ensures.number ∙ c.in-Some.ensures.number in
    rw (held_as c.insert.new.places.items c.args.number c.write-taken.new.self.number c.write-taken.new.self same c.insert.ensures.held) c.note_write.ensures

pub returns-clause-others : goal.returns-clause-others
returns-clause-others g c =
    let same : c.write-taken.new.self.number ≡ c.args.number = c.write-taken.ensures.number ∙ c.in-Some.ensures.number in
    others_then c.args.self.now.places.items c.remove.new.places.items c.insert.new.places.items c.args.number c.write-taken.new.self.number same c.remove.ensures.others c.insert.ensures.others
