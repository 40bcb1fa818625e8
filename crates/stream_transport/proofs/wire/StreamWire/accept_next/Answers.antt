use Rattle.std.specs.Prelude.{vec_len}
use Rattle.std.proofs.Common.{◌≡◌, arith, length, [], ◌∷◌, Ok, Err, Some, refl, inr}
use Rattle.transport.specs.declared.wire.WireFault.TheVariants.{OutOfMemory}
use Rattle.std.specs.Io.KnownBytes.{Keeps}
use Rattle.transport.proofs.Reported.{kept_same}
use Rattle.stream_transport.specs.Held.{given_under}
use Rattle.stream_transport.specs.Streams.{KeepsElse, answer_of}
use Rattle.stream_transport.specs.declared.listener.ListenerCall.TheVariants.{Accept}
use Rattle.stream_transport.proofs.Asked.{asked_no_next}
use Rattle.stream_transport.proofs.Outcomes.{passed_on, cause_of_ok, crowded, not_below}
use Rattle.stream_transport.proofs.Placing.{first_taken}
use Rattle.stream_transport.proofs.Reports.{alike_keeps, comes}
use Rattle.stream_transport.proofs.Waking.{accepted_alike, accepted_one, same_alike, still_comes, still_same, still_then}
use Rattle.stream_transport.proofs.wire.StreamWire.accept_next.Goals as goal

-- the stream has the bytes told of its number
pub returns-in-Ok-clause-unchanged : goal.returns-in-Ok-clause-unchanged
returns-in-Ok-clause-unchanged g c =
    let told = g.L.Listener.told in
    let left = g.L.Stream.ByteStream.unread in
    let taken = g.L.Stream.ByteStream.written in
    let old = c.args.self.now in
    let new = c.new.result in
    let given : Keeps ((told old.listener).unread new.number) (left new.stream) × Keeps ((told old.listener).written new.number) (taken new.stream) = rw (c.new.ensures.number, c.new.ensures.stream) c.in-Ok.ensures.given in
    let rest : KeepsElse (told old.listener) (told c.accept.new.self) new.number = rw c.new.ensures.number c.in-Ok.ensures.rest in
    comes left taken (given_under old.given.items) (told old.listener) (told c.accept.new.self) old.places.items c.free_place.new.places.items c.insert.new.places.items new.number new (same_alike old.places.items c.free_place.new.places.items c.free_place.ensures.same) c.insert.ensures.if_none c.insert.ensures.held c.insert.ensures.others given rest c.new.ensures.kept

-- all places are taken
pub returns-then-place-clause-cause : goal.returns-then-place-clause-cause
returns-then-place-clause-cause g c = (c.fault.ensures.rises, λ e. c.fault.ensures.risen)

pub returns-then-place-clause-asks : goal.returns-then-place-clause-asks
returns-then-place-clause-asks g c = asked_no_next (length c.free_place.new.places.items) (g.L.Listener.asked c.args.self.now.listener) (g.L.Listener.asked c.args.self.now.listener) c.fault.result refl (rw c.fault.ensures.device (crowded c.in_ok-place.place (vec_len c.free_place.new.places) (length c.free_place.new.places.items) c.if-place.true c.in_ok-place.ensures.room (omega (arith, c.free_place.new.places.ok))))

pub returns-then-place-clause-awake : goal.returns-then-place-clause-awake
returns-then-place-clause-awake g c = still_same c.args.self.now.places.items c.free_place.new.places.items c.free_place.ensures.same

pub returns-then-place-clause-holds : goal.returns-then-place-clause-holds
returns-then-place-clause-holds g c = same_alike c.args.self.now.places.items c.free_place.new.places.items c.free_place.ensures.same

pub returns-then-place-clause-unchanged : goal.returns-then-place-clause-unchanged
returns-then-place-clause-unchanged g c =
    let told = g.L.Listener.told in
    let old = c.args.self.now in
    alike_keeps g.L.Stream.ByteStream.unread g.L.Stream.ByteStream.written (given_under old.given.items) (told old.listener) (told old.listener) old.places.items c.free_place.new.places.items (same_alike old.places.items c.free_place.new.places.items c.free_place.ensures.same) (kept_same (told old.listener))

-- the listener failed
pub returns-in_default-clause-cause : goal.returns-in_default-clause-cause
returns-in_default-clause-cause g c = (c.fault-in_default.ensures.rises, λ e. c.fault-in_default.ensures.risen)

pub returns-in_default-clause-asks : goal.returns-in_default-clause-asks
returns-in_default-clause-asks g c = record {
  asks = Accept (answer_of c.accept.result) ∷ [];
  asked = c.accept.ensures.asked;
  due = rw c.in-Err.is (inr (c.in-Err.cause, (c.in_default.not-WouldBlock, refl)));
}

pub returns-in_default-clause-named : goal.returns-in_default-clause-named
returns-in_default-clause-named g c = c.accept.ensures.named

pub returns-in_default-clause-awake : goal.returns-in_default-clause-awake
returns-in_default-clause-awake g c = still_same c.args.self.now.places.items c.free_place.new.places.items c.free_place.ensures.same

pub returns-in_default-clause-holds : goal.returns-in_default-clause-holds
returns-in_default-clause-holds g c = same_alike c.args.self.now.places.items c.free_place.new.places.items c.free_place.ensures.same

pub returns-in_default-clause-unchanged : goal.returns-in_default-clause-unchanged
returns-in_default-clause-unchanged g c =
    let told = g.L.Listener.told in
    let old = c.args.self.now in
    alike_keeps g.L.Stream.ByteStream.unread g.L.Stream.ByteStream.written (given_under old.given.items) (told old.listener) (told c.accept.new.self) old.places.items c.free_place.new.places.items (same_alike old.places.items c.free_place.new.places.items c.free_place.ensures.same) c.in-Err.ensures.err

-- memory ran out for a place
pub returns-in_err-place-clause-awake : goal.returns-in_err-place-clause-awake
returns-in_err-place-clause-awake g c = still_same c.args.self.now.places.items c.free_place.new.places.items c.free_place.ensures.same

pub returns-in_err-place-clause-unchanged : goal.returns-in_err-place-clause-unchanged
returns-in_err-place-clause-unchanged g c =
    let told = g.L.Listener.told in
    let old = c.args.self.now in
    alike_keeps g.L.Stream.ByteStream.unread g.L.Stream.ByteStream.written (given_under old.given.items) (told old.listener) (told old.listener) old.places.items c.free_place.new.places.items (same_alike old.places.items c.free_place.new.places.items c.free_place.ensures.same) (kept_same (told old.listener))

-- the stream gets its number
pub number_at-number-requires-clause-place : goal.number_at-number-requires-clause-place
number_at-number-requires-clause-place g c = c.if-place.false

pub insert-requires-clause-room : goal.insert-requires-clause-room
insert-requires-clause-room g c = rw (c.new.ensures.number, c.number_at-number.ensures.place) c.in_ok-place.ensures.room

pub insert-requires-clause-free : goal.insert-requires-clause-free
insert-requires-clause-free g c = rw (c.new.ensures.number, c.number_at-number.ensures.place) c.in_ok-place.ensures.free

pub returns-in-Ok-clause-cause : goal.returns-in-Ok-clause-cause
returns-in-Ok-clause-cause g c = cause_of_ok _ c.args.self.now.failed c.args.self.now.failed (not_below c.args.self.now.failed)

pub returns-in-Ok-clause-asks : goal.returns-in-Ok-clause-asks
returns-in-Ok-clause-asks g c = record { asks = Accept (answer_of c.accept.result) ∷ []; asked = c.accept.ensures.asked; due = rw c.in-Ok.is refl }

pub returns-in-Ok-clause-named : goal.returns-in-Ok-clause-named
returns-in-Ok-clause-named g c = c.accept.ensures.named

pub returns-in-Ok-clause-awake : goal.returns-in-Ok-clause-awake
returns-in-Ok-clause-awake g c = still_then c.args.self.now.places.items c.free_place.new.places.items c.insert.new.places.items (still_same c.args.self.now.places.items c.free_place.new.places.items c.free_place.ensures.same) (still_comes c.free_place.new.places.items c.insert.new.places.items c.new.result.number c.insert.ensures.others c.insert.ensures.if_none (rw c.insert.ensures.held c.new.ensures.awake))

-- no client waits
pub returns-in-WouldBlock-clause-cause : goal.returns-in-WouldBlock-clause-cause
returns-in-WouldBlock-clause-cause g c = cause_of_ok _ c.args.self.now.failed c.args.self.now.failed (not_below c.args.self.now.failed)

pub returns-in-WouldBlock-clause-asks : goal.returns-in-WouldBlock-clause-asks
returns-in-WouldBlock-clause-asks g c = record { asks = Accept (answer_of c.accept.result) ∷ []; asked = c.accept.ensures.asked; due = rw (c.in-Err.is, c.in-WouldBlock.is) refl }

pub returns-in-WouldBlock-clause-named : goal.returns-in-WouldBlock-clause-named
returns-in-WouldBlock-clause-named g c = c.accept.ensures.named

pub returns-in-WouldBlock-clause-awake : goal.returns-in-WouldBlock-clause-awake
returns-in-WouldBlock-clause-awake g c = still_same c.args.self.now.places.items c.free_place.new.places.items c.free_place.ensures.same

pub returns-in-WouldBlock-clause-holds : goal.returns-in-WouldBlock-clause-holds
returns-in-WouldBlock-clause-holds g c = same_alike c.args.self.now.places.items c.free_place.new.places.items c.free_place.ensures.same

pub returns-in-WouldBlock-clause-unchanged : goal.returns-in-WouldBlock-clause-unchanged
returns-in-WouldBlock-clause-unchanged g c =
    let told = g.L.Listener.told in
    let old = c.args.self.now in
    alike_keeps g.L.Stream.ByteStream.unread g.L.Stream.ByteStream.written (given_under old.given.items) (told old.listener) (told c.accept.new.self) old.places.items c.free_place.new.places.items (same_alike old.places.items c.free_place.new.places.items c.free_place.ensures.same) c.in-Err.ensures.err

pub returns-in-Ok-clause-holds : goal.returns-in-Ok-clause-holds
returns-in-Ok-clause-holds g c = accepted_alike (Ok (Some c.number_at-number.result)) c.args.self.now.places.items c.free_place.new.places.items c.insert.new.places.items (same_alike c.args.self.now.places.items c.free_place.new.places.items c.free_place.ensures.same) (accepted_one c.free_place.new.places.items c.insert.new.places.items c.number_at-number.result c.new.result.number c.new.result c.new.ensures.number c.insert.ensures.held c.insert.ensures.others)

pub returns-in_err-place-clause-holds : goal.returns-in_err-place-clause-holds
returns-in_err-place-clause-holds g c =
    let failed : c.from_residual.result ≡ Err OutOfMemory = passed_on c.from_residual.result c.in_err-place.field-0.0 OutOfMemory c.from_residual.ensures.1 c.in_err-place.ensures.memory in
    rw failed (same_alike c.args.self.now.places.items c.free_place.new.places.items c.free_place.ensures.same)

pub returns-in_err-place-clause-asks : goal.returns-in_err-place-clause-asks
returns-in_err-place-clause-asks g c =
    let failed : c.from_residual.result ≡ Err OutOfMemory = passed_on c.from_residual.result c.in_err-place.field-0.0 OutOfMemory c.from_residual.ensures.1 c.in_err-place.ensures.memory in
    rw failed (asked_no_next (length c.free_place.new.places.items) (g.L.Listener.asked c.args.self.now.listener) (g.L.Listener.asked c.args.self.now.listener) OutOfMemory refl tt)

-- the new connection has the first free place
pub returns-in-Ok-clause-first : goal.returns-in-Ok-clause-first
returns-in-Ok-clause-first g c = first_taken c.free_place.new.places.items c.insert.new.places.items c.number_at-number.result c.in_ok-place.place c.new.result.number (Some c.new.result) c.number_at-number.ensures.place c.new.ensures.number c.insert.ensures.place c.in_ok-place.ensures.least
