use Rattle.std.proofs.Common.{arith, ap, ℕ, List, Ok, Err, ◌≡◌, ◌<◌, ◌%◌, refl, sym, subst, ◌∙◌}
use Rattle.std.specs.Prelude.{vec_len}
use Rattle.transport.specs.declared.wire.Got.TheVariants.{Nothing}
use Rattle.transport.specs.declared.wire.WireFault.TheVariants.{Device}
use Rattle.usi_lines.specs.OneLine.{IsOneLine}
use Rattle.transport.specs.Report.{IsWithin, Reads, bytes_read}
use Rattle.stream_transport.specs.Asking.{GivesKept, IsQuiet, OfHeld}
use Rattle.stream_transport.specs.Held.{HasPassed, IsFree, counted, given_under, held, kept_of, lent_under, reported}
use Rattle.stream_transport.specs.ReadBuffer.{lent_from}
use Rattle.stream_transport.specs.declared.connection.TheConstants.{PLACES}
use Rattle.stream_transport.proofs.Outcomes.{cause_of_ok, counted_none, not_below}
use Rattle.stream_transport.proofs.Placing.{held_as, kept_held, none_kept, none_reads, of_held, of_none, others_then, quiet_asks, quiet_kept, quiet_notes, quiet_passes}
use Rattle.stream_transport.proofs.Reports.{reads_held, reads_missing, reads_none}
use Rattle.stream_transport.proofs.wire.StreamWireWire.read.Goals as goal

-- the connection is quiet
pub returns-then-is_quiet-clause-read : goal.returns-then-is_quiet-clause-read
returns-then-is_quiet-clause-read g c = reads_none _ c.args.number _

pub returns-then-is_quiet-clause-cause : goal.returns-then-is_quiet-clause-cause
returns-then-is_quiet-clause-cause g c = cause_of_ok _ c.args.self.now.failed c.args.self.now.failed (not_below c.args.self.now.failed)

pub returns-then-is_quiet-clause-first : goal.returns-then-is_quiet-clause-first
returns-then-is_quiet-clause-first g c =
    let quiet : IsQuiet (held c.args.self.now.places.items c.args.number) = rw c.as_slice.ensures.value at c.is_quiet.ensures c.if-is_quiet.true in
    λ some. absurd (some (quiet_kept (held c.args.self.now.places.items c.args.number) quiet))

pub returns-then-is_quiet-clause-gives : goal.returns-then-is_quiet-clause-gives
returns-then-is_quiet-clause-gives g c =
    let quiet : IsQuiet (held c.args.self.now.places.items c.args.number) = rw c.as_slice.ensures.value at c.is_quiet.ensures c.if-is_quiet.true in
    quiet_asks _ _ (held c.args.self.now.places.items c.args.number) quiet

pub returns-then-is_quiet-clause-came : goal.returns-then-is_quiet-clause-came
returns-then-is_quiet-clause-came g c =
    let quiet : IsQuiet (held c.args.self.now.places.items c.args.number) = rw c.as_slice.ensures.value at c.is_quiet.ensures c.if-is_quiet.true in
    quiet_passes _ (held c.args.self.now.places.items c.args.number) quiet

pub returns-then-is_quiet-clause-readiness : goal.returns-then-is_quiet-clause-readiness
returns-then-is_quiet-clause-readiness g c =
    let quiet : IsQuiet (held c.args.self.now.places.items c.args.number) = rw c.as_slice.ensures.value at c.is_quiet.ensures c.if-is_quiet.true in
    quiet_notes c.args.self.now.readiness (held c.args.self.now.places.items c.args.number) (Ok Nothing) quiet

pub returns-then-is_quiet-clause-traffic : goal.returns-then-is_quiet-clause-traffic
returns-then-is_quiet-clause-traffic g c = ap (λ (n : ℕ). record c.args.self.now.traffic { received = n }) (counted_none c.args.self.now.traffic.received (omega arith))

pub returns-then-is_quiet-clause-others : goal.returns-then-is_quiet-clause-others
returns-then-is_quiet-clause-others g c = λ other apart. refl

-- no connection is held under this number
pub returns-in_default-clause-read : goal.returns-in_default-clause-read
returns-in_default-clause-read g c =
    let told = g.L.Listener.told in
    reads_missing g.L.Stream.ByteStream.unread g.L.Stream.ByteStream.written (given_under c.args.self.now.given.items) (told c.args.self.now.listener) (told c.tell.new.listener) c.args.self.now.places.items c.remove.new.places.items c.args.number _ _ (sym c.remove.ensures.out ∙ c.in_default.is) c.remove.ensures.if_none c.remove.ensures.others c.tell.ensures.noted

pub returns-in_default-clause-cause : goal.returns-in_default-clause-cause
returns-in_default-clause-cause g c = c.tell.ensures.cause

pub returns-in_default-clause-asks : goal.returns-in_default-clause-asks
returns-in_default-clause-asks g c = c.tell.ensures.asks

pub returns-in_default-clause-gives : goal.returns-in_default-clause-gives
returns-in_default-clause-gives g c = of_none _ (held c.args.self.now.places.items c.args.number) _ (sym c.remove.ensures.out ∙ c.in_default.is)

pub returns-in_default-clause-came : goal.returns-in_default-clause-came
returns-in_default-clause-came g c = of_none _ (held c.args.self.now.places.items c.args.number) _ (sym c.remove.ensures.out ∙ c.in_default.is)

pub returns-in_default-clause-first : goal.returns-in_default-clause-first
returns-in_default-clause-first g c = λ some. absurd (some (none_kept (held c.args.self.now.places.items c.args.number) (sym c.remove.ensures.out ∙ c.in_default.is)))

pub returns-in_default-clause-readiness : goal.returns-in_default-clause-readiness
returns-in_default-clause-readiness g c = none_reads c.args.self.now.readiness (held c.remove.new.places.items c.args.number) (Err Device) c.remove.ensures.if_none

pub returns-in_default-clause-traffic : goal.returns-in_default-clause-traffic
returns-in_default-clause-traffic g c = ap (λ (n : ℕ). record c.args.self.now.traffic { received = n }) (counted_none c.args.self.now.traffic.received (omega arith))

pub returns-in_default-clause-others : goal.returns-in_default-clause-others
returns-in_default-clause-others g c = c.remove.ensures.others

-- the connection is put back into its place
pub insert-requires-clause-room : goal.insert-requires-clause-room
insert-requires-clause-room g c = subst (λ (k : _). k % PLACES < vec_len c.remove.new.places) (sym (c.read-got.ensures.number ∙ c.in-Some.ensures.number)) c.in-Some.ensures.room

pub insert-requires-clause-free : goal.insert-requires-clause-free
insert-requires-clause-free g c = subst (λ (k : _). IsFree c.remove.new.places.items k) (sym (c.read-got.ensures.number ∙ c.in-Some.ensures.number)) c.in-Some.ensures.free

-- the bytes lent are those the connection gave
pub returns-clause-within : goal.returns-clause-within
returns-clause-within g c =
    let same : c.read-got.new.self.number ≡ c.args.number = c.read-got.ensures.number ∙ c.in-Some.ensures.number in
    let is : lent_from c.read-got.new.spare c.read-got.new.self.buffer ≡ lent_under c.read-got.new.spare (held c.insert.new.places.items c.args.number) = ap (λ x. lent_under c.read-got.new.spare x) (sym (held_as c.insert.new.places.items c.args.number c.read-got.new.self.number c.read-got.new.self same c.insert.ensures.held)) in
    subst (λ (l : List ℕ). IsWithin c.read-got.result c.args.most l) is c.read-got.ensures.within

pub returns-clause-read : goal.returns-clause-read
returns-clause-read g c =
    let same : c.read-got.new.self.number ≡ c.args.number = c.read-got.ensures.number ∙ c.in-Some.ensures.number in
    let is : lent_from c.read-got.new.spare c.read-got.new.self.buffer ≡ lent_under c.read-got.new.spare (held c.insert.new.places.items c.args.number) = ap (λ x. lent_under c.read-got.new.spare x) (sym (held_as c.insert.new.places.items c.args.number c.read-got.new.self.number c.read-got.new.self same c.insert.ensures.held)) in
    let told = g.L.Listener.told in
    let old = reported g.L.Stream.ByteStream.unread g.L.Stream.ByteStream.written (given_under c.args.self.now.given.items) (told c.args.self.now.listener) c.args.self.now.places.items in
    let new = reported g.L.Stream.ByteStream.unread g.L.Stream.ByteStream.written (given_under c.note_given.new.log.items) (told c.tell-2.new.listener) c.insert.new.places.items in
    subst (λ (l : List ℕ). Reads old new c.args.number c.read-got.result l) is
    (reads_held g.L.Stream.ByteStream.unread g.L.Stream.ByteStream.written (given_under c.args.self.now.given.items) (given_under c.note_given.new.log.items) (told c.args.self.now.listener) (told c.tell-2.new.listener) c.args.self.now.places.items c.insert.new.places.items c.args.number c.in-Some.reader c.read-got.new.self c.read-got.result (lent_from c.read-got.new.spare c.read-got.new.self.buffer) (sym c.remove.ensures.out ∙ c.in-Some.is) (held_as c.insert.new.places.items c.args.number c.read-got.new.self.number c.read-got.new.self same c.insert.ensures.held) (others_then c.args.self.now.places.items c.remove.new.places.items c.insert.new.places.items c.args.number c.read-got.new.self.number same c.remove.ensures.others c.insert.ensures.others) c.read-got.ensures.unread c.read-got.ensures.written c.read-got.ensures.ended c.tell-2.ensures.noted (rw (c.bytes_read-given.ensures, c.lent.ensures) at c.note_given.ensures.given) c.note_given.ensures.others)

pub returns-clause-line : goal.returns-clause-line
returns-clause-line g c =
    let same : c.read-got.new.self.number ≡ c.args.number = c.read-got.ensures.number ∙ c.in-Some.ensures.number in
    let is : lent_from c.read-got.new.spare c.read-got.new.self.buffer ≡ lent_under c.read-got.new.spare (held c.insert.new.places.items c.args.number) = ap (λ x. lent_under c.read-got.new.spare x) (sym (held_as c.insert.new.places.items c.args.number c.read-got.new.self.number c.read-got.new.self same c.insert.ensures.held)) in
    subst (λ (l : List ℕ). IsOneLine (bytes_read c.read-got.result l)) is c.read-got.ensures.line

pub returns-clause-first : goal.returns-clause-first
returns-clause-first g c =
    let same : c.read-got.new.self.number ≡ c.args.number = c.read-got.ensures.number ∙ c.in-Some.ensures.number in
    let is : lent_from c.read-got.new.spare c.read-got.new.self.buffer ≡ lent_under c.read-got.new.spare (held c.insert.new.places.items c.args.number) = ap (λ x. lent_under c.read-got.new.spare x) (sym (held_as c.insert.new.places.items c.args.number c.read-got.new.self.number c.read-got.new.self same c.insert.ensures.held)) in
    subst (λ (l : List ℕ). GivesKept (kept_of c.args.self.now.places.items c.args.number) c.args.most c.read-got.result l) is
    (rw (kept_held (held c.args.self.now.places.items c.args.number) c.in-Some.reader (sym c.remove.ensures.out ∙ c.in-Some.is)) c.read-got.ensures.first)

pub returns-clause-cause : goal.returns-clause-cause
returns-clause-cause g c = c.tell-2.ensures.cause

pub returns-clause-asks : goal.returns-clause-asks
returns-clause-asks g c = c.tell-2.ensures.asks

pub returns-clause-gives : goal.returns-clause-gives
returns-clause-gives g c =
    let same : c.read-got.new.self.number ≡ c.args.number = c.read-got.ensures.number ∙ c.in-Some.ensures.number in
    of_held _ (held c.args.self.now.places.items c.args.number) (held c.insert.new.places.items c.args.number) c.in-Some.reader c.read-got.new.self (sym c.remove.ensures.out ∙ c.in-Some.is) (held_as c.insert.new.places.items c.args.number c.read-got.new.self.number c.read-got.new.self same c.insert.ensures.held) c.read-got.ensures.asked

pub returns-clause-came : goal.returns-clause-came
returns-clause-came g c =
    let same : c.read-got.new.self.number ≡ c.args.number = c.read-got.ensures.number ∙ c.in-Some.ensures.number in
    let is : lent_from c.read-got.new.spare c.read-got.new.self.buffer ≡ lent_under c.read-got.new.spare (held c.insert.new.places.items c.args.number) = ap (λ x. lent_under c.read-got.new.spare x) (sym (held_as c.insert.new.places.items c.args.number c.read-got.new.self.number c.read-got.new.self same c.insert.ensures.held)) in
    subst (λ (l : List ℕ). OfHeld (λ old new. HasPassed g.L.Stream.ByteStream.given old new (bytes_read c.read-got.result l)) (held c.args.self.now.places.items c.args.number) (held c.insert.new.places.items c.args.number)) is
    (of_held _ (held c.args.self.now.places.items c.args.number) (held c.insert.new.places.items c.args.number) c.in-Some.reader c.read-got.new.self (sym c.remove.ensures.out ∙ c.in-Some.is) (held_as c.insert.new.places.items c.args.number c.read-got.new.self.number c.read-got.new.self same c.insert.ensures.held) c.read-got.ensures.came)

pub returns-clause-traffic : goal.returns-clause-traffic
returns-clause-traffic g c =
    let same : c.read-got.new.self.number ≡ c.args.number = c.read-got.ensures.number ∙ c.in-Some.ensures.number in
    let is : lent_from c.read-got.new.spare c.read-got.new.self.buffer ≡ lent_under c.read-got.new.spare (held c.insert.new.places.items c.args.number) = ap (λ x. lent_under c.read-got.new.spare x) (sym (held_as c.insert.new.places.items c.args.number c.read-got.new.self.number c.read-got.new.self same c.insert.ensures.held)) in
    subst (λ (l : List ℕ). record c.args.self.now.traffic { received = c.counted-self.result } ≡ record c.args.self.now.traffic { received = counted c.args.self.now.traffic.received (bytes_read c.read-got.result l) }) is
    (rw (c.lent.ensures) at (rw (c.bytes_read-given.ensures) at (ap (λ (n : ℕ). record c.args.self.now.traffic { received = n }) c.counted-self.ensures)))

pub returns-clause-readiness : goal.returns-clause-readiness
returns-clause-readiness g c =
    let same : c.read-got.new.self.number ≡ c.args.number = c.read-got.ensures.number ∙ c.in-Some.ensures.number in
    rw (held_as c.insert.new.places.items c.args.number c.read-got.new.self.number c.read-got.new.self same c.insert.ensures.held) c.note_read.ensures

pub returns-clause-others : goal.returns-clause-others
returns-clause-others g c =
    let same : c.read-got.new.self.number ≡ c.args.number = c.read-got.ensures.number ∙ c.in-Some.ensures.number in
    others_then c.args.self.now.places.items c.remove.new.places.items c.insert.new.places.items c.args.number c.read-got.new.self.number same c.remove.ensures.others c.insert.ensures.others
