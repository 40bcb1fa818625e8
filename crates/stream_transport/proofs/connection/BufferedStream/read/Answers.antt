use Rattle.std.proofs.Common.{◌≡◌, ◌++◌, ◌≤◌, arith, rules, true, false, length, take, drop, ap, refl, inl, inr, ◌∙◌}
use Rattle.std.proofs.KnownBytes.{Keeps-refl}
use Rattle.std.proofs.lemmas.List.{length-take-le}
use Rattle.stream_transport.specs.ReadBuffer.{lent_from}
use Rattle.stream_transport.proofs.Giving.{filled}
use Rattle.stream_transport.proofs.Reading.{gives_came, gives_kept, gives_none, passes_came, passes_kept, passes_none, some_left}
use Rattle.stream_transport.proofs.connection.BufferedStream.read.Goals as goal

-- no byte is asked for
pub returns-then-most-eq0-clause-unread : goal.returns-then-most-eq0-clause-unread
returns-then-most-eq0-clause-unread g c = gives_none g.S.ByteStream.unread c.args.self.now c.args.self.now refl (Keeps-refl (g.S.ByteStream.unread c.args.self.now.stream))

pub returns-then-most-eq0-clause-came : goal.returns-then-most-eq0-clause-came
returns-then-most-eq0-clause-came g c = passes_none g.S.ByteStream.given c.args.self.now c.args.self.now refl (Keeps-refl (g.S.ByteStream.given c.args.self.now.stream))

pub returns-then-most-eq0-clause-written : goal.returns-then-most-eq0-clause-written
returns-then-most-eq0-clause-written g c = Keeps-refl (g.S.ByteStream.written c.args.self.now.stream)

pub returns-then-most-eq0-clause-asked : goal.returns-then-most-eq0-clause-asked
returns-then-most-eq0-clause-asked g c = record { called = λ may none room. absurd (omega (arith, room)); asleep = λ may kept. (refl, refl); awake = λ may found. may; takes = λ may. may }

-- kept bytes are given
pub returns-then-not-is_empty-clause-unread : goal.returns-then-not-is_empty-clause-unread
returns-then-not-is_empty-clause-unread g c = gives_kept g.S.ByteStream.unread c.args.self.now (record c.args.self.now { buffer = c.give_line.new.self }) (lent_from c.give_line.new.spare c.give_line.new.self) refl c.give_line.ensures.kept

pub returns-then-not-is_empty-clause-came : goal.returns-then-not-is_empty-clause-came
returns-then-not-is_empty-clause-came g c = passes_kept g.S.ByteStream.given c.args.self.now (record c.args.self.now { buffer = c.give_line.new.self }) (lent_from c.give_line.new.spare c.give_line.new.self) refl c.give_line.ensures.kept

pub returns-then-not-is_empty-clause-written : goal.returns-then-not-is_empty-clause-written
returns-then-not-is_empty-clause-written g c = Keeps-refl (g.S.ByteStream.written c.args.self.now.stream)

pub returns-then-not-is_empty-clause-within : goal.returns-then-not-is_empty-clause-within
returns-then-not-is_empty-clause-within g c = (c.give_line.ensures.some (some_left c.args.self.now.buffer.kept c.is_empty.result c.is_empty.ensures.test c.if-not-is_empty.true) (omega arith), c.give_line.ensures.most)

pub returns-then-not-is_empty-clause-asked : goal.returns-then-not-is_empty-clause-asked
returns-then-not-is_empty-clause-asked g c = record { called = λ may none room. absurd (some_left c.args.self.now.buffer.kept c.is_empty.result c.is_empty.ensures.test c.if-not-is_empty.true none); asleep = λ may none. absurd (some_left c.args.self.now.buffer.kept c.is_empty.result c.is_empty.ensures.test c.if-not-is_empty.true none); awake = λ may found. may; takes = λ may. may }

-- the stream is not asked
pub returns-then-not-self-clause-unread : goal.returns-then-not-self-clause-unread
returns-then-not-self-clause-unread g c = gives_none g.S.ByteStream.unread c.args.self.now c.args.self.now refl (Keeps-refl (g.S.ByteStream.unread c.args.self.now.stream))

pub returns-then-not-self-clause-written : goal.returns-then-not-self-clause-written
returns-then-not-self-clause-written g c = Keeps-refl (g.S.ByteStream.written c.args.self.now.stream)

pub returns-then-not-self-clause-asked : goal.returns-then-not-self-clause-asked
returns-then-not-self-clause-asked g c = record {
  called = λ may kept room. absurd (let t : c.args.self.now.readable ≡ true = may in let f : c.args.self.now.readable ≡ false = c.if-not-self.true in cc);
  asleep = λ may kept. (refl, refl);
  awake = λ may found. may;
  takes = λ may. may;
}

pub returns-in-Ok-eq0-clause-asked : goal.returns-in-Ok-eq0-clause-asked
returns-in-Ok-eq0-clause-asked g c =
    let room : c.args.most ≤ length c.deref_mut.result.now = search rules in
    let len : length c.split_at_mut.result.0.now ≡ c.args.most = ap length c.split_at_mut.ensures.front ∙ length-take-le c.args.most c.deref_mut.result.now room in
    record { called = λ may kept room. inr (c.receive.result, (rw len at c.receive.ensures.called, rw c.in-Ok-eq0.is (inl (c.in-Ok-eq0.field-0-test, refl), may))); asleep = λ may kept. absurd (let t : c.args.self.now.readable ≡ true = c.if-not-self.false in let f : c.args.self.now.readable ≡ false = may in cc); awake = λ may found. may; takes = λ may. may }

-- bytes came
pub returns-in-Ok-clause-unread : goal.returns-in-Ok-clause-unread
returns-in-Ok-clause-unread g c =
    let room : c.args.most ≤ length c.deref_mut.result.now = search rules in
    let len : length c.split_at_mut.result.0.now ≡ c.args.most = ap length c.split_at_mut.ensures.front ∙ length-take-le c.args.most c.deref_mut.result.now room in
    let filled : take c.in-Ok.n (take c.reserve.new.self.bytes.len ((c.receive.new.buf ++ c.split_at_mut.result.1.now) ++ drop (length (c.receive.new.buf ++ c.split_at_mut.result.1.now)) c.reserve.new.self.bytes.items)) ≡ take c.in-Ok.n c.receive.new.buf = filled c.in-Ok.n c.reserve.new.self.bytes.len c.receive.new.buf c.split_at_mut.result.1.now (drop (length (c.receive.new.buf ++ c.split_at_mut.result.1.now)) c.reserve.new.self.bytes.items) c.in-Ok.ensures.bound.0 (omega (arith, c.in-Ok.ensures.bound.0, c.receive.auto.buf, len, c.in_ok-reserve.ensures.ok)) in
    gives_came g.S.ByteStream.unread c.args.self.now (record c.args.self.now { stream = c.receive.new.self; buffer = c.give_line-in-Ok.new.self }) (take c.in-Ok.n c.receive.new.buf) (lent_from c.give_line-in-Ok.new.spare c.give_line-in-Ok.new.self) (c.is_empty.ensures.none c.if-not-is_empty.false) (c.give_line-in-Ok.ensures.kept ∙ (c.fill.ensures ∙ filled)) c.in-Ok.ensures.bytes.0

pub returns-in-Ok-clause-came : goal.returns-in-Ok-clause-came
returns-in-Ok-clause-came g c =
    let room : c.args.most ≤ length c.deref_mut.result.now = search rules in
    let len : length c.split_at_mut.result.0.now ≡ c.args.most = ap length c.split_at_mut.ensures.front ∙ length-take-le c.args.most c.deref_mut.result.now room in
    let filled : take c.in-Ok.n (take c.reserve.new.self.bytes.len ((c.receive.new.buf ++ c.split_at_mut.result.1.now) ++ drop (length (c.receive.new.buf ++ c.split_at_mut.result.1.now)) c.reserve.new.self.bytes.items)) ≡ take c.in-Ok.n c.receive.new.buf = filled c.in-Ok.n c.reserve.new.self.bytes.len c.receive.new.buf c.split_at_mut.result.1.now (drop (length (c.receive.new.buf ++ c.split_at_mut.result.1.now)) c.reserve.new.self.bytes.items) c.in-Ok.ensures.bound.0 (omega (arith, c.in-Ok.ensures.bound.0, c.receive.auto.buf, len, c.in_ok-reserve.ensures.ok)) in
    passes_came g.S.ByteStream.given c.args.self.now (record c.args.self.now { stream = c.receive.new.self; buffer = c.give_line-in-Ok.new.self }) (take c.in-Ok.n c.receive.new.buf) (lent_from c.give_line-in-Ok.new.spare c.give_line-in-Ok.new.self) (c.is_empty.ensures.none c.if-not-is_empty.false) (c.give_line-in-Ok.ensures.kept ∙ (c.fill.ensures ∙ filled)) c.in-Ok.ensures.gave

pub returns-in-Ok-clause-written : goal.returns-in-Ok-clause-written
returns-in-Ok-clause-written g c = c.receive.ensures.written

pub returns-in-Ok-clause-asked : goal.returns-in-Ok-clause-asked
returns-in-Ok-clause-asked g c =
    let room : c.args.most ≤ length c.deref_mut.result.now = search rules in
    let len : length c.split_at_mut.result.0.now ≡ c.args.most = ap length c.split_at_mut.ensures.front ∙ length-take-le c.args.most c.deref_mut.result.now room in
    record { called = λ may kept room. inr (c.receive.result, (rw len at c.receive.ensures.called, rw c.in-Ok.is (inr (c.in-Ok.n-test.1, refl), may))); asleep = λ may kept. absurd (let t : c.args.self.now.readable ≡ true = c.if-not-self.false in let f : c.args.self.now.readable ≡ false = may in cc); awake = λ may found. may; takes = λ may. may }

-- no byte came
pub returns-in-Err-WouldBlock-clause-unread : goal.returns-in-Err-WouldBlock-clause-unread
returns-in-Err-WouldBlock-clause-unread g c = gives_none g.S.ByteStream.unread c.args.self.now (record c.args.self.now { stream = c.receive.new.self; readable = false }) refl c.in-Err-WouldBlock.ensures.bytes

pub returns-in-Err-WouldBlock-clause-written : goal.returns-in-Err-WouldBlock-clause-written
returns-in-Err-WouldBlock-clause-written g c = c.receive.ensures.written

pub returns-in-Err-WouldBlock-clause-asked : goal.returns-in-Err-WouldBlock-clause-asked
returns-in-Err-WouldBlock-clause-asked g c =
    let room : c.args.most ≤ length c.deref_mut.result.now = search rules in
    let len : length c.split_at_mut.result.0.now ≡ c.args.most = ap length c.split_at_mut.ensures.front ∙ length-take-le c.args.most c.deref_mut.result.now room in
    record { called = λ may kept room. inr (c.receive.result, (rw len at c.receive.ensures.called, rw (c.in-Err-WouldBlock.is, c.in-Err-WouldBlock.field-0-is) (refl, refl))); asleep = λ may kept. absurd (let t : c.args.self.now.readable ≡ true = c.if-not-self.false in let f : c.args.self.now.readable ≡ false = may in cc); awake = λ may found. absurd (found refl); takes = λ may. may }

pub returns-in-Err-Interrupted-clause-unread : goal.returns-in-Err-Interrupted-clause-unread
returns-in-Err-Interrupted-clause-unread g c = gives_none g.S.ByteStream.unread c.args.self.now (record c.args.self.now { stream = c.receive.new.self }) refl c.in-Err-Interrupted.ensures.bytes

pub returns-in-Err-Interrupted-clause-written : goal.returns-in-Err-Interrupted-clause-written
returns-in-Err-Interrupted-clause-written g c = c.receive.ensures.written

pub returns-in-Err-Interrupted-clause-asked : goal.returns-in-Err-Interrupted-clause-asked
returns-in-Err-Interrupted-clause-asked g c =
    let room : c.args.most ≤ length c.deref_mut.result.now = search rules in
    let len : length c.split_at_mut.result.0.now ≡ c.args.most = ap length c.split_at_mut.ensures.front ∙ length-take-le c.args.most c.deref_mut.result.now room in
    record { called = λ may kept room. inr (c.receive.result, (rw len at c.receive.ensures.called, rw (c.in-Err-Interrupted.is, c.in-Err-Interrupted.field-0-is) (refl, may))); asleep = λ may kept. absurd (let t : c.args.self.now.readable ≡ true = c.if-not-self.false in let f : c.args.self.now.readable ≡ false = may in cc); awake = λ may found. may; takes = λ may. may }

pub returns-in-Err-Failed-clause-unread : goal.returns-in-Err-Failed-clause-unread
returns-in-Err-Failed-clause-unread g c = gives_none g.S.ByteStream.unread c.args.self.now (record c.args.self.now { stream = c.receive.new.self }) refl c.in-Err-Failed.ensures.bytes

pub returns-in-Err-Failed-clause-written : goal.returns-in-Err-Failed-clause-written
returns-in-Err-Failed-clause-written g c = c.receive.ensures.written

pub returns-in-Err-Failed-clause-asked : goal.returns-in-Err-Failed-clause-asked
returns-in-Err-Failed-clause-asked g c =
    let room : c.args.most ≤ length c.deref_mut.result.now = search rules in
    let len : length c.split_at_mut.result.0.now ≡ c.args.most = ap length c.split_at_mut.ensures.front ∙ length-take-le c.args.most c.deref_mut.result.now room in
    record { called = λ may kept room. inr (c.receive.result, (rw len at c.receive.ensures.called, rw (c.in-Err-Failed.is, c.in-Err-Failed.field-0-is) (refl, may))); asleep = λ may kept. absurd (let t : c.args.self.now.readable ≡ true = c.if-not-self.false in let f : c.args.self.now.readable ≡ false = may in cc); awake = λ may found. may; takes = λ may. may }

-- the bytes the stream gave
pub returns-then-not-self-clause-came : goal.returns-then-not-self-clause-came
returns-then-not-self-clause-came g c = passes_none g.S.ByteStream.given c.args.self.now c.args.self.now refl (Keeps-refl (g.S.ByteStream.given c.args.self.now.stream))

pub returns-in-Err-WouldBlock-clause-came : goal.returns-in-Err-WouldBlock-clause-came
returns-in-Err-WouldBlock-clause-came g c = passes_none g.S.ByteStream.given c.args.self.now (record c.args.self.now { stream = c.receive.new.self; readable = false }) refl c.in-Err-WouldBlock.ensures.gave

pub returns-in-Err-Interrupted-clause-came : goal.returns-in-Err-Interrupted-clause-came
returns-in-Err-Interrupted-clause-came g c = passes_none g.S.ByteStream.given c.args.self.now (record c.args.self.now { stream = c.receive.new.self }) refl c.in-Err-Interrupted.ensures.gave

pub returns-in-Err-Failed-clause-came : goal.returns-in-Err-Failed-clause-came
returns-in-Err-Failed-clause-came g c = passes_none g.S.ByteStream.given c.args.self.now (record c.args.self.now { stream = c.receive.new.self }) refl c.in-Err-Failed.ensures.gave
