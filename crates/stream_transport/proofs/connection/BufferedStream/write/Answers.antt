use Rattle.std.proofs.Common.{◌≡◌, true, false, refl}
use Rattle.std.proofs.KnownBytes.{Appends-nil, Keeps-refl}
use Rattle.transport.proofs.Reported.{Appends-none}
use Rattle.stream_transport.specs.Held.{unread_of}
use Rattle.stream_transport.proofs.Reading.{passes_none, unread_stays}
use Rattle.stream_transport.proofs.connection.BufferedStream.write.Goals as goal

-- the stream is not asked
pub returns-then-not-self-clause-unread : goal.returns-then-not-self-clause-unread
returns-then-not-self-clause-unread g c = Keeps-refl (unread_of g.S.ByteStream.unread c.args.self.now)

pub returns-then-not-self-clause-written : goal.returns-then-not-self-clause-written
returns-then-not-self-clause-written g c = Appends-nil (g.S.ByteStream.written c.args.self.now.stream)

pub returns-then-not-self-clause-asked : goal.returns-then-not-self-clause-asked
returns-then-not-self-clause-asked g c = record {
  called = λ may. absurd (let t : c.args.self.now.writable ≡ true = may in let f : c.args.self.now.writable ≡ false = c.if-not-self.true in cc);
  asleep = λ may. (refl, refl);
  gives = λ may. may;
}

-- the stream took bytes
pub returns-in-Ok-clause-within : goal.returns-in-Ok-clause-within
returns-in-Ok-clause-within g c = c.in-Ok.ensures.bound

pub returns-in-Ok-clause-unread : goal.returns-in-Ok-clause-unread
returns-in-Ok-clause-unread g c = unread_stays c.args.self.now.buffer.kept (g.S.ByteStream.unread c.args.self.now.stream) (g.S.ByteStream.unread c.send.new.self) c.send.ensures.unread

pub returns-in-Ok-clause-written : goal.returns-in-Ok-clause-written
returns-in-Ok-clause-written g c = c.in-Ok.ensures.bytes

pub returns-in-Ok-clause-asked : goal.returns-in-Ok-clause-asked
returns-in-Ok-clause-asked g c = record { called = λ may. (c.send.result, (c.send.ensures.called, rw c.in-Ok.is (refl, may))); asleep = λ may. absurd (let t : c.args.self.now.writable ≡ true = c.if-not-self.false in let f : c.args.self.now.writable ≡ false = may in cc); gives = λ may. may }

-- the stream took none
pub returns-in-Err-WouldBlock-clause-unread : goal.returns-in-Err-WouldBlock-clause-unread
returns-in-Err-WouldBlock-clause-unread g c = unread_stays c.args.self.now.buffer.kept (g.S.ByteStream.unread c.args.self.now.stream) (g.S.ByteStream.unread c.send.new.self) c.send.ensures.unread

pub returns-in-Err-WouldBlock-clause-written : goal.returns-in-Err-WouldBlock-clause-written
returns-in-Err-WouldBlock-clause-written g c = Appends-none (g.S.ByteStream.written c.args.self.now.stream) (g.S.ByteStream.written c.send.new.self) c.in-Err-WouldBlock.ensures.bytes

pub returns-in-Err-WouldBlock-clause-asked : goal.returns-in-Err-WouldBlock-clause-asked
returns-in-Err-WouldBlock-clause-asked g c = record { called = λ may. (c.send.result, (c.send.ensures.called, rw (c.in-Err-WouldBlock.is, c.in-Err-WouldBlock.field-0-is) (refl, refl))); asleep = λ may. absurd (let t : c.args.self.now.writable ≡ true = c.if-not-self.false in let f : c.args.self.now.writable ≡ false = may in cc); gives = λ may. may }

pub returns-in-Err-Interrupted-clause-unread : goal.returns-in-Err-Interrupted-clause-unread
returns-in-Err-Interrupted-clause-unread g c = unread_stays c.args.self.now.buffer.kept (g.S.ByteStream.unread c.args.self.now.stream) (g.S.ByteStream.unread c.send.new.self) c.send.ensures.unread

pub returns-in-Err-Interrupted-clause-written : goal.returns-in-Err-Interrupted-clause-written
returns-in-Err-Interrupted-clause-written g c = Appends-none (g.S.ByteStream.written c.args.self.now.stream) (g.S.ByteStream.written c.send.new.self) c.in-Err-Interrupted.ensures.bytes

pub returns-in-Err-Interrupted-clause-asked : goal.returns-in-Err-Interrupted-clause-asked
returns-in-Err-Interrupted-clause-asked g c = record { called = λ may. (c.send.result, (c.send.ensures.called, rw (c.in-Err-Interrupted.is, c.in-Err-Interrupted.field-0-is) (refl, may))); asleep = λ may. absurd (let t : c.args.self.now.writable ≡ true = c.if-not-self.false in let f : c.args.self.now.writable ≡ false = may in cc); gives = λ may. may }

pub returns-in-Err-Failed-clause-unread : goal.returns-in-Err-Failed-clause-unread
returns-in-Err-Failed-clause-unread g c = unread_stays c.args.self.now.buffer.kept (g.S.ByteStream.unread c.args.self.now.stream) (g.S.ByteStream.unread c.send.new.self) c.send.ensures.unread

pub returns-in-Err-Failed-clause-written : goal.returns-in-Err-Failed-clause-written
returns-in-Err-Failed-clause-written g c = Appends-none (g.S.ByteStream.written c.args.self.now.stream) (g.S.ByteStream.written c.send.new.self) c.in-Err-Failed.ensures.bytes

pub returns-in-Err-Failed-clause-asked : goal.returns-in-Err-Failed-clause-asked
returns-in-Err-Failed-clause-asked g c = record { called = λ may. (c.send.result, (c.send.ensures.called, rw (c.in-Err-Failed.is, c.in-Err-Failed.field-0-is) (refl, may))); asleep = λ may. absurd (let t : c.args.self.now.writable ≡ true = c.if-not-self.false in let f : c.args.self.now.writable ≡ false = may in cc); gives = λ may. may }

-- no byte came
pub returns-then-not-self-clause-came : goal.returns-then-not-self-clause-came
returns-then-not-self-clause-came g c = passes_none g.S.ByteStream.given c.args.self.now c.args.self.now refl (Keeps-refl (g.S.ByteStream.given c.args.self.now.stream))

pub returns-in-Ok-clause-came : goal.returns-in-Ok-clause-came
returns-in-Ok-clause-came g c = passes_none g.S.ByteStream.given c.args.self.now (record c.args.self.now { stream = c.send.new.self }) refl c.send.ensures.given

pub returns-in-Err-WouldBlock-clause-came : goal.returns-in-Err-WouldBlock-clause-came
returns-in-Err-WouldBlock-clause-came g c = passes_none g.S.ByteStream.given c.args.self.now (record c.args.self.now { stream = c.send.new.self; writable = false }) refl c.send.ensures.given

pub returns-in-Err-Interrupted-clause-came : goal.returns-in-Err-Interrupted-clause-came
returns-in-Err-Interrupted-clause-came g c = passes_none g.S.ByteStream.given c.args.self.now (record c.args.self.now { stream = c.send.new.self }) refl c.send.ensures.given

pub returns-in-Err-Failed-clause-came : goal.returns-in-Err-Failed-clause-came
returns-in-Err-Failed-clause-came g c = passes_none g.S.ByteStream.given c.args.self.now (record c.args.self.now { stream = c.send.new.self }) refl c.send.ensures.given
