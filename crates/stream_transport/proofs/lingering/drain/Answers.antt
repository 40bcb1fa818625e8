use Rattle.std.proofs.Common.{None, Some, false, refl, arith, length, ◌∙◌}
use Rattle.stream_transport.proofs.Draining.{drained_all, drained_by, drained_more, drained_none, passes_interrupted, passes_read, stops_empty, stops_ended, stops_failed}
use Rattle.stream_transport.proofs.lingering.drain.Goals as goal
use Rattle.stream_transport.proofs.lingering.drain.Goals.{in-Ok, in-Err-Interrupted}

-- the peer has ended
pub returns-in-Ok-eq0-clause-reads : goal.returns-in-Ok-eq0-clause-reads
returns-in-Ok-eq0-clause-reads g c = drained_by _ (g.S.ByteStream.calls c.loop.stream) _ c.loop.counter _ None c.loop.invariant.reads c.loop-test.true c.receive.ensures.called (stops_ended (length c.loop.buf) c.receive.result c.in-Ok-eq0.field-0 c.in-Ok-eq0.is c.in-Ok-eq0.field-0-test)

-- the stream would block
pub returns-in-Err-WouldBlock-clause-reads : goal.returns-in-Err-WouldBlock-clause-reads
returns-in-Err-WouldBlock-clause-reads g c = drained_by _ (g.S.ByteStream.calls c.loop.stream) _ c.loop.counter _ (Some false) c.loop.invariant.reads c.loop-test.true c.receive.ensures.called (stops_empty (length c.loop.buf) c.receive.result (rw c.in-Err-WouldBlock.field-0-is at c.in-Err-WouldBlock.is))

-- the read failed
pub returns-in-Err-Failed-clause-reads : goal.returns-in-Err-Failed-clause-reads
returns-in-Err-Failed-clause-reads g c = drained_by _ (g.S.ByteStream.calls c.loop.stream) _ c.loop.counter _ None c.loop.invariant.reads c.loop-test.true c.receive.ensures.called (stops_failed (length c.loop.buf) c.receive.result (rw c.in-Err-Failed.field-0-is at c.in-Err-Failed.is))

-- no read is left
pub returns-clause-reads : goal.returns-clause-reads
returns-clause-reads g c = drained_all _ _ c.loop.counter c.loop.invariant.reads (omega (arith, c.loop-test.false, c.loop.auto.counter-end))

pub loop-init : goal.loop-init
loop-init g c = record { shut = refl; reads = drained_none (g.S.ByteStream.calls c.args.stream.now) }

-- the drain goes on
pub loop-preserved : goal.loop-preserved
loop-preserved g c = record {
  shut = c.receive.ensures.shut ∙ c.loop.invariant.shut;
  reads = drained_more _ (g.S.ByteStream.calls c.loop.stream) _ c.loop.counter _ c.loop.invariant.reads c.loop-test.true c.receive.ensures.called (elim c.match-receive.branch [ in-Ok w ↦ passes_read (length c.loop.buf) c.receive.result w.in-Ok.field-0 w.in-Ok.is w.in-Ok.field-0-test.1 | in-Err-Interrupted w ↦ passes_interrupted (length c.loop.buf) c.receive.result (rw w.in-Err-Interrupted.field-0-is at w.in-Err-Interrupted.is) ]);
}
