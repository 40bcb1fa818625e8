use Rattle.std.proofs.Common.{arith}
use Rattle.std.proofs.lemmas.Grind.{common_steps}
use Rattle.usi_stdio.proofs.Writing.{writes_start, writes_more, writes_none, writes_failed, some_taken, flush_failed, flushed}
use Rattle.usi_stdio.proofs.streams.write_out.Goals as goal

pub writes-init : goal.writes-init
writes-init g c = writes_start _ _

-- a write took nothing
pub returns-in-Ok-eq0-clause-err : goal.returns-in-Ok-eq0-clause-err
returns-in-Ok-eq0-clause-err g c = writes_none _ _ _ _ _ _ c.in-Ok-eq0.field-0-test c.writes.invariant c.in-Ok-eq0.ensures

-- the write took a prefix of the rest
pub writes-preserved : goal.writes-preserved
writes-preserved g c =
    rw c.split_at.ensures.back (writes_more _ _ _ _ c.writes.rest.now c.in-Ok.n c.writes.invariant c.in-Ok.ensures (some_taken c.in-Ok.n c.writes.rest.now c.in-Ok.n-test.1 c.in-Ok.ensures.within))

-- a write failed
pub returns-in-Err-clause-err : goal.returns-in-Err-clause-err
returns-in-Err-clause-err g c = writes_failed _ _ _ _ _ _ c.writes.invariant c.in-Err.ensures

-- the flush failed
pub returns-in-Err-flush-clause-err : goal.returns-in-Err-flush-clause-err
returns-in-Err-flush-clause-err g c = flush_failed _ _ _ _ _ _ c.writes.invariant c.in-Err-flush.ensures

pub returns-in-Ok-flush-clause-ok : goal.returns-in-Ok-flush-clause-ok
returns-in-Ok-flush-clause-ok g c = flushed _ _ _ _ _ _ (grind (arith, common_steps)) c.writes.invariant c.in-Ok-flush.ensures
