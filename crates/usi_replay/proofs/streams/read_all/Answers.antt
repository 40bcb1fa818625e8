use Rattle.std.proofs.Common.{rules, arith}
use Rattle.std.proofs.lemmas.Grind.{common_steps}
use Rattle.usi_replay.proofs.Reading.{reading_start, reading_more, reading_kept, reading_done, reads_failed, reads_ended, reads_unkept, reads_many}
use Rattle.usi_replay.proofs.streams.read_all.Goals as goal

pub chunks-init : goal.chunks-init
chunks-init g c = reading_start _ _ (first_of (search rules, grind (arith, common_steps)))

-- a read failed
pub returns-in_default-clause-kept : goal.returns-in_default-clause-kept
returns-in_default-clause-kept g c = reading_kept _ (g.T.FrontEnd.report c.chunks.front_end) _ _ _ _ _ c.chunks.invariant c.read.ensures

pub returns-in_default-clause-calls : goal.returns-in_default-clause-calls
returns-in_default-clause-calls g c = reads_failed _ (g.T.FrontEnd.report c.chunks.front_end) _ _ _ _ _ c.chunks.invariant c.in_default.ensures

-- the input ended
pub returns-then-n-eq0-clause-read : goal.returns-then-n-eq0-clause-read
returns-then-n-eq0-clause-read g c =
    reading_done _ (g.T.FrontEnd.report c.chunks.front_end) _ _ _ _ _ c.chunks.invariant c.in-Ok.ensures c.if-n-eq0.true (first_of (search rules, omega arith, grind (arith, common_steps)))

pub returns-then-n-eq0-clause-kept : goal.returns-then-n-eq0-clause-kept
returns-then-n-eq0-clause-kept g c = reading_kept _ (g.T.FrontEnd.report c.chunks.front_end) _ _ _ _ _ c.chunks.invariant c.read.ensures

pub returns-then-n-eq0-clause-calls : goal.returns-then-n-eq0-clause-calls
returns-then-n-eq0-clause-calls g c =
    reads_ended _ (g.T.FrontEnd.report c.chunks.front_end) _ _ _ _ _ c.chunks.invariant c.in-Ok.ensures c.if-n-eq0.true

-- memory was refused
pub returns-then-is_err-clause-kept : goal.returns-then-is_err-clause-kept
returns-then-is_err-clause-kept g c = reading_kept _ (g.T.FrontEnd.report c.chunks.front_end) _ _ _ _ _ c.chunks.invariant c.read.ensures

pub returns-then-is_err-clause-calls : goal.returns-then-is_err-clause-calls
returns-then-is_err-clause-calls g c =
    reads_unkept _ (g.T.FrontEnd.report c.chunks.front_end) _ _ _ _ _ c.chunks.invariant c.in-Ok.ensures (first_of (search rules, omega arith, grind (arith, common_steps)))

-- another chunk
pub chunks-preserved : goal.chunks-preserved
chunks-preserved g c =
    reading_more (g.T.FrontEnd.report c.args.front_end.now) (g.T.FrontEnd.report c.chunks.front_end) (g.T.FrontEnd.report c.read.new.self) c.chunks.bytes.items _ c.read.new.buf c.in-Ok.n c.chunks._reads c.chunks.invariant c.in-Ok.ensures (first_of (search rules, omega arith, grind (arith, common_steps))) (first_of (search rules, grind (arith, common_steps)))

pub returns-clause-kept : goal.returns-clause-kept
returns-clause-kept g c = c.chunks.invariant.kept

-- the greatest number of reads was made
pub returns-clause-calls : goal.returns-clause-calls
returns-clause-calls g c = reads_many _ _ _ _ c.chunks.invariant (search rules)
