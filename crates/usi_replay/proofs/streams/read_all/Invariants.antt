use Rattle.usi_replay.proofs.Reading.{IsReading}
use Rattle.usi_replay.proofs.streams.read_all.Given as goal

-- the bytes were read so far
abbrev pub invariant-chunks : goal.invariant-chunks
invariant-chunks g l = IsReading (g.T.FrontEnd.report l.fn.front_end) (g.T.FrontEnd.report l.front_end) l.bytes.items l._reads
