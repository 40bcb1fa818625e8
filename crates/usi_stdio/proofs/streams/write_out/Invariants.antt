use Rattle.std.proofs.Common.{length, None}
use Rattle.usi_stdio.specs.Saying.{SaysBut}
use Rattle.usi_stdio.proofs.streams.write_out.Given as goal

-- all bytes but `rest` are written
abbrev pub invariant-writes : goal.invariant-writes
invariant-writes g l = SaysBut None (g.T.FrontEnd.report l.fn.front_end) (g.T.FrontEnd.report l.front_end) l.bytes l.rest

abbrev pub decreases-writes : goal.decreases-writes
decreases-writes g l = length l.rest
