use Rattle.std.proofs.Common.{sym}
use Rattle.shogi_core.proofs.LineTable.{aligned_bits, aligned_fits}
use Rattle.shogi_core.proofs.lines.line_mask.Goals as goal

pub invariant_of-result : goal.invariant_of-result
invariant_of-result c = record { fits = aligned_fits c.index.result c.index.ensures.range }

pub returns : goal.returns
returns c = record { squares = λ b h. rw (sym c.index.ensures.index) (aligned_bits c.index.result b c.index.ensures.range h) }
