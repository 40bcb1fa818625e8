use Rattle.std.proofs.Common.{◌-◌, ◌^◌, arith}
use Rattle.shogi_core.proofs.LineBits.{and_fits}
use Rattle.shogi_core.proofs.LowBits.{bits_above-above, bits_above-below}
use Rattle.shogi_core.proofs.bits.bits_above.Goals as goal

pub returns-clause-fits : goal.returns-clause-fits
returns-clause-fits c = and_fits c.args.mask (2 ^ 128 - 1 - c.up_to_lowest.result) c.requires.fits

pub returns-clause-above : goal.returns-clause-above
returns-clause-above c = λ i h up. bits_above-above c.args.mask c.with.result c.up_to_lowest.result c.args.n i c.with.ensures c.up_to_lowest.ensures (omega arith) h up

pub returns-clause-below : goal.returns-clause-below
returns-clause-below c = λ i h down. bits_above-below c.args.mask c.with.result c.up_to_lowest.result c.args.n i c.with.ensures c.up_to_lowest.ensures (omega arith) h down
