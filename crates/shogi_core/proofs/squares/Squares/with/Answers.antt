use Rattle.std.proofs.Common.{arith, rules}
use Rattle.shogi_core.proofs.Pins.{marked_fits}
use Rattle.shogi_core.proofs.squares.Squares.with.Goals as goal

pub invariant_of-result : goal.invariant_of-result
invariant_of-result c = record { fits = marked_fits c.args.self.bits c.with.result c.args.square c.args.self.fits (omega arith) (search rules) (rw c.index.ensures.index at c.with.ensures) }
