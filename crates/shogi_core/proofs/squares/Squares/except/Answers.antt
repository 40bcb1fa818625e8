use Rattle.std.proofs.Common.{rules}
use Rattle.shogi_core.proofs.Pins.{unmarked_fits}
use Rattle.shogi_core.proofs.squares.Squares.except.Goals as goal

pub invariant_of-result : goal.invariant_of-result
invariant_of-result c = record { fits = unmarked_fits c.args.self.bits c.without.result c.args.square c.args.self.fits (search rules) (rw c.index.ensures.index at c.without.ensures) }
