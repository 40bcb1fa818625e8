use Rattle.std.proofs.Common.{◌≡◌, arith}
use Rattle.shogi_core.proofs.LineBits.{or_fits}
use Rattle.shogi_core.proofs.Sifting.{union_first, union_more, united}
use Rattle.shogi_core.proofs.squares.Squares.union.Goals as goal

pub loop-left-init : goal.loop-left-init
loop-left-init g c = record {
  callable = c.requires;
  unites = union_first _ c.args.self.bits;
  left = c.args.self.fits;
  fits = omega arith;
}

pub loop-left-preserved : goal.loop-left-preserved
loop-left-preserved g c = record {
  callable = c.loop-left.invariant.callable;
  unites = union_more _ c.args.self.bits c.loop-left.left _ c.loop-left.found c.lowest-square.result c.each-found.result c.loop-left.invariant.unites c.lowest-square.ensures.range c.lowest-square.ensures.set (rw c.of_index.ensures at c.each-found.ensures) c.without_lowest-left.ensures.bits;
  left = omega arith;
  fits = or_fits c.loop-left.found c.each-found.result.bits c.loop-left.invariant.fits c.each-found.result.fits;
}

pub returns : goal.returns
returns g c =
    let none : c.loop-left.left ≡ 0 = omega arith in
    record { union = united _ c.args.self.bits c.loop-left.found (rw none at c.loop-left.invariant.unites) }
