use Rattle.std.proofs.Common.{◌≡◌, arith}
use Rattle.shogi_core.proofs.Sifting.{sifts_first, sifts_passed, sifts_failed, sifted}
use Rattle.shogi_core.proofs.squares.Squares.sift.Goals as goal
use Rattle.shogi_core.proofs.squares.Squares.sift.Goals.{then-not-test, else-not-test}

pub loop-left-init : goal.loop-left-init
loop-left-init g c = record {
  callable = c.requires;
  sifts = sifts_first _ c.args.self.bits;
  left = c.args.self.fits;
  fits = c.args.self.fits;
}

pub cleared-kept-requires-clause-set : goal.cleared-kept-requires-clause-set
cleared-kept-requires-clause-set g c = (c.loop-left.invariant.sifts.still c.lowest-square.result c.lowest-square.ensures.range c.lowest-square.ensures.set).0

pub loop-left-preserved : goal.loop-left-preserved
loop-left-preserved g c = elim c.if-not-test.branch [
  | then-not-test w ↦ record {
    callable = c.loop-left.invariant.callable;
    sifts = rw w.kept-is (sifts_failed _ c.args.self.bits c.loop-left.left _ c.loop-left.kept _ c.lowest-square.result c.loop-left.invariant.sifts (rw (w.if-not-test.true, c.of_index.ensures) at c.test.ensures) c.without_lowest-left.ensures.bits w.cleared-kept.ensures.bits);
    left = omega (arith, c.without_lowest-left.ensures.less, c.loop-left.invariant.left);
    fits = omega (arith, w.kept-is, w.cleared-kept.ensures.less, c.loop-left.invariant.fits);
  }
  | else-not-test w ↦ record {
    callable = c.loop-left.invariant.callable;
    sifts = rw w.kept-is (sifts_passed _ c.args.self.bits c.loop-left.left _ c.loop-left.kept c.lowest-square.result c.loop-left.invariant.sifts c.lowest-square.ensures.set (rw (w.if-not-test.false, c.of_index.ensures) at c.test.ensures) c.without_lowest-left.ensures.bits);
    left = omega (arith, c.without_lowest-left.ensures.less, c.loop-left.invariant.left);
    fits = rw w.kept-is c.loop-left.invariant.fits;
  }
]

pub returns : goal.returns
returns g c =
    let none : c.loop-left.left ≡ 0 = omega arith in
    record { sifted = sifted _ c.args.self.bits c.loop-left.kept (rw none at c.loop-left.invariant.sifts) }
