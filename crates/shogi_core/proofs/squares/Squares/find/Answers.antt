use Rattle.std.proofs.Common.{◌≡◌, arith}
use Rattle.std.proofs.lemmas.Bool.{both_ways}
use Rattle.shogi_core.specs.Bits.{has_bit}
use Rattle.shogi_core.proofs.BitLaws.{has_bit-none}
use Rattle.shogi_core.proofs.Sifting.{still_left, failed_more, below_least}
use Rattle.shogi_core.proofs.squares.Squares.find.Goals as goal

pub loop-left-init : goal.loop-left-init
loop-left-init g c = record {
  callable = c.requires;
  within = λ n e. e;
  none = λ n h set out. absurd (both_ways (has_bit c.args.self.bits n) out set);
  left = c.args.self.fits;
}

pub loop-left-preserved : goal.loop-left-preserved
loop-left-preserved g c = record {
  callable = c.loop-left.invariant.callable;
  within = λ n e. c.loop-left.invariant.within n (still_left _ _ _ n c.without_lowest-left.ensures.bits e);
  none = failed_more (goal.F-post g c.args.test) c.args.self.bits c.loop-left.left _ c.lowest-index.result c.loop-left.invariant.none (rw (c.if-test.false, c.of_index-square.ensures) at c.test.ensures) c.without_lowest-left.ensures.bits;
  left = omega (arith, c.without_lowest-left.ensures.less, c.loop-left.invariant.left);
}

pub returns-then-test : goal.returns-then-test
returns-then-test g c = record {
  if_none = λ some. absurd (cc);
  among = rw c.of_index-square.ensures (c.loop-left.invariant.within _ c.lowest-index.ensures.set);
  passes = rw c.if-test.true at c.test.ensures;
  first = λ n h l set. c.loop-left.invariant.none n h set (below_least _ _ n c.lowest-index.ensures.least (rw c.of_index-square.ensures at l));
}

pub returns-clause-if_none : goal.returns-clause-if_none
returns-clause-if_none g c = λ _ n h l set.
    let none : c.loop-left.left ≡ 0 = omega arith in
    (rw none at c.loop-left.invariant.none) n h set (has_bit-none n)
