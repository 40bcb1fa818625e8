use Rattle.shogi_core.proofs.TargetLaws.{diagonal_second, straight_second}
use Rattle.shogi_core.proofs.LineBits.{or_fits}
use Rattle.shogi_core.proofs.targets.four_slides.Goals as goal

pub invariant_of-result : goal.invariant_of-result
invariant_of-result c = record {
  fits = or_fits _ _ (or_fits _ _ (or_fits _ _ c.falling_squares.result.fits c.rising_squares.result.fits) c.rising_squares-2.result.fits) c.falling_squares-2.result.fits;
}

pub returns-clause-straight : goal.returns-clause-straight
returns-clause-straight c = λ zero color n h.
    straight_second c.args.board.now color c.args.first c.args.from n c.falling_squares.result.bits c.rising_squares.result.bits c.rising_squares-2.result.bits c.falling_squares-2.result.bits zero
    (rw c.opposite.ensures at c.falling_squares.ensures.squares n h) (c.rising_squares.ensures.squares n h)
    (rw c.quarter_turn-second.ensures at c.rising_squares-2.ensures.squares n h) (rw (c.opposite-2.ensures, c.quarter_turn-second.ensures) at c.falling_squares-2.ensures.squares n h)

pub returns-clause-diagonal : goal.returns-clause-diagonal
returns-clause-diagonal c = λ one color n h.
    diagonal_second c.args.board.now color c.args.first c.args.from n c.falling_squares.result.bits c.rising_squares.result.bits c.rising_squares-2.result.bits c.falling_squares-2.result.bits one
    (rw c.opposite.ensures at c.falling_squares.ensures.squares n h) (c.rising_squares.ensures.squares n h)
    (rw c.quarter_turn-second.ensures at c.rising_squares-2.ensures.squares n h) (rw (c.opposite-2.ensures, c.quarter_turn-second.ensures) at c.falling_squares-2.ensures.squares n h)
