use Rattle.shogi_core.specs.Rays.{direction_at}
use Rattle.shogi_core.proofs.LineBits.{rising_bits, direction_rises}
use Rattle.shogi_core.proofs.lines.rising_squares.Goals as goal

pub returns : goal.returns
returns c = record {
  squares =
      λ b h.
      rw c.ray-line.ensures.ray
      (rising_bits c.args.board.now (direction_at c.args.direction) c.args.from c.occupied.result.bits c.occupied.ensures
      (direction_rises c.args.direction c.requires.direction) c.up_to_lowest.result b h (rw c.ray-line.ensures.ray at c.up_to_lowest.ensures b h));
}
