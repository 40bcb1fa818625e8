use Rattle.shogi_core.specs.Rays.{direction_at}
use Rattle.shogi_core.proofs.LineBits.{falling_bits, falling_end, direction_falls}
use Rattle.shogi_core.proofs.lines.falling_squares.Goals as goal

pub returns : goal.returns
returns c = record {
  squares =
      λ b h.
      rw (c.ray-line.ensures.ray, c.ray.ensures.ray, c.of_index.ensures)
      (falling_bits c.args.board.now (direction_at c.args.direction) c.args.from c.occupied.result.bits c.occupied.ensures
      (direction_falls c.args.direction c.requires.direction c.reveal_invariant.ensures)
      (falling_end c.args.direction c.requires.direction c.reveal_invariant.ensures)
      c.highest-first.result c.highest-first.ensures.range
      (rw c.ray-line.ensures.ray at c.highest-first.ensures.set) (rw c.ray-line.ensures.ray at c.highest-first.ensures.greatest) b h);
}
