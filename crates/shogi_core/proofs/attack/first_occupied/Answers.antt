use Rattle.shogi_core.proofs.Nearest.{no_piece, nearest_piece, nearest_reached}
use Rattle.shogi_core.proofs.attack.first_occupied.Goals as goal

pub returns-then-pieces-eq0-clause-first : goal.returns-then-pieces-eq0-clause-first
returns-then-pieces-eq0-clause-first c = λ cells bits n e.
    no_piece cells c.args.direction c.args.from c.ray.result.bits c.args.occupied.bits c.reveal_invariant.ensures c.ray.ensures.ray bits c.if-pieces-eq0.true n e

pub returns-clause-first : goal.returns-clause-first
returns-clause-first c = λ cells bits. record {
  reached = nearest_reached cells c.args.direction c.args.from c.ray.result.bits c.args.occupied.bits c.reveal_invariant.ensures c.ray.ensures.ray bits
      c.nearest.result c.nearest.ensures.range c.nearest.ensures.set c.nearest.ensures.rising c.nearest.ensures.falling;
  piece = nearest_piece cells c.args.direction c.args.from c.ray.result.bits c.args.occupied.bits c.reveal_invariant.ensures c.ray.ensures.ray bits
      c.nearest.result c.nearest.ensures.range c.nearest.ensures.set;
}
