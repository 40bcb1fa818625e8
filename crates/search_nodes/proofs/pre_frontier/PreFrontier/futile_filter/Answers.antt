use Rattle.std.proofs.Common.{arith}
use Rattle.std.proofs.lemmas.Int.{ints}
use Rattle.search_nodes.proofs.Passed.{quiets_lost}
use Rattle.search_nodes.proofs.pre_frontier.PreFrontier.futile_filter.Goals as goal

pub returns : goal.returns
returns c = λ leave escapes. record {
  lost = quiets_lost c.args.self.now.frame.now (record { pieces = c.args.pieces; squares = c.args.squares; promotes = c.covers_promotions-promotes.result }) c.args.escapes.bits c.args.code _ c.args.loss c.args.self.now.last leave c.covers_promotions-promotes.ensures
      (omega (arith, ints, c.score.ensures.value, c.score.ensures.least, c.score.ensures.most, c.requires.0, c.requires.1, c.if-room-lt0.false));
  are_escapes = escapes;
}
