use Rattle.std.proofs.Common.{arith}
use Rattle.std.proofs.lemmas.Int.{ints}
use Rattle.search_nodes.proofs.pre_frontier.PreFrontier.drop_fails_low.Goals as goal

pub returns : goal.returns
returns c = λ short to h legal. omega (arith, ints, c.requires.0, c.requires.1, c.score_after_drop.ensures to h legal, short)
