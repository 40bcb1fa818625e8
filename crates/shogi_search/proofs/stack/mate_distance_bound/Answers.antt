use Rattle.std.proofs.Common.{arith}
use Rattle.std.proofs.lemmas.Int.{ints}
use Rattle.minimax.specs.Minimax.{value}
use Rattle.minimax.proofs.MinimaxLaws.{value_within, Within}
use Rattle.shogi_search.proofs.stack.mate_distance_bound.Goals as goal

pub returns-then-least-beta-clause-truth : goal.returns-then-least-beta-clause-truth
returns-then-least-beta-clause-truth c = λ p e ok. (let w : Within c.args.depth (value p e c.args.depth) = value_within c.args.depth p e ok in omega (arith, ints))

pub returns-then-most-alpha-clause-truth : goal.returns-then-most-alpha-clause-truth
returns-then-most-alpha-clause-truth c = λ p e ok. (let w : Within c.args.depth (value p e c.args.depth) = value_within c.args.depth p e ok in omega (arith, ints))
