use Rattle.std.proofs.Common.{arith}
use Rattle.std.proofs.lemmas.Int.{ints}
use Rattle.shogi_eval.proofs.Bounds.{material_bounds}
use Rattle.shogi_eval.proofs.node.Node.score.Goals as goal

pub returns-clause-least : goal.returns-clause-least
returns-clause-least c = let b : _ = material_bounds c.self.inside.position c.self.inside.eval c.reveal_invariant.ensures in omega (arith, ints, b.0, c.self.invariant)

pub returns-clause-most : goal.returns-clause-most
returns-clause-most c = let b : _ = material_bounds c.self.inside.position c.self.inside.eval c.reveal_invariant.ensures in omega (arith, ints, b.1, c.self.invariant)
