use Rattle.std.proofs.Common.{arith}
use Rattle.std.proofs.lemmas.Int.{ints}
use Rattle.shogi_core.specs.Codes.{code_of}
use Rattle.last_ply.proofs.Scores.{score_most}
use Rattle.last_ply.proofs.scored_move.ScoredMove.score_above.Goals as goal

pub returns-then-self-floor-clause-at : goal.returns-then-self-floor-clause-at
returns-then-self-floor-clause-at c = omega (arith, ints, score_most c.args.self.now.node.now.position c.args.self.now.node.now.eval (code_of c.args.self.now.current), c.args.self.now.value, c.if-self-floor.true)
