use Rattle.std.proofs.Common.{arith}
use Rattle.std.proofs.lemmas.Int.{ints}
use Rattle.shogi_core.specs.Codes.{code_of}
use Rattle.last_ply.proofs.Scores.{score_most}
use Rattle.last_ply.proofs.scored_move.ScoredMove.scores.Goals as goal

pub returns-then-self-score-clause-other : goal.returns-then-self-score-clause-other
returns-then-self-score-clause-other c = λ _ same. omega (arith, ints, score_most c.args.self.now.node.now.position c.args.self.now.node.now.eval (code_of c.args.self.now.current), same, c.args.self.now.value, c.if-self-score.true)
