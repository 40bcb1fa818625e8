use Rattle.std.proofs.Common.{FitsSigned, rules, w32, ◌∙◌, sym, arith}
use Rattle.std.proofs.lemmas.Int.{ints, to_z-of_z}
use Rattle.shogi_core.specs.declared.moves.Move.TheVariants.{Board}
use Rattle.shogi_core.specs.Codes.{code_of}
use Rattle.last_ply.proofs.Scores.{score_most}
use Rattle.last_ply.proofs.moving_piece.MovingPiece.is_gain.Goals as goal

pub scored_to-requires : goal.scored_to-requires
scored_to-requires c =
    let fits : FitsSigned w32 c.raw_to-raw.result = search rules in
    record { legal = sym c.is_end.ensures ∙ c.if-not-is_end.false; raw = rw (to_z-of_z w32 c.raw_to-raw.result fits) c.raw_to-raw.ensures }

pub returns-clause-scores : goal.returns-clause-scores
returns-clause-scores c = λ e. omega (arith, ints, (rw (c.scored_to.ensures.node, c.scored_to.ensures.current) at c.scores.ensures.scores) e)

pub returns-clause-other : goal.returns-clause-other
returns-clause-other c = λ e _ same. (rw (c.scored_to.ensures.node, c.scored_to.ensures.current) at c.scores.ensures.other) e (omega (arith, ints, same))

pub returns-then-raw-score-clause-other : goal.returns-then-raw-score-clause-other
returns-then-raw-score-clause-other c = λ _ legal same. omega (arith, ints, score_most c.args.self.now.frontier.now.node.now.position c.args.self.now.frontier.now.node.now.eval (code_of (Board c.args.self.now.from c.args.to c.args.promote)), same, c.raw_to-raw.ensures legal, c.if-raw-score.true)
