use Rattle.std.proofs.Common.{FitsSigned, rules, w32, ◌∙◌, arith, sym}
use Rattle.std.proofs.lemmas.Int.{ints, to_z-of_z}
use Rattle.shogi_core.specs.declared.moves.Move.TheVariants.{Board}
use Rattle.shogi_core.specs.Codes.{code_of}
use Rattle.last_ply.proofs.Scores.{has_score, score_most}
use Rattle.last_ply.proofs.moving_piece.MovingPiece.best_score_to.Goals as goal

pub scored_to-requires : goal.scored_to-requires
scored_to-requires c =
    let fits : FitsSigned w32 c.raw_to-raw.result = search rules in
    record { legal = sym c.is_end.ensures ∙ c.if-not-is_end.false; raw = rw (to_z-of_z w32 c.raw_to-raw.result fits) c.raw_to-raw.ensures }

pub returns-clause-at : goal.returns-clause-at
returns-clause-at c = λ _. omega (arith, ints, rw (c.scored_to.ensures.node, c.scored_to.ensures.current) at c.score_above.ensures.at)

pub returns-clause-some : goal.returns-clause-some
returns-clause-some c = λ above.
    let exact = rw (c.scored_to.ensures.node, c.scored_to.ensures.current) at c.score_above.ensures.exact in
    has_score _ _ _ _ (sym c.is_end.ensures ∙ c.if-not-is_end.false) (omega (arith, ints, exact (omega (arith, ints, above))))

pub returns-then-raw-floor-clause-at : goal.returns-then-raw-floor-clause-at
returns-then-raw-floor-clause-at c = λ legal. omega (arith, ints, score_most c.args.self.now.frontier.now.node.now.position c.args.self.now.frontier.now.node.now.eval (code_of (Board c.args.self.now.from c.args.to c.args.promote)), c.raw_to-raw.ensures legal, c.if-raw-floor.true)
