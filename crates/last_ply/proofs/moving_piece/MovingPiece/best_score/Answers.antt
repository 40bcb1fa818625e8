use Rattle.std.proofs.Common.{◌∙◌, arith, bit_and, sym}
use Rattle.std.proofs.lemmas.Bool.{eqb-true}
use Rattle.std.proofs.lemmas.Int.{ints}
use Rattle.last_ply.specs.LastPly.{NodeHasScore}
use Rattle.last_ply.proofs.Squares.{carried}
use Rattle.last_ply.proofs.Scores.{from_ends, none_among, weaker}
use Rattle.last_ply.proofs.moving_piece.MovingPiece.best_score.Goals as goal

pub returns-then-is_empty-clause-all : goal.returns-then-is_empty-clause-all
returns-then-is_empty-clause-all c = λ base.
    let frontier = c.args.self.now.frontier.now in
    let piece = c.args.self.now in
    let zone = rw (c.at.ensures, c.as_position.ensures) at c.promoting_squares-zone.ensures.squares in
    let none = none_among frontier.node.now.position frontier.node.now.eval piece.from (bit_and piece.targets.bits frontier.foe.bits) (bit_and piece.targets.bits c.promoting_squares-zone.result.bits) c.args.floor
    (rw (c.bitor.ensures, c.bitand.ensures, c.bitand-2.ensures) at (eqb-true _ 0 (sym c.is_empty.ensures ∙ c.if-is_empty.true))) in
    weaker frontier.node.now.position frontier.node.now.eval piece.from c.args.floor _
    (from_ends frontier.node.now.position frontier.node.now.eval piece.from piece.targets.bits frontier.foe.bits c.promoting_squares-zone.result.bits c.args.floor c.args.floor c.args.floor frontier.valid c.reveal_invariant.ensures
    piece.reach frontier.foes zone none.0 none.1 (omega (arith, ints, base)) (omega (arith, ints)) (omega (arith, ints))) (omega (arith, ints))

pub returns-clause-all : goal.returns-clause-all
returns-clause-all c = λ base.
    let frontier = c.args.self.now.frontier.now in
    let piece = c.args.self.now in
    let zone = rw (c.at.ensures, c.as_position.ensures) at c.promoting_squares-zone.ensures.squares in
    weaker frontier.node.now.position frontier.node.now.eval piece.from c.best_score_among.result _
    (from_ends frontier.node.now.position frontier.node.now.eval piece.from piece.targets.bits frontier.foe.bits c.promoting_squares-zone.result.bits c.args.floor _ _ frontier.valid c.reveal_invariant.ensures
    piece.reach frontier.foes zone c.best_score_among-best.ensures.all c.best_score_among.ensures.all
    (omega (arith, ints, base)) (omega (arith, ints, c.best_score_among-best.ensures.least)) (omega (arith, ints, c.best_score_among.ensures.least))) (omega (arith, ints))

pub returns-clause-some : goal.returns-clause-some
returns-clause-some c = λ above. carried (NodeHasScore c.args.self.now.frontier.now.node.now) c.args.floor c.best_score_among-best.result c.best_score_among.result _ (λ raised. c.best_score_among-best.ensures.some (omega (arith, ints, raised))) (λ raised. c.best_score_among.ensures.some (omega (arith, ints, raised))) (omega (arith, ints, c.best_score_among.ensures.least)) (omega (arith, ints)) (omega (arith, ints, above))
