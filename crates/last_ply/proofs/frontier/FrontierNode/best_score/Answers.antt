use Rattle.std.proofs.Common.{arith, refl}
use Rattle.std.proofs.lemmas.Int.{ints, clamps}
use Rattle.last_ply.specs.LastPly.{NodeHasScore}
use Rattle.last_ply.proofs.Squares.{carried, left_set}
use Rattle.last_ply.proofs.Scores.{all_most, one_more_piece}
use Rattle.last_ply.proofs.frontier.FrontierNode.best_score.Goals as goal

pub pieces-preserved : goal.pieces-preserved
pieces-preserved c =
    let node = c.args.self.now.node.now in
    let of_piece = rw (c.moving_piece.ensures.frontier, c.moving_piece.ensures.from) at c.best_score-best.ensures.all in
    let some = rw c.moving_piece.ensures.frontier at c.best_score-best.ensures.some in
    record {
      least = omega (arith, ints, c.pieces.invariant.least, c.best_score-best.ensures.least);
      all = one_more_piece node.position node.eval c.pieces.left c.next.new.self c.in-Some.from _ c.best_score-best.result _ c.in-Some.ensures.some.rest c.pieces.invariant.all c.best_score-best.ensures.least (omega (arith, ints)) (of_piece (omega (arith, ints, clamps, c.pieces.invariant.least, c.max-floor.ensures, c.score.ensures.value)));
      some = carried (NodeHasScore node) _ _ c.best_score-best.result _ c.pieces.invariant.some some c.best_score-best.ensures.least (omega (arith, ints));
      within = λ n h e. c.pieces.invariant.within n h (left_set _ _ _ n c.in-Some.ensures.some.rest e);
    }

pub returns-then-best-beta-clause-some : goal.returns-then-best-beta-clause-some
returns-then-best-beta-clause-some c = λ above base. carried (NodeHasScore c.args.self.now.node.now) _ _ c.best_score-best.result _ c.pieces.invariant.some (rw c.moving_piece.ensures.frontier at c.best_score-best.ensures.some) c.best_score-best.ensures.least (omega (arith, ints)) (omega (arith, ints, clamps, above, base, c.max-floor.ensures, c.score.ensures.value))

pub returns-clause-all : goal.returns-clause-all
returns-clause-all c = λ _. all_most c.args.self.now.node.now.position c.args.self.now.node.now.eval _ c.args.self.now.valid (omega (arith, ints, clamps, c.pieces.invariant.least, c.max-floor.ensures, c.score.ensures.value)) (λ from h own. c.pieces.invariant.all from h own (c.in_default.ensures.none refl from))

pub returns-clause-some : goal.returns-clause-some
returns-clause-some c = λ above base. c.pieces.invariant.some (omega (arith, ints, clamps, above, base, c.max-floor.ensures, c.score.ensures.value))
