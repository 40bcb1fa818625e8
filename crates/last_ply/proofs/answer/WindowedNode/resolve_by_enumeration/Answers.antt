use Rattle.std.proofs.Common.{◌≡◌, [], arith, FitsSigned, inr, rules, w32}
use Rattle.std.proofs.lemmas.Bool.{iff_false}
use Rattle.std.proofs.lemmas.Int.{ints, to_z-of_z}
use Rattle.shogi_moves.specs.LegalMoves.{legal_codes}
use Rattle.minimax.proofs.Left.{left_lost}
use Rattle.last_ply.proofs.Composing.{none_left}
use Rattle.last_ply.proofs.answer.WindowedNode.resolve_by_enumeration.Goals as goal

pub returns-then-not-has_legal-clause-truth : goal.returns-then-not-has_legal-clause-truth
returns-then-not-has_legal-clause-truth c =
    let none : legal_codes c.args.self.now.frontier.now.node.now.position ≡ [] = none_left _ (rw c.as_position.ensures at (iff_false c.has_legal.ensures c.if-not-has_legal.true)) in
    let f : _ = left_lost c.args.self.now.frontier.now.node.now.position c.args.self.now.frontier.now.node.now.eval 1 (omega arith) none in
    (f.value_is, f.best_is)

pub resolve-requires : goal.resolve-requires
resolve-requires c =
    let fits : FitsSigned w32 c.best_score_of_all.result = search rules in
    rw (to_z-of_z w32 c.best_score_of_all.result fits) (record {
      all = λ _. c.best_score_of_all.ensures.all;
      some = λ above. c.best_score_of_all.ensures.some (omega (arith, ints, above));
      lost = inr (rw c.as_position.ensures at (c.has_legal.ensures.0 c.if-not-has_legal.false));
    })
