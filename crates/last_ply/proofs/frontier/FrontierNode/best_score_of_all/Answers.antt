use Rattle.std.proofs.Common.{ap, ◌∙◌, arith, ℕ}
use Rattle.std.proofs.lemmas.Int.{ints}
use Rattle.shogi_core.specs.Codes.{code_of}
use Rattle.shogi_moves.specs.LegalMoves.{legal_codes}
use Rattle.last_ply.specs.LastPly.{score_at, NodeHasScore}
use Rattle.last_ply.proofs.Squares.{carried}
use Rattle.last_ply.proofs.Passing.{passed_none, passed_one, raised}
use Rattle.last_ply.proofs.Held.{bounds_all, fewer_left}
use Rattle.last_ply.proofs.frontier.FrontierNode.best_score_of_all.Goals as goal

pub moves-init : goal.moves-init
moves-init c = record {
  position = c.new-walk.ensures.position ∙ c.as_position.ensures;
  least = omega (arith, ints);
  some = λ above. absurd (omega (arith, ints, above));
  passed = passed_none _ _ _ (c.new-walk.ensures.codes ∙ ap legal_codes c.as_position.ensures);
}

pub moves-preserved : goal.moves-preserved
moves-preserved c =
    let node = c.args.self.now.node.now in
    let code = code_of c.in-Some.m in
    let at = rw (c.scored.ensures.node, c.scored.ensures.current) at c.score_above-best.ensures.at in
    let exact = rw (c.scored.ensures.node, c.scored.ensures.current) at c.score_above-best.ensures.exact in
    record {
      position = c.in-Some.ensures.position ∙ c.moves.invariant.position;
      least = omega (arith, ints, c.moves.invariant.least, c.score_above-best.ensures.least);
      some = carried (NodeHasScore node) _ _ c.score_above-best.result _ c.moves.invariant.some (λ above. record { code = code; listed = rw (c.scored.ensures.node, c.scored.ensures.current) at c.scored.result.listed; at_least = omega (arith, ints, exact above) }) c.score_above-best.ensures.least (omega (arith, ints));
      passed = passed_one node.position _ c.moves.walk.codes c.next.new.self.codes code c.in-Some.ensures.next
          (raised node.position (λ (n : ℕ). score_at node.position node.eval n) _ _ c.moves.walk.codes c.moves.invariant.passed (omega (arith, ints, c.score_above-best.ensures.least)))
          (λ above. absurd (omega (arith, ints, above, at)));
    }

pub moves-smaller : goal.moves-smaller
moves-smaller c = fewer_left c.moves.walk.codes c.next.new.self.codes (code_of c.in-Some.m) c.in-Some.ensures.next

pub returns-clause-all : goal.returns-clause-all
returns-clause-all c = bounds_all c.args.self.now.node.now.position (λ (n : ℕ). score_at c.args.self.now.node.now.position c.args.self.now.node.now.eval n) _ c.moves.walk.codes c.in_default.ensures.next.0 c.moves.invariant.passed
