use Rattle.std.proofs.Common.{ap, ◌∙◌, arith, to_z, of_z, w32}
use Rattle.std.proofs.lemmas.Int.{ints}
use Rattle.shogi_core.specs.Codes.{code_of}
use Rattle.shogi_moves.specs.LegalMoves.{legal_codes}
use Rattle.last_ply.specs.LastPly.{Scores, NoneScores}
use Rattle.last_ply.proofs.Passing.{passed_none, passed_one, found_least, none_met}
use Rattle.last_ply.proofs.Held.{fewer_left, from_held}
use Rattle.last_ply.proofs.frontier.FrontierNode.first_with.Goals as goal

pub moves-init : goal.moves-init
moves-init c = record {
  position = c.new-walk.ensures.position ∙ c.as_position.ensures;
  passed = passed_none _ _ _ (c.new-walk.ensures.codes ∙ ap legal_codes c.as_position.ensures);
}

pub moves-preserved : goal.moves-preserved
moves-preserved c = record {
  position = c.in-Some.ensures.position ∙ c.moves.invariant.position;
  passed = passed_one c.args.self.now.node.now.position _ c.moves.walk.codes c.next.new.self.codes (code_of c.in-Some.m) c.in-Some.ensures.next c.moves.invariant.passed (λ met. rw (c.scored.ensures.node, c.scored.ensures.current) at c.scores.ensures.other c.if-scores.false (omega (arith, ints, met)));
}

pub returns-then-scores-clause-some : goal.returns-then-scores-clause-some
returns-then-scores-clause-some c =
    let h = c.moves.invariant.passed in
    found_least c.args.self.now.node.now.position (Scores c.args.self.now.node.now c.args.score) c.moves.walk.codes c.next.new.self.codes (code_of c.in-Some.m) c.in-Some.ensures.next
    (record { among = h.among; rising = h.rising; passed = λ n i o q. h.passed n i o (omega (arith, ints, q)) }) (omega (arith, ints, rw (c.scored.ensures.node, c.scored.ensures.current) at (c.scores.ensures.scores c.if-scores.true)))

pub moves-smaller : goal.moves-smaller
moves-smaller c = fewer_left c.moves.walk.codes c.next.new.self.codes (code_of c.in-Some.m) c.in-Some.ensures.next

pub returns-clause-if_none : goal.returns-clause-if_none
returns-clause-if_none c = λ _.
    from_held (NoneScores c.args.self.now.node.now) c.args.score c.ranges.score
    (none_met c.args.self.now.node.now.position (Scores c.args.self.now.node.now (to_z w32 (of_z w32 c.args.score))) c.moves.walk.codes c.in_default.ensures.next.0 c.moves.invariant.passed)
