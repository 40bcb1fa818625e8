use Rattle.std.proofs.Common.{ap, ◌∙◌, refl}
use Rattle.shogi_core.specs.Codes.{code_of}
use Rattle.shogi_moves.specs.LegalMoves.{legal_codes}
use Rattle.last_ply.specs.LastPly.{LeavesNone}
use Rattle.last_ply.proofs.Passing.{passed_none, found_least, none_met, passed_one}
use Rattle.last_ply.proofs.Held.{fewer_left}
use Rattle.last_ply.proofs.frontier.FrontierNode.first_mate.Goals as goal

pub moves-init : goal.moves-init
moves-init c = record {
  position = c.new-walk.ensures.position ∙ c.as_position.ensures;
  passed = passed_none _ _ _ (c.new-walk.ensures.codes ∙ ap legal_codes c.as_position.ensures);
}

pub returns-then-mates_past-clause-some : goal.returns-then-mates_past-clause-some
returns-then-mates_past-clause-some c = found_least c.args.self.now.node.now.position (LeavesNone c.args.self.now.node.now.position) c.moves.walk.codes c.next.new.self.codes (code_of c.in-Some.m) c.in-Some.ensures.next c.moves.invariant.passed (rw c.of-mate_search.ensures at (c.if-mates_past.ensures.mated refl))

pub moves-smaller : goal.moves-smaller
moves-smaller c = fewer_left c.moves.walk.codes c.next.new.self.codes (code_of c.in-Some.m) c.in-Some.ensures.next

pub moves-preserved : goal.moves-preserved
moves-preserved c = record {
  position = c.in-Some.ensures.position ∙ c.moves.invariant.position;
  passed = passed_one c.args.self.now.node.now.position (LeavesNone c.args.self.now.node.now.position) c.moves.walk.codes c.next.new.self.codes (code_of c.in-Some.m) c.in-Some.ensures.next c.moves.invariant.passed (rw c.of-mate_search.ensures at (c.if-mates_past.ensures.if_none refl));
}

pub returns-clause-if_none : goal.returns-clause-if_none
returns-clause-if_none c = λ _. none_met c.args.self.now.node.now.position (LeavesNone c.args.self.now.node.now.position) c.moves.walk.codes c.in_default.ensures.next.0 c.moves.invariant.passed
