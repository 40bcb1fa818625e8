use Rattle.std.proofs.Common.{◌∙◌, sym}
use Rattle.shogi_core.specs.Codes.{code_of}
use Rattle.shogi_core.specs.declared.moves.TheConstants.{FIRST_DROP}
use Rattle.shogi_moves.specs.LegalMoves.{legal_from}
use Rattle.shogi_moves.specs.Sweeps.{matching_from}
use Rattle.search_nodes.specs.Order.{codes_of}
use Rattle.search_nodes.proofs.MatchingOthers.{fewer_left, other-found, other-passed, other-same}
use Rattle.search_nodes.proofs.move_picker.next_board.Goals as goal

pub returns-then-not-has_move-clause-next : goal.returns-then-not-has_move-clause-next
returns-then-not-has_move-clause-next c = c.moves.invariant.same ∙ other-found c.args.p.now (codes_of c.args.priority_moves.now) c.args.capture (code_of c.in-Some.m) (legal_from c.args.p.now c.moves.sweep.code) (legal_from c.args.p.now c.next.new.self.code) c.in-Some.ensures.next (sym c.has_move.ensures ∙ c.if-not-has_move.true)

pub moves-smaller : goal.moves-smaller
moves-smaller c = fewer_left (matching_from c.args.p.now c.args.capture c.moves.sweep.code) (matching_from c.args.p.now c.args.capture c.next.new.self.code) (code_of c.in-Some.m) c.in-Some.ensures.next

pub moves-preserved : goal.moves-preserved
moves-preserved c = record {
  kept = c.next.ensures.consistent;
  same = c.moves.invariant.same ∙ other-passed c.args.p.now (codes_of c.args.priority_moves.now) c.args.capture (code_of c.in-Some.m) (legal_from c.args.p.now c.moves.sweep.code) (legal_from c.args.p.now c.next.new.self.code) c.in-Some.ensures.next (sym c.has_move.ensures ∙ c.if-not-has_move.false);
}

pub returns-clause-next : goal.returns-clause-next
returns-clause-next c = c.moves.invariant.same ∙ other-same c.args.p.now (codes_of c.args.priority_moves.now) c.args.capture (legal_from c.args.p.now c.moves.sweep.code) (legal_from c.args.p.now FIRST_DROP) c.in_default.ensures.next
