use Rattle.std.proofs.Common.{sym, ◌∙◌}
use Rattle.shogi_core.specs.Codes.{code_of}
use Rattle.mate_search.specs.Stages.{IsUnmating, stage_left}
use Rattle.mate_search.proofs.MateLaws.{move_mates, move_fails, mates_by-none}
use Rattle.mate_search.proofs.OrderLaws.{skipped_fail, skipped_then_fewer}
use Rattle.mate_search.proofs.ShortestLaws.{mates_first_ordered}
use Rattle.mate_search.proofs.solution.mates_telling.Goals as goal

pub moves-init : goal.moves-init
moves-init g c = record {
  whole = mates_first_ordered c.args.p.now c.args.n (stage_left c.args.p.now c.first-stage.result) c.first-stage.ensures.all;
  consistent = c.first-stage.ensures.consistent;
}

pub returns-in_default : goal.returns-in_default
returns-in_default g c =
    sym (mates_by-none c.args.p.now c.args.n (stage_left c.args.p.now c.skip_unmating.new.self) c.in_default.ensures.next)
    ∙ (skipped_fail c.args.p.now c.last_escapes.result.bits c.args.n (stage_left c.args.p.now c.moves.stage) (stage_left c.args.p.now c.skip_unmating.new.self) c.last_escapes.ensures.if_last (rw (c.at-replies.ensures.position, c.at-replies.ensures.escapes) at c.skip_unmating.ensures.skipped) ∙ c.moves.invariant.whole)

pub returns-then-is_mated : goal.returns-then-is_mated
returns-then-is_mated g c =
    sym (move_mates c.args.p.now c.args.n (code_of c.in-Some.m) (stage_left c.args.p.now c.skip_unmating.new.self) (stage_left c.args.p.now c.next.new.self) c.advance.new.p c.in-Some.ensures.next c.advance.ensures.by_code (sym c.is_mated.ensures ∙ c.if-is_mated.true))
    ∙ (skipped_fail c.args.p.now c.last_escapes.result.bits c.args.n (stage_left c.args.p.now c.moves.stage) (stage_left c.args.p.now c.skip_unmating.new.self) c.last_escapes.ensures.if_last (rw (c.at-replies.ensures.position, c.at-replies.ensures.escapes) at c.skip_unmating.ensures.skipped) ∙ c.moves.invariant.whole)

pub moves-smaller : goal.moves-smaller
moves-smaller g c = skipped_then_fewer (IsUnmating c.args.p.now c.last_escapes.result.bits) (stage_left c.args.p.now c.moves.stage) (stage_left c.args.p.now c.skip_unmating.new.self) (stage_left c.args.p.now c.next.new.self) (code_of c.in-Some.m) (rw (c.at-replies.ensures.position, c.at-replies.ensures.escapes) at c.skip_unmating.ensures.skipped) c.in-Some.ensures.next

pub moves-preserved : goal.moves-preserved
moves-preserved g c = record {
  whole = move_fails c.args.p.now c.args.n (code_of c.in-Some.m) (stage_left c.args.p.now c.skip_unmating.new.self) (stage_left c.args.p.now c.next.new.self) c.advance.new.p c.in-Some.ensures.next c.advance.ensures.by_code (sym c.is_mated.ensures ∙ c.if-is_mated.false)
      ∙ (skipped_fail c.args.p.now c.last_escapes.result.bits c.args.n (stage_left c.args.p.now c.moves.stage) (stage_left c.args.p.now c.skip_unmating.new.self) c.last_escapes.ensures.if_last (rw (c.at-replies.ensures.position, c.at-replies.ensures.escapes) at c.skip_unmating.ensures.skipped) ∙ c.moves.invariant.whole);
  consistent = c.in-Some.ensures.consistent;
}
