use Rattle.std.proofs.Common.{◌≡◌, ◌≢◌, ◌-◌, sym, ◌∙◌, arith}
use Rattle.shogi_core.specs.Codes.{code_of}
use Rattle.mate_search.specs.Stages.{IsUnmating, stage_left}
use Rattle.mate_search.proofs.MateLaws.{reply_met, reply_saves, move_mates, move_fails, mates_none, is_met_by-none, mates_by-none}
use Rattle.mate_search.proofs.OrderLaws.{mates_ordered, mated_ordered, skipped_fail, skipped_then_fewer, mated_now}
use Rattle.mate_search.proofs.by_checks.+mates.Goals as goal

pub is_mated-returns-then-n-eq0 : goal.is_mated-returns-then-n-eq0
is_mated-returns-then-n-eq0 g t c = mated_now c.args.q.now c.args.n c.has_legal.result c.if-n-eq0.true (sym c.in_check.ensures ∙ c.if-not-in_check.false) c.has_legal.ensures

pub is_mated-replies-init : goal.is_mated-replies-init
is_mated-replies-init g t c = record {
  whole = mated_ordered c.args.q.now c.args.n (stage_left c.args.q.now c.first-stage.result) (sym c.in_check.ensures ∙ c.if-not-in_check.false) c.first-stage.ensures.all;
  consistent = c.first-stage.ensures.consistent;
}

pub is_mated-returns-then-not-mates : goal.is_mated-returns-then-not-mates
is_mated-returns-then-not-mates g t c = sym (reply_saves c.args.q.now c.args.n (code_of c.in-Some.m) (stage_left c.args.q.now c.replies.stage) (stage_left c.args.q.now c.next.new.self) c.apply-next.result c.in-Some.ensures.next c.apply-next.ensures.by_code (sym c.mates.ensures ∙ c.if-not-mates.true)) ∙ c.replies.invariant.whole

pub is_mated-replies-preserved : goal.is_mated-replies-preserved
is_mated-replies-preserved g t c = record {
  whole = reply_met c.args.q.now c.args.n (code_of c.in-Some.m) (stage_left c.args.q.now c.replies.stage) (stage_left c.args.q.now c.next.new.self) c.apply-next.result c.in-Some.ensures.next c.apply-next.ensures.by_code (sym c.mates.ensures ∙ c.if-not-mates.false) ∙ c.replies.invariant.whole;
  consistent = c.in-Some.ensures.consistent;
}

pub is_mated-returns : goal.is_mated-returns
is_mated-returns g t c = sym (is_met_by-none c.args.q.now c.args.n (stage_left c.args.q.now c.replies.stage) c.in_default.ensures.next) ∙ c.replies.invariant.whole

pub has_key-moves-init : goal.has_key-moves-init
has_key-moves-init g t c = record {
  whole = mates_ordered c.args.p.now c.args.n (stage_left c.args.p.now c.first-stage.result) (λ e. omega (arith, e, c.requires.least)) c.first-stage.ensures.all;
  consistent = c.first-stage.ensures.consistent;
}

pub has_key-returns-in_default : goal.has_key-returns-in_default
has_key-returns-in_default g t c =
    sym (mates_by-none c.args.p.now (c.args.n - 1) (stage_left c.args.p.now c.skip_unmating.new.self) c.in_default.ensures.next)
    ∙ (skipped_fail c.args.p.now c.last_escapes.result.bits (c.args.n - 1) (stage_left c.args.p.now c.moves.stage) (stage_left c.args.p.now c.skip_unmating.new.self) c.last_escapes.ensures.if_last (rw (c.at-replies.ensures.position, c.at-replies.ensures.escapes) at c.skip_unmating.ensures.skipped) ∙ c.moves.invariant.whole)

pub has_key-returns-then-is_mated : goal.has_key-returns-then-is_mated
has_key-returns-then-is_mated g t c =
    sym (move_mates c.args.p.now (c.args.n - 1) (code_of c.in-Some.m) (stage_left c.args.p.now c.skip_unmating.new.self) (stage_left c.args.p.now c.next.new.self) c.apply-next.result c.in-Some.ensures.next c.apply-next.ensures.by_code (sym c.is_mated.ensures ∙ c.if-is_mated.true))
    ∙ (skipped_fail c.args.p.now c.last_escapes.result.bits (c.args.n - 1) (stage_left c.args.p.now c.moves.stage) (stage_left c.args.p.now c.skip_unmating.new.self) c.last_escapes.ensures.if_last (rw (c.at-replies.ensures.position, c.at-replies.ensures.escapes) at c.skip_unmating.ensures.skipped) ∙ c.moves.invariant.whole)

pub has_key-moves-smaller : goal.has_key-moves-smaller
has_key-moves-smaller g t c = skipped_then_fewer (IsUnmating c.args.p.now c.last_escapes.result.bits) (stage_left c.args.p.now c.moves.stage) (stage_left c.args.p.now c.skip_unmating.new.self) (stage_left c.args.p.now c.next.new.self) (code_of c.in-Some.m) (rw (c.at-replies.ensures.position, c.at-replies.ensures.escapes) at c.skip_unmating.ensures.skipped) c.in-Some.ensures.next

pub has_key-moves-preserved : goal.has_key-moves-preserved
has_key-moves-preserved g t c = record {
  whole = move_fails c.args.p.now (c.args.n - 1) (code_of c.in-Some.m) (stage_left c.args.p.now c.skip_unmating.new.self) (stage_left c.args.p.now c.next.new.self) c.apply-next.result c.in-Some.ensures.next c.apply-next.ensures.by_code (sym c.is_mated.ensures ∙ c.if-is_mated.false)
      ∙ (skipped_fail c.args.p.now c.last_escapes.result.bits (c.args.n - 1) (stage_left c.args.p.now c.moves.stage) (stage_left c.args.p.now c.skip_unmating.new.self) c.last_escapes.ensures.if_last (rw (c.at-replies.ensures.position, c.at-replies.ensures.escapes) at c.skip_unmating.ensures.skipped) ∙ c.moves.invariant.whole);
  consistent = c.in-Some.ensures.consistent;
}

pub mates-returns-then-n-eq0 : goal.mates-returns-then-n-eq0
mates-returns-then-n-eq0 g t c = sym (mates_none c.args.p.now c.args.n c.if-n-eq0.true)
