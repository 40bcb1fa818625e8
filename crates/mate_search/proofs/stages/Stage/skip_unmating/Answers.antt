use Rattle.std.proofs.Common.{ap, true, false}
use Rattle.shogi_moves.specs.Sweeps.{board_left, drops_left, matching_from}
use Rattle.mate_search.specs.Stages.{IsUnmating, stage_left}
use Rattle.mate_search.proofs.StageLaws.{moves_skipped, drops_skipped, skipped_before, skipped_of}
use Rattle.mate_search.proofs.stages.Stage.skip_unmating.Goals as goal

pub returns-in-Captures-clause-skipped : goal.returns-in-Captures-clause-skipped
returns-in-Captures-clause-skipped c =
    skipped_of (IsUnmating c.args.replies.now.position.now c.args.replies.now.escapes.bits) _ (stage_left c.args.replies.now.position.now c.args.self.now) _ (ap (stage_left c.args.replies.now.position.now) c.in-Captures.is)
    (skipped_before (IsUnmating c.args.replies.now.position.now c.args.replies.now.escapes.bits) (board_left c.args.replies.now.position.now true c.in-Captures.sweep) (board_left c.args.replies.now.position.now true c.skip_moves.new.sweep) (matching_from c.args.replies.now.position.now false 0)
    (moves_skipped c.args.replies.now.position.now true _ c.args.replies.now.escapes.bits _ _ _ c.skip_moves.ensures.passed))

pub returns-in-Quiets-clause-skipped : goal.returns-in-Quiets-clause-skipped
returns-in-Quiets-clause-skipped c =
    skipped_of (IsUnmating c.args.replies.now.position.now c.args.replies.now.escapes.bits) _ (stage_left c.args.replies.now.position.now c.args.self.now) _ (ap (stage_left c.args.replies.now.position.now) c.in-Quiets.is)
    (moves_skipped c.args.replies.now.position.now false _ c.args.replies.now.escapes.bits _ (board_left c.args.replies.now.position.now false c.in-Quiets.sweep) _ c.skip_moves-in-Quiets.ensures.passed)

pub returns-in-Drops-clause-skipped : goal.returns-in-Drops-clause-skipped
returns-in-Drops-clause-skipped c =
    skipped_of (IsUnmating c.args.replies.now.position.now c.args.replies.now.escapes.bits) _ (stage_left c.args.replies.now.position.now c.args.self.now) _ (ap (stage_left c.args.replies.now.position.now) c.in-Drops.is)
    (drops_skipped c.args.replies.now.position.now _ _ c.args.replies.now.escapes.bits _ (drops_left c.args.replies.now.position.now c.in-Drops.sweep) _ c.skip_drops.ensures.passed)
