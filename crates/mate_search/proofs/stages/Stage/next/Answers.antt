use Rattle.std.proofs.Common.{ap, true, false}
use Rattle.shogi_moves.specs.Sweeps.{board_left, matching_from}
use Rattle.mate_search.specs.Stages.{stage_left}
use Rattle.mate_search.proofs.StageLaws.{captures_over, next_of}
use Rattle.mate_search.proofs.stages.Stage.next.Goals as goal

pub returns-in_default-next-clause-next : goal.returns-in_default-next-clause-next
returns-in_default-next-clause-next c =
    next_of c.first_quiet-found.result.0 (matching_from c.args.p.now false 0) (stage_left c.args.p.now c.args.self.now) (stage_left c.args.p.now c.first_quiet-found.result.1)
    (captures_over c.args.p.now (board_left c.args.p.now true c.in-Captures.sweep) (stage_left c.args.p.now c.args.self.now) (matching_from c.args.p.now false 0) (ap (stage_left c.args.p.now) c.in-Captures.is) c.in_default-next.ensures.next)
    (rw c.at-known-in-Captures.ensures at c.first_quiet-found.ensures.next)
