use Rattle.std.proofs.Common.{◌≡◌, ◌+◌, ◌-◌, ◌*◌, length}
use Rattle.mate_search.specs.Mates.{is_mated, mates}
use Rattle.mate_search.specs.Stages.{IsStage, stage_left}
use Rattle.mate_search.proofs.MateLaws.{mates_by, is_met_by}
use Rattle.mate_search.proofs.by_checks.+mates.Given as goal

abbrev pub decreases-is_mated : goal.decreases-is_mated
decreases-is_mated g l = 3 * l.n + 2

abbrev pub decreases-mates : goal.decreases-mates
decreases-mates g l = 3 * l.n + 1

abbrev pub decreases-has_key : goal.decreases-has_key
decreases-has_key g l = 3 * l.n

-- the replies so far are met: the rest decides
abbrev pub invariant-is_mated-replies : goal.invariant-is_mated-replies
invariant-is_mated-replies g l = record {
  whole : is_met_by l.q l.n (stage_left l.q l.stage) ≡ is_mated l.q l.n;
  consistent : IsStage l.q l.stage;
}

abbrev pub decreases-is_mated-replies : goal.decreases-is_mated-replies
decreases-is_mated-replies g l = length (stage_left l.q l.stage)

-- none of the moves so far mates: the rest decides
abbrev pub invariant-has_key-moves : goal.invariant-has_key-moves
invariant-has_key-moves g l = record {
  whole : mates_by l.p (l.n - 1) (stage_left l.p l.stage) ≡ mates l.p l.n;
  consistent : IsStage l.p l.stage;
}

abbrev pub decreases-has_key-moves : goal.decreases-has_key-moves
decreases-has_key-moves g l = length (stage_left l.p l.stage)
