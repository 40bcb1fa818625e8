use Rattle.std.proofs.Common.{◌≡◌, suc, length}
use Rattle.mate_search.specs.Mates.{mates}
use Rattle.mate_search.specs.Stages.{IsStage, stage_left}
use Rattle.mate_search.proofs.MateLaws.{mates_by}
use Rattle.mate_search.proofs.solution.mates_telling.Given as goal

-- none of the moves so far mates: the rest decides
abbrev pub invariant-moves : goal.invariant-moves
invariant-moves g l = record {
  whole : mates_by l.p l.n (stage_left l.p l.stage) ≡ mates l.p (suc l.n);
  consistent : IsStage l.p l.stage;
}

abbrev pub decreases-moves : goal.decreases-moves
decreases-moves g l = length (stage_left l.p l.stage)
