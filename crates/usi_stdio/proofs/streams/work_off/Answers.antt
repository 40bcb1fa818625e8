use Rattle.std.proofs.Common.{refl, ◌∙◌}
use Rattle.usi_session.proofs.TellsLaws.{ended_then_for, none_called, none_ended_for}
use Rattle.usi_stdio.proofs.Working.{passed_on, worked_start, worked_prefix, worked_more}
use Rattle.usi_stdio.proofs.streams.work_off.Goals as goal

pub slices-init : goal.slices-init
slices-init g c = record {
  worked = worked_start _ _ c.requires;
  told = none_ended_for _ _ _ _ _ (none_called _ _) (λ x. refl);
  capacity = refl;
}

-- one more slice is worked
pub slices-preserved : goal.slices-preserved
slices-preserved g c = record {
  worked = worked_more _ c.slices.session _ _ _ _ c.slices.invariant.worked c.in_ok-work_slice.ensures.ok;
  told = ended_then_for _ _ _ _ _ _ _ c.slices.invariant.told c.in_ok-work_slice.ensures.told;
  capacity = c.work_slice.ensures.capacity ∙ c.slices.invariant.capacity;
}

-- a fault cut the slice short
pub returns-in_err-work_slice-clause-err : goal.returns-in_err-work_slice-clause-err
returns-in_err-work_slice-clause-err g c = passed_on c.from_residual.result _ _ c.from_residual.ensures.1 (worked_prefix _ c.slices.session _ _ _ _ c.slices.invariant.worked c.in_err-work_slice.ensures.err)
