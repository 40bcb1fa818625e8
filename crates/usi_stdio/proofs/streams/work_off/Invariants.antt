use Rattle.std.proofs.Common.{◌≡◌}
use Rattle.usi_session.specs.Due.{EndsSearches}
use Rattle.usi_stdio.specs.Saying.{IsWorkedOn, slices_of}
use Rattle.usi_stdio.proofs.streams.work_off.Given as goal

-- the replies made so far are written
abbrev pub invariant-slices : goal.invariant-slices
invariant-slices g l = record {
  worked : IsWorkedOn l.fn.session l.session (g.T.FrontEnd.report l.fn.front_end) (g.T.FrontEnd.report l.front_end);
  told : EndsSearches g.M.Memo.called l.fn.memo l.memo l.fn.session l.session;
  capacity : g.M.Memo.capacity l.memo ≡ g.M.Memo.capacity l.fn.memo;
}

-- each slice makes a step if something is pending after it
abbrev pub decreases-slices : goal.decreases-slices
decreases-slices g l = slices_of l.session
