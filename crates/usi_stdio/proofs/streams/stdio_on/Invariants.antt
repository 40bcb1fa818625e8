use Rattle.std.proofs.Common.{◌≡◌}
use Rattle.usi_stdio.proofs.Between.{IsBetween}
use Rattle.usi_stdio.proofs.Remembering.{IsToldOf}
use Rattle.usi_stdio.proofs.streams.stdio_on.Given as goal

-- each line read is answered or due
abbrev pub invariant-chunks : goal.invariant-chunks
invariant-chunks g l = record {
  between : IsBetween l.fn.setup (g.T.FrontEnd.report l.fn.front_end) (g.T.FrontEnd.report l.front_end) l.session l._reads;
  told : IsToldOf g.M.Memo.called l.fn.setup (g.T.FrontEnd.report l.fn.front_end) (g.T.FrontEnd.report l.front_end) l.fn.memo l.memo l.session;
  capacity : g.M.Memo.capacity l.memo ≡ g.M.Memo.capacity l.fn.memo;
}
