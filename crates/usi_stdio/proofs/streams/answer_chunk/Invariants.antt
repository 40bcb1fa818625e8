use Rattle.std.proofs.Common.{◌≡◌, length}
use Rattle.usi_stdio.proofs.Lining.{IsAnsweredTo}
use Rattle.usi_stdio.proofs.Remembering.{TellsUpTo}
use Rattle.usi_stdio.proofs.streams.answer_chunk.Given as goal

-- the answers to the lines before `rest` are written
abbrev pub invariant-lines : goal.invariant-lines
invariant-lines g l = record {
  answered : IsAnsweredTo l.rest l.fn.session l.session l.chunk (g.T.FrontEnd.report l.fn.front_end) (g.T.FrontEnd.report l.front_end);
  told : TellsUpTo g.M.Memo.called l.fn.memo l.memo l.fn.session l.chunk l.session l.rest;
  capacity : g.M.Memo.capacity l.memo ≡ g.M.Memo.capacity l.fn.memo;
}

abbrev pub decreases-lines : goal.decreases-lines
decreases-lines g l = length l.rest
