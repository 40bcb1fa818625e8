use Rattle.shogi_search.proofs.CallLaws.{tells_note, tells_none}
use Rattle.shogi_search.proofs.stack.Stack.store_top.Goals as goal

pub returns-then-self-eq0-clause-told : goal.returns-then-self-eq0-clause-told
returns-then-self-eq0-clause-told g c = tells_note g.M.Memo.called _ _ _ _ _ _ c.note.ensures.called

pub returns-else-is_noted_anyway-clause-told : goal.returns-else-is_noted_anyway-clause-told
returns-else-is_noted_anyway-clause-told g c = tells_none g.M.Memo.called _
