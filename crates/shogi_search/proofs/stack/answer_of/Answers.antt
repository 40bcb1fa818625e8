use Rattle.shogi_search.proofs.CallLaws.{only_asks_one}
use Rattle.shogi_search.proofs.stack.answer_of.Goals as goal

pub returns-clause-asks : goal.returns-clause-asks
returns-clause-asks g c = only_asks_one g.M.Memo _ _ _ _ _ _ c.probe.ensures.asked c.probe.ensures.capacity
