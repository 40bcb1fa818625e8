use Rattle.shogi_search.proofs.CallLaws.{only_asks_one}
use Rattle.shogi_search.proofs.stack.hash_move_of.Goals as goal

pub returns-in-Some-Exact-clause-asks : goal.returns-in-Some-Exact-clause-asks
returns-in-Some-Exact-clause-asks g c = only_asks_one g.M.Memo _ _ _ _ _ _ c.probe.ensures.called c.probe.ensures.capacity

pub returns-in_default-clause-asks : goal.returns-in_default-clause-asks
returns-in_default-clause-asks g c = only_asks_one g.M.Memo _ _ _ _ _ _ c.probe.ensures.called c.probe.ensures.capacity
