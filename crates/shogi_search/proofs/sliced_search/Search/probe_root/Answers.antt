use Rattle.std.proofs.Common.{arith, inr}
use Rattle.std.proofs.lemmas.Int.{ints}
use Rattle.minimax.specs.Minimax.{negated}
use Rattle.minimax.specs.declared.bounds.TheConstants.{INFINITY}
use Rattle.shogi_search.proofs.CallLaws.{only_asks_one, ends_at_once}
use Rattle.shogi_search.proofs.Entries.{same_window}
use Rattle.shogi_search.proofs.sliced_search.Search.probe_root.Goals as goal

pub returns-in_err-entry-clause-asks : goal.returns-in_err-entry-clause-asks
returns-in_err-entry-clause-asks g c = only_asks_one g.M.Memo _ _ _ _ _ _ c.probe.ensures.asked c.probe.ensures.capacity

pub returns-clause-asks : goal.returns-clause-asks
returns-clause-asks g c = only_asks_one g.M.Memo _ _ _ _ _ _ c.probe.ensures.asked c.probe.ensures.capacity

pub returns-clause-told : goal.returns-clause-told
returns-clause-told g c = rw (← c.self.view_is) (record {
  entry = c.in_ok-entry.entry;
  says = c.found_of.ensures.says;
  enough = same_window _ (negated INFINITY) _ c.self.inside.stack.beta c.in_ok-entry.entry (omega (arith, ints)) (omega (arith, ints)) c.in_ok-entry.ensures.known.conclusive;
  last = inr (ends_at_once (rw c.in_ok-entry.ensures.answer c.probe.ensures.asked));
})

pub returns-in_err-entry-clause-first : goal.returns-in_err-entry-clause-first
returns-in_err-entry-clause-first g c = rw (← c.self.view_is) c.probe.ensures.asked

pub returns-clause-first : goal.returns-clause-first
returns-clause-first g c = rw (← c.self.view_is) c.probe.ensures.asked
