use Rattle.std.proofs.Common.{◌≡◌, ◌≤◌, ◌+◌}
use Rattle.usi_session.specs.Due.{load, turns, EndsSearches, KeepsDue}
use Rattle.usi_session.specs.Known.{IsAllKnown, KeepsAnswers}
use Rattle.usi_session.proofs.session.Session.work.Given as goal

-- the replies due stay, and each step made lowers the load
abbrev pub invariant-turns : goal.invariant-turns
invariant-turns g l = record {
  kept : KeepsDue l.fn.self l.self;
  within : l.left ≤ l.budget;
  made : l.budget + load l.self ≤ load l.fn.self + l.left;
  told : EndsSearches g.M.Memo.called l.fn.memo l.memo l.fn.self l.self;
  capacity : g.M.Memo.capacity l.memo ≡ g.M.Memo.capacity l.fn.memo;
  known :
      KeepsAnswers g.M.Memo.answers g.M.Memo.called → IsAllKnown (g.M.Memo.answers l.fn.memo) l.fn.self
      → (l.left ≡ l.budget) × IsAllKnown (g.M.Memo.answers l.memo) l.self;
}

-- each turn answers a line, reports one, or ends a search
abbrev pub decreases-turns : goal.decreases-turns
decreases-turns g l = turns l.self
