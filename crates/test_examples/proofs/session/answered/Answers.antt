use Rattle.std.proofs.Common.{sym, ◌∙◌, rules}
use Rattle.usi_session.proofs.Settled.{due-settled, new_wants}
use Rattle.test_examples.proofs.session.answered.Goals as goal

-- a new session wants input
pub feed-requires-clause-wants : goal.feed-requires-clause-wants
feed-requires-clause-wants g c = rw c.new-session.ensures.initial new_wants

-- nothing is pending, so what is owed is queued
pub returns-then-not-pending : goal.returns-then-not-pending
returns-then-not-pending g c = sym (due-settled c.slices.session (search rules)) ∙ c.slices.invariant
