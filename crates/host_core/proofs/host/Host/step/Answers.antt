use Rattle.host_core.proofs.Kept.{keeps_others, refused_same}
use Rattle.host_core.proofs.host.Host.step.Goals as goal

pub returns-clause-others : goal.returns-clause-others
returns-clause-others g c = keeps_others _ _ _ _ c.answer-outcome.ensures

pub returns-clause-refused : goal.returns-clause-refused
returns-clause-refused g c = refused_same _ _ _ _ c.answer-outcome.ensures
