use Rattle.shared_table.proofs.UseLaws.{question_keeps}
use Rattle.usi_library.proofs.opened.Opened.work.Goals as goal

pub returns-clause-known : goal.returns-clause-known
returns-clause-known c = c.work.ensures.known question_keeps
