use Rattle.std.proofs.Common.{rules}
use Rattle.usi_session.proofs.WholeReplies.{reported_whole}
use Rattle.usi_session.proofs.session.queue_line.Goals as goal

pub returns-clause-line : goal.returns-clause-line
returns-clause-line g c = record { line = c.report.new.out.items; after_line = search rules; writes = search rules; whole = reported_whole c.report.new.out.items (search rules) }
