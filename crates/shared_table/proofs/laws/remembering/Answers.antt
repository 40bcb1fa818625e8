use Rattle.shared_table.proofs.UseLaws.{remembers}
use Rattle.shared_table.proofs.laws.remembering.Goals as goal

pub returns : goal.returns
returns c = remembers
