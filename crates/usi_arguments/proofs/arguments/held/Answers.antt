use Rattle.std.proofs.Common.{rules}
use Rattle.usi_arguments.proofs.Line.{refused_even}
use Rattle.usi_arguments.proofs.arguments.held.Goals as goal

pub returns-then-is_even : goal.returns-then-is_even
returns-then-is_even c = refused_even c.args.job c.refused_with.result (search rules) c.refused_with.ensures
