use Rattle.usi_arguments.specs.CommandLine.{options_in}
use Rattle.usi_arguments.proofs.Jobs.{no_mate}
use Rattle.usi_arguments.proofs.arguments.mate_job.Goals as goal

pub returns-in_default-clause-if_none : goal.returns-in_default-clause-if_none
returns-in_default-clause-if_none c = no_mate (options_in c.args.options.now) c.in_default.ensures.if_none
