use Rattle.usi_arguments.specs.CommandLine.{options_in}
use Rattle.usi_arguments.proofs.Jobs.{no_perft}
use Rattle.usi_arguments.proofs.arguments.perft_job.Goals as goal

pub returns-in_default-clause-if_none : goal.returns-in_default-clause-if_none
returns-in_default-clause-if_none c = no_perft (options_in c.args.options.now) c.in_default.ensures.if_none
