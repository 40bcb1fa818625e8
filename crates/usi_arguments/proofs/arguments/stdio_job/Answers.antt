use Rattle.usi_arguments.specs.CommandLine.{options_in}
use Rattle.usi_arguments.proofs.Jobs.{no_stdio, no_stdio_setup}
use Rattle.usi_arguments.proofs.Numbers.{if_none}
use Rattle.usi_arguments.proofs.arguments.stdio_job.Goals as goal

pub returns-in_err-entries-clause-if_none : goal.returns-in_err-entries-clause-if_none
returns-in_err-entries-clause-if_none c = if_none c.from_residual.result _ (no_stdio (options_in c.args.options.now) c.in_err-entries.ensures.if_none)

pub returns-in_err-setup-clause-if_none : goal.returns-in_err-setup-clause-if_none
returns-in_err-setup-clause-if_none c = if_none c.from_residual-in_err-setup.result _ (no_stdio_setup (options_in c.args.options.now) c.in_err-setup.ensures.if_none)
