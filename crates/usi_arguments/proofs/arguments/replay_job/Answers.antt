use Rattle.usi_arguments.specs.CommandLine.{options_in}
use Rattle.usi_arguments.proofs.Jobs.{no_replay}
use Rattle.usi_arguments.proofs.Numbers.{if_none}
use Rattle.usi_arguments.proofs.arguments.replay_job.Goals as goal

pub returns-in_err-host_of-clause-if_none : goal.returns-in_err-host_of-clause-if_none
returns-in_err-host_of-clause-if_none c = if_none c.from_residual.result _ (no_replay (options_in c.args.options.now) c.in_err-host_of.ensures.if_none)
