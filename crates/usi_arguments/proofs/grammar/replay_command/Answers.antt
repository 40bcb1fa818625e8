use Rattle.std.proofs.Common.{codes}
use Rattle.clap.specs.Words.{new_app}
use Rattle.usi_arguments.specs.CommandLine.{with_host_options}
use Rattle.usi_arguments.proofs.grammar.replay_command.Goals as goal

pub returns : goal.returns
returns c =
    c.with_setup_options.ensures (with_host_options (new_app (codes "replay")))
    (c.with_host_options.ensures (new_app (codes "replay")) c.described-command.ensures)
