use Rattle.std.proofs.Common.{codes}
use Rattle.clap.specs.Words.{new_app, with_rule}
use Rattle.usi_arguments.specs.CommandLine.{socket_option, status_option}
use Rattle.usi_arguments.proofs.grammar.socket_command.Goals as goal

pub returns : goal.returns
returns c =
    c.with_option.ensures (with_rule (new_app (codes "serve")) socket_option) status_option c.value_option.ensures
    (c.with_option-made.ensures (new_app (codes "serve")) socket_option c.socket_option.ensures
    c.described-command.ensures)
