use Rattle.usi_arguments.specs.CommandLine.{socket_command, turns_option, with_host_options, with_setup_options}
use Rattle.usi_arguments.proofs.grammar.serve_command.Goals as goal

pub returns : goal.returns
returns c =
    c.with_option.ensures (with_setup_options (with_host_options socket_command)) turns_option c.turns_option.ensures
    (c.with_setup_options-made.ensures (with_host_options socket_command)
    (c.with_host_options-made.ensures socket_command c.socket_command.ensures))
