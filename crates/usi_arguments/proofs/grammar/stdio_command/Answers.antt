use Rattle.std.proofs.Common.{codes}
use Rattle.clap.specs.Words.{new_app, with_rule}
use Rattle.usi_arguments.specs.CommandLine.{entries_option}
use Rattle.usi_arguments.proofs.grammar.stdio_command.Goals as goal

pub returns : goal.returns
returns c =
    c.with_setup_options.ensures (with_rule (new_app (codes "stdio")) entries_option)
    (c.with_option.ensures (new_app (codes "stdio")) entries_option c.entries_option.ensures c.described-command.ensures)
