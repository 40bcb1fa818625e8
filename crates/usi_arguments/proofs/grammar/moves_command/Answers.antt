use Rattle.std.proofs.Common.{codes}
use Rattle.clap.specs.Words.{new_app}
use Rattle.usi_arguments.specs.CommandLine.{sfen_option}
use Rattle.usi_arguments.proofs.grammar.moves_command.Goals as goal

pub returns : goal.returns
returns c =
    c.with_option.ensures (new_app (codes "moves")) sfen_option c.sfen_option.ensures c.described-command.ensures
