use Rattle.std.proofs.Common.{codes}
use Rattle.clap.specs.Words.{new_app, with_rule}
use Rattle.usi_arguments.specs.CommandLine.{divide_option, plies_option, sfen_option}
use Rattle.usi_arguments.proofs.grammar.perft_command.Goals as goal

pub returns : goal.returns
returns c =
    c.with_option.ensures (with_rule (with_rule (new_app (codes "perft")) plies_option) sfen_option) divide_option c.divide_option.ensures
    (c.with_option-made-2.ensures (with_rule (new_app (codes "perft")) plies_option) sfen_option c.sfen_option.ensures
    (c.with_option-made.ensures (new_app (codes "perft")) plies_option c.plies_option.ensures c.described-command.ensures))
