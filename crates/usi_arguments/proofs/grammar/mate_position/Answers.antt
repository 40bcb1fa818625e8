use Rattle.std.proofs.Common.{codes}
use Rattle.clap.specs.Words.{new_app, with_rule}
use Rattle.usi_arguments.specs.CommandLine.{mate_plies_option, sfen_option}
use Rattle.usi_arguments.proofs.grammar.mate_position.Goals as goal

pub returns : goal.returns
returns c =
    c.with_option.ensures (with_rule (new_app (codes "mate")) mate_plies_option) sfen_option c.sfen_or_lines_option.ensures
    (c.with_option-made.ensures (new_app (codes "mate")) mate_plies_option c.mate_plies_option.ensures c.described-command.ensures)
