use Rattle.std.proofs.Common.{codes}
use Rattle.clap.specs.Words.{with_rule}
use Rattle.usi_arguments.specs.CommandLine.{flag_option, mate_position}
use Rattle.usi_arguments.proofs.grammar.mate_command.Goals as goal

pub returns : goal.returns
returns c =
    c.with_option.ensures (with_rule mate_position (flag_option (codes "line"))) (flag_option (codes "keys")) c.flag_option-2.ensures
    (c.with_option-made.ensures mate_position (flag_option (codes "line")) c.flag_option.ensures c.mate_position.ensures)
