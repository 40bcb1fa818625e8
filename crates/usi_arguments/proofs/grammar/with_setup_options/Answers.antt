use Rattle.clap.specs.Words.{with_rule}
use Rattle.usi_arguments.specs.CommandLine.{depth_option, eval_option, lines_option, max_depth_option}
use Rattle.usi_arguments.proofs.grammar.with_setup_options.Goals as goal

pub returns : goal.returns
returns c = λ app made.
    c.with_option.ensures (with_rule (with_rule (with_rule app depth_option) max_depth_option) lines_option) eval_option c.eval_option.ensures
    (c.with_option-made-3.ensures (with_rule (with_rule app depth_option) max_depth_option) lines_option c.number_option-2.ensures
    (c.with_option-made-2.ensures (with_rule app depth_option) max_depth_option c.number_option.ensures
    (c.with_option-made.ensures app depth_option c.depth_option.ensures made)))
