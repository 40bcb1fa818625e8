use Rattle.clap.specs.Words.{with_rule}
use Rattle.usi_arguments.specs.CommandLine.{entries_option, slice_option, slots_option}
use Rattle.usi_arguments.proofs.grammar.with_host_options.Goals as goal

pub returns : goal.returns
returns c = λ app made.
    c.with_option.ensures (with_rule (with_rule app slots_option) entries_option) slice_option c.number_option-2.ensures
    (c.with_option-made-2.ensures (with_rule app slots_option) entries_option c.entries_option.ensures
    (c.with_option-made.ensures app slots_option c.number_option.ensures made))
