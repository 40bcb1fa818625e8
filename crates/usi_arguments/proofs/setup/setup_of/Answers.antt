use Rattle.std.proofs.Common.{◌∙◌, sym}
use Rattle.usi_arguments.specs.CommandLine.{options_in}
use Rattle.usi_arguments.proofs.Numbers.{if_none}
use Rattle.usi_arguments.proofs.Setups.{no_depth, no_evaluation, no_lines, no_max_depth}
use Rattle.usi_arguments.proofs.setup.setup_of.Goals as goal

pub returns-in_err-max_depth-clause-if_none : goal.returns-in_err-max_depth-clause-if_none
returns-in_err-max_depth-clause-if_none c = if_none c.from_residual.result _ (no_max_depth (options_in c.args.options.now) c.in_err-max_depth.ensures.if_none)

pub returns-in_err-depth-clause-if_none : goal.returns-in_err-depth-clause-if_none
returns-in_err-depth-clause-if_none c =
    if_none c.from_residual-in_err-depth.result _
    (no_depth (options_in c.args.options.now) c.in_ok-max_depth.max_depth c.in_ok-max_depth.ensures.some.1 c.in_err-depth.ensures.if_none)

pub returns-in_err-lines-clause-if_none : goal.returns-in_err-lines-clause-if_none
returns-in_err-lines-clause-if_none c = if_none c.from_residual-in_err-lines.result _ (no_lines (options_in c.args.options.now) c.in_err-lines.ensures.if_none)

pub returns-in_err-evaluation-clause-if_none : goal.returns-in_err-evaluation-clause-if_none
returns-in_err-evaluation-clause-if_none c =
    if_none c.from_residual-in_err-evaluation.result _
    (no_evaluation (options_in c.args.options.now) (sym c.evaluation_of.ensures ∙ c.in_err-evaluation.was))
