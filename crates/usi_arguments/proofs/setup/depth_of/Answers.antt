use Rattle.std.proofs.Common.{◌∙◌, sym, codes, ap, option_map}
use Rattle.clap.specs.Words.{found_of}
use Rattle.clap.proofs.WalkLemmas.{first_value-rows}
use Rattle.usi_arguments.specs.CommandLine.{options_in}
use Rattle.usi_arguments.proofs.Setups.{left_out_depth, no_named_depths}
use Rattle.usi_arguments.proofs.setup.depth_of.Goals as goal

pub returns-in-Some-clause-if_none : goal.returns-in-Some-clause-if_none
returns-in-Some-clause-if_none c =
    no_named_depths (options_in c.args.options.now) c.args.most c.in-Some.field-0.now c.number_of.result
    (sym (first_value-rows (found_of c.args.options.now) (codes "depth")) ∙ sym c.get_str.ensures ∙ ap (option_map (λ s. s.now)) c.in-Some.is)
    c.number_of.ensures.if_none

pub returns-in-None-clause-some : goal.returns-in-None-clause-some
returns-in-None-clause-some c =
    left_out_depth (options_in c.args.options.now) c.args.most c.usual_depth.result c.requires
    (sym (first_value-rows (found_of c.args.options.now) (codes "depth")) ∙ sym c.get_str.ensures ∙ ap (option_map (λ s. s.now)) c.in-None.is)
    c.usual_depth.ensures
