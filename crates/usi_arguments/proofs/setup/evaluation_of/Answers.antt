use Rattle.std.proofs.Common.{◌∙◌, sym, codes, ap, option_map}
use Rattle.clap.specs.Words.{found_of}
use Rattle.clap.proofs.WalkLemmas.{first_value-rows}
use Rattle.usi_arguments.specs.Setup.{evaluation_in}
use Rattle.usi_arguments.proofs.setup.evaluation_of.Goals as goal

pub returns-in_err-get_str : goal.returns-in_err-get_str
returns-in_err-get_str c =
    c.from_residual.ensures ∙ ap evaluation_in
    (sym (ap (option_map (λ s. s.now)) c.in_err-get_str.was) ∙ c.get_str.ensures
    ∙ first_value-rows (found_of c.args.options.now) (codes "eval"))

pub returns : goal.returns
returns c =
    c.evaluation_named.ensures
    ∙ ap evaluation_in
    (sym (ap (option_map (λ s. s.now)) c.in_ok-get_str.was) ∙ c.get_str.ensures
    ∙ first_value-rows (found_of c.args.options.now) (codes "eval"))
