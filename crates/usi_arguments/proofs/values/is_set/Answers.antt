use Rattle.std.proofs.Common.{◌≡◌, ◌∙◌, Some, None, sym, ap, option_map}
use Rattle.clap.specs.Words.{first_of, found_of}
use Rattle.clap.proofs.WalkLemmas.{first_value-rows}
use Rattle.usi_arguments.specs.CommandLine.{is_true, options_in}
use Rattle.usi_arguments.proofs.values.is_set.Goals as goal

pub returns-in-Some : goal.returns-in-Some
returns-in-Some c =
    let found : first_of c.args.name.now (options_in c.args.options.now) ≡ Some c.in-Some.text.now =
    sym (first_value-rows (found_of c.args.options.now) c.args.name.now) ∙ sym c.get_str.ensures ∙ ap (option_map (λ s. s.now)) c.in-Some.is in
    c.eq.ensures ∙ ap is_true (sym found)

pub returns-in-None : goal.returns-in-None
returns-in-None c =
    let found : first_of c.args.name.now (options_in c.args.options.now) ≡ None =
    sym (first_value-rows (found_of c.args.options.now) c.args.name.now) ∙ sym c.get_str.ensures ∙ ap (option_map (λ s. s.now)) c.in-None.is in
    ap is_true (sym found)
