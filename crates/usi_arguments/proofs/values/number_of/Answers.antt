use Rattle.std.proofs.Common.{◌∙◌, sym, ap, option_map, arith}
use Rattle.clap.specs.Words.{found_of}
use Rattle.clap.proofs.WalkLemmas.{first_value-rows}
use Rattle.usi_arguments.specs.CommandLine.{IsFromOne, options_in}
use Rattle.usi_arguments.proofs.Numbers.{if_none, no_number, no_text, other_in_range}
use Rattle.usi_arguments.proofs.values.number_of.Goals as goal
use Rattle.usi_arguments.proofs.values.number_of.Goals.{else-n-ge1-via-then-n-ge1+else-n-most, else-n-ge1-via-else-n-ge1}

pub returns-in_err-text-clause-if_none : goal.returns-in_err-text-clause-if_none
returns-in_err-text-clause-if_none c =
    if_none c.from_residual.result _
    (no_text c.args.most c.args.name.now (options_in c.args.options.now)
    (sym (first_value-rows (found_of c.args.options.now) c.args.name.now) ∙ sym c.get_str.ensures ∙ ap (option_map (λ s. s.now)) c.in_err-text.was))

pub returns-in_err-n-clause-if_none : goal.returns-in_err-n-clause-if_none
returns-in_err-n-clause-if_none c =
    if_none c.from_residual-in_err-n.result _
    (no_number c.args.most c.args.name.now (options_in c.args.options.now) c.in_ok-text.text.now (omega arith)
    (sym (first_value-rows (found_of c.args.options.now) c.args.name.now) ∙ sym c.get_str.ensures ∙ ap (option_map (λ s. s.now)) c.in_ok-text.was)
    c.in_err-n.ensures.if_none)

pub returns-then-n-most-clause-some : goal.returns-then-n-most-clause-some
returns-then-n-most-clause-some c = (
  (c.if-n-ge1.true, c.if-n-most.true),
  (
    c.in_ok-text.text.now,
    sym (first_value-rows (found_of c.args.options.now) c.args.name.now) ∙ sym c.get_str.ensures ∙ ap (option_map (λ s. s.now)) c.in_ok-text.was,
    c.in_ok-n.ensures.some,
  ),
)

pub returns-else-n-ge1-clause-if_none : goal.returns-else-n-ge1-clause-if_none
returns-else-n-ge1-clause-if_none c =
    let out : IsFromOne c.args.most c.in_ok-n.n → ⊥ = λ range. elim c.else-n-ge1.branch [
      | else-n-ge1-via-then-n-ge1+else-n-most w ↦ omega arith
      | else-n-ge1-via-else-n-ge1 w ↦ omega arith
    ] in
    other_in_range c.args.most c.args.name.now (options_in c.args.options.now) c.in_ok-n.n out (
      c.in_ok-text.text.now,
      sym (first_value-rows (found_of c.args.options.now) c.args.name.now) ∙ sym c.get_str.ensures ∙ ap (option_map (λ s. s.now)) c.in_ok-text.was,
      c.in_ok-n.ensures.some,
    )
