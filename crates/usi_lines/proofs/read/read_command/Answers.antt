use Rattle.std.proofs.Common.{◌≡◌, ◌∙◌, ◌∷◌, ap, sym, ℕ, List}
use Rattle.shogi_sfen.specs.Words.{words, after_word}
use Rattle.usi_lines.proofs.CommandLaws.{command_of-none, command_of-some, command_of_fits}
use Rattle.usi_lines.proofs.read.read_command.Goals as goal

pub returns-in-None-clause-command : goal.returns-in-None-clause-command
returns-in-None-clause-command c =
    command_of-none c.args.line.now (ap words (sym c.words-rest.ensures) ∙ c.in-None.ensures.steps.0)

pub returns-in-None-clause-range : goal.returns-in-None-clause-range
returns-in-None-clause-range c = command_of_fits c.args.line.now

pub returns-in-Some-clause-command : goal.returns-in-Some-clause-command
returns-in-Some-clause-command c =
    let step = c.in-Some.ensures.steps in
    let first : words c.args.line.now ≡ c.in-Some.name.now ∷ words c.rest.result.now =
    ap words (sym c.words-rest.ensures) ∙ (step.0 ∙ ap (λ (r : List ℕ). c.in-Some.name.now ∷ words r) (sym c.rest.ensures)) in
    let after : c.rest.result.now ≡ after_word c.args.line.now = c.rest.ensures ∙ (step.1 ∙ ap after_word c.words-rest.ensures) in
    c.named.ensures ∙ command_of-some c.args.line.now c.in-Some.name.now c.rest.result.now first after

pub returns-in-Some-clause-range : goal.returns-in-Some-clause-range
returns-in-Some-clause-range c = command_of_fits c.args.line.now
