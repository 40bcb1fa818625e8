use Rattle.std.proofs.Common.{rules, ◌≡◌, ◌∙◌, ◌++◌, ap, arith, flat_map, take}
use Rattle.std.proofs.lemmas.Grind.{common_steps}
use Rattle.shogi_core.specs.declared.moves.Move.{Move}
use Rattle.shogi_core.specs.Codes.{code_of}
use Rattle.usi_moves.specs.Solutions.{word_of}
use Rattle.usi_moves.proofs.SolutionLaws.{words_mapped}
use Rattle.usi_moves.proofs.solutions.write_words.Goals as goal

pub returns : goal.returns
returns g c =
    let whole : take c.loop-m.m-index c.args.moves.now ≡ c.args.moves.now = first_of (search rules, grind (arith, common_steps)) in
    c.loop-m.invariant
    ∙ ap (λ xs. c.args.out.now.items ++ xs) (ap (flat_map (λ (m : Move). word_of (code_of m))) whole ∙ words_mapped c.args.moves.now)
