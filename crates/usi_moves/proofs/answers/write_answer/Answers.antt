use Rattle.std.proofs.Common.{rules, ◌≡◌, ◌≢◌, [], arith}
use Rattle.std.proofs.lemmas.Grind.{common_steps}
use Rattle.usi_moves.proofs.AnswerLaws.{solved_answer}
use Rattle.usi_moves.proofs.answers.write_answer.Goals as goal

pub returns-in_ok-write_mate-in-Ok : goal.returns-in_ok-write_mate-in-Ok
returns-in_ok-write_mate-in-Ok g c =
    let some : c.in-Text.text.now ≢ [] = first_of (search rules, grind (arith, common_steps)) in
    rw c.in-Text.is (solved_answer c.args.options c.args.number c.in-Text.text.now c.in-Ok.p c.args.out.now.items c.write_mate.new.out.items some c.in-Ok.ensures c.in_ok-write_mate-in-Ok.ensures)
