use Rattle.std.proofs.Common.{false, refl, sym, ◌∙◌}
use Rattle.std.proofs.lemmas.Bool.{both_ways}
use Rattle.shogi_core.specs.Attack.{is_attacked}
use Rattle.shogi_core.proofs.Answers.{step_stays, shot_stays, one_bit}
use Rattle.shogi_core.proofs.SliderAttacks.{attacked_by_slide, step_alike, steps_alike}
use Rattle.shogi_core.proofs.attack.evasion_squares_on.Goals as goal

pub returns-in-Some : goal.returns-in-Some
returns-in-Some c = record {
  stays = λ _. step_stays c.with.result.bits c.args.board.now c.args.by c.args.square c.in-Some.from c.reveal_invariant.ensures c.in-Some.ensures.range
      (sym (step_alike c.args.board.now c.args.board.now c.args.by c.own.result.bits c.own.ensures.squares (λ n l e. refl) c.args.square c.in-Some.from c.in-Some.ensures.range) ∙ c.in-Some.ensures.steps)
      (one_bit c.with.result.bits c.in-Some.from (rw c.none.ensures at c.with.ensures));
}

pub returns-in-Some-attacking_direction : goal.returns-in-Some-attacking_direction
returns-in-Some-attacking_direction c = record { stays = λ _. shot_stays c.slide_squares.result.bits c.args.board.now c.args.by c.args.square c.in-Some-attacking_direction.direction c.reveal_invariant.ensures c.in-Some-attacking_direction.ensures.range c.in-Some-attacking_direction.ensures.shot c.slide_squares.ensures.squares }

pub returns-in-None : goal.returns-in-None
returns-in-None c = record {
  stays = λ attacked. absurd (both_ways (is_attacked c.args.board.now c.args.by c.args.square)
      (sym (attacked_by_slide c.args.board.now c.args.by c.args.square c.reveal_invariant.ensures false (sym (steps_alike c.args.board.now c.args.board.now c.args.by c.own.result.bits c.own.ensures.squares (λ n l e. refl) c.args.square) ∙ c.in_default.ensures.if_none refl) (sym (c.in-None.ensures.if_none refl)))) attacked);
}
