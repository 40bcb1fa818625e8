use Rattle.std.proofs.Common.{◌≡◌, List, arith, inl, inr, subst, sym}
use Rattle.std.proofs.lemmas.Bool.{cases_eq}
use Rattle.shogi_core.specs.declared.offset.Offset.{Offset}
use Rattle.shogi_core.specs.Bits.{HasBits}
use Rattle.shogi_core.specs.Movement.{is_slide}
use Rattle.shogi_core.proofs.targets.slider_slides.Goals as goal

pub returns-in_default : goal.returns-in_default
returns-in_default c = elim (cases_eq c.first_direction.result 0) [
  | inl zero ↦ record {
    squares = subst (λ (offsets : List Offset). HasBits c.four_slides.result.bits (is_slide c.args.board.now c.args.piece.color offsets c.args.from)) (sym (c.first_direction.ensures.straight zero)) (c.four_slides.ensures.straight zero c.args.piece.color);
  }
  | inr other ↦ (
      let one : c.first_direction.result ≡ 1 = omega (arith, c.first_direction.ensures.range, other) in
      record {
        squares = subst (λ (offsets : List Offset). HasBits c.four_slides.result.bits (is_slide c.args.board.now c.args.piece.color offsets c.args.from)) (sym (c.first_direction.ensures.diagonal one)) (c.four_slides.ensures.diagonal one c.args.piece.color);
      })
]
