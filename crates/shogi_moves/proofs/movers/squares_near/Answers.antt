use Rattle.std.proofs.Common.{◌+◌, inl, inr, arith}
use Rattle.shogi_moves.proofs.MoverLaws.{near_bits, moved_down, moved_either, moved_up}
use Rattle.shogi_moves.proofs.movers.squares_near.Goals as goal

pub returns : goal.returns
returns c = λ a b ha hb set near. near_bits a b _ _ _ ha hb near
    (λ away. moved_either _ _ a (elim away [
      | inl at ↦ inl (moved_down c.args.squares.bits 1 a b at set)
      | inr at ↦ inr (moved_up c.args.squares.bits 1 a b (omega (arith, c.args.squares.fits)) (omega arith) at set)
    ]))
    (λ k few at. moved_up c.five_places-five.result 7 a (b + k) (omega (arith, c.five_places-five.ensures.fits)) (omega arith) at (c.five_places-five.ensures.bits b k few set))
    (λ k few at. moved_down c.five_places-five.result 11 a (b + k) at (c.five_places-five.ensures.bits b k few set))
