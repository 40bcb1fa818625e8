use Rattle.std.proofs.Common.{◌∙◌, sym, arith, inl, inr}
use Rattle.std.proofs.lemmas.Bool.{both_ways, cases_Bool, true_from_ne_false, and_parts}
use Rattle.shogi_core.specs.Bits.{has_bit}
use Rattle.shogi_core.proofs.BitLaws.{has_bit-and}
use Rattle.last_ply.proofs.MateLaws.{tried}
use Rattle.last_ply.proofs.mates.MateSearch.has_board_mate.Goals as goal

pub pieces-init : goal.pieces-init
pieces-init c = rw (c.iter-left.ensures, c.without.ensures) (record {
  all = λ n h own out. elim (cases_Bool (has_bit c.movable.result.bits n)) [
    | inl moves ↦ c.non_mating_pieces.ensures n h (true_from_ne_false (has_bit c.non_mating_pieces.result.bits n) (λ near. both_ways _ out (tried c.movable.result.bits c.non_mating_pieces.result.bits n (omega (arith, c.non_mating_pieces.result.fits)) h moves near)))
    | inr stays ↦ λ m promote hm legal. absurd (c.movable.ensures.others n h (c.args.self.now.frontier.owns n h ∙ own) stays m promote hm legal)
  ];
  within = λ n h e. sym (c.args.self.now.frontier.owns n h) ∙ c.movable.ensures.within n (and_parts _ _ (sym (has_bit-and c.movable.result.bits _ n) ∙ e)).0;
})
