use Rattle.std.proofs.Common.{◌-◌, ◌^◌, ◌∙◌, ap, sym}
use Rattle.std.proofs.lemmas.Bool.{and_parts}
use Rattle.shogi_core.specs.Bits.{has_bit}
use Rattle.shogi_core.proofs.BitLaws.{has_bit-and}
use Rattle.shogi_moves.proofs.EscapeLaws.{found_escapes}
use Rattle.shogi_moves.proofs.pawn_escape.first_escape.Goals as goal

pub invariant_of-result : goal.invariant_of-result
invariant_of-result c = record {
  right = found_escapes c.args.position.now c.king_steps.result.bits c.first_unattacked.result.bits c.reveal_invariant.ensures c.king_steps.ensures (λ n h e. (
    (and_parts _ _ (sym (has_bit-and c.king_steps.result.bits (2 ^ 128 - 1 - c.args.closed.bits) n) ∙ (sym (ap (λ m. has_bit m n) c.without.ensures) ∙ c.first_unattacked.ensures.squares n e))).0,
    (rw (c.side-side.ensures, c.as_board-board.ensures) at c.first_unattacked.ensures.safe) n h e,
  ));
}
