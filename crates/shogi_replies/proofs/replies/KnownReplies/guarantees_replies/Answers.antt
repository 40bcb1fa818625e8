use Rattle.std.proofs.Common.{◌∙◌, ap, arith, false, sym, true}
use Rattle.std.proofs.lemmas.Bool.{and_parts}
use Rattle.shogi_core.specs.Bits.{has_bit}
use Rattle.shogi_core.proofs.BitLaws.{has_bit-and}
use Rattle.shogi_moves.proofs.DestinationLaws.{among_bits, none_there}
use Rattle.shogi_replies.proofs.PassLaws.{guaranteed_moves}
use Rattle.shogi_replies.proofs.replies.KnownReplies.guarantees_replies.Goals as goal

pub returns : goal.returns
returns c = λ e. guaranteed_moves c.args.self.now.position.now c.args.capture c.args.move_filter.now c.args.self.now.escapes.bits c.args.from c.bitand-ends.result.bits c.promoting_squares.result.bits c.guaranteed_destinations-guaranteed.result.bits c.promotions-promotions.result.bits c.guaranteed_destinations-promoted.result.bits
    (λ n h. ap (λ m. has_bit m n) c.bitand-ends.ensures ∙ among_bits c.targets.result.bits c.matching_destinations.result.bits n _ _ (rw c.as_board.ensures at c.targets.ensures.squares n h) (c.matching_destinations.ensures.squares n h))
    (rw c.at.ensures at c.promoting_squares.ensures.squares) (sym c.has.ensures ∙ c.if-not-has.false) (omega arith) (omega arith) c.promotions-promotions.ensures.promotes c.guaranteed_destinations-guaranteed.ensures.guaranteed c.guaranteed_destinations-promoted.ensures.guaranteed
    (rw (c.bitor-uncertain.ensures, c.without-4.ensures, c.without-5.ensures, c.bitand-2.ensures, c.bitand-3.ensures, c.bitand-promoting.ensures) at (none_there _ _ c.is_empty-3.ensures e))

pub returns-then-is_unseen : goal.returns-then-is_unseen
returns-then-is_unseen c = λ e. record {
  piece = sym c.has.ensures ∙ c.if-not-has.false;
  non_promoting = λ n h reached. (
      let ends : _ = ap (λ m. has_bit m n) c.bitand-ends.ensures ∙ among_bits c.targets.result.bits c.matching_destinations.result.bits n _ _ (rw c.as_board.ensures at c.targets.ensures.squares n h) (c.matching_destinations.ensures.squares n h) in
      let both : _ = and_parts _ _ (sym (has_bit-and c.args.move_filter.now.squares.bits c.unseen_destinations-guaranteed.result.bits n) ∙ (ap (λ m. has_bit m n) (sym c.bitand.ensures) ∙ c.are_among.ensures.non_promoting e n h (ends ∙ reached))) in
      (both.0, c.unseen_destinations-guaranteed.ensures.guaranteed c.args.self.now.escapes.bits false n h both.1));
  promoting = λ n h reached may. (
      let ends : _ = ap (λ m. has_bit m n) c.bitand-ends.ensures ∙ among_bits c.targets.result.bits c.matching_destinations.result.bits n _ _ (rw c.as_board.ensures at c.targets.ensures.squares n h) (c.matching_destinations.ensures.squares n h) in
      let both : _ = and_parts _ _ (sym (has_bit-and c.promotions-promotions.result.bits c.unseen_destinations-guaranteed.result.bits n) ∙ (ap (λ m. has_bit m n) (sym c.bitand-then-is_unseen.ensures) ∙ c.are_among.ensures.promoting e n h (ends ∙ reached) may)) in
      (c.promotions-promotions.ensures.promotes n both.0, c.unseen_destinations-guaranteed.ensures.guaranteed c.args.self.now.escapes.bits true n h both.1));
}
