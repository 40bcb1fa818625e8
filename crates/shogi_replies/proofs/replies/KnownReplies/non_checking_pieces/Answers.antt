use Rattle.std.proofs.Common.{arith, ap, ◌∙◌, false, sym, true}
use Rattle.std.proofs.lemmas.Bool.{and_parts, both_ways, true_from_ne_false}
use Rattle.shogi_core.proofs.BitLaws.{has_bit-and, has_bit-none}
use Rattle.shogi_core.specs.Bits.{has_bit}
use Rattle.shogi_moves.proofs.DestinationLaws.{none_there}
use Rattle.shogi_replies.proofs.PassLaws.{none_uncertain}
use Rattle.shogi_replies.proofs.ReplyLaws.{open_far}
use Rattle.shogi_core.proofs.ZoneLaws.{all_squares}
use Rattle.shogi_replies.proofs.replies.KnownReplies.non_checking_pieces.Goals as goal

pub returns-then-not-is_empty : goal.returns-then-not-is_empty
returns-then-not-is_empty c = rw c.none-then-not-is_empty.ensures (λ n h e. absurd (both_ways _ (has_bit-none n) e))

pub returns-then-not-is_empty-2 : goal.returns-then-not-is_empty-2
returns-then-not-is_empty-2 c = rw c.none-then-not-is_empty-2.ensures (λ n h e. absurd (both_ways _ (has_bit-none n) e))

pub returns : goal.returns
returns c = rw c.bitand.ensures (λ a ha both.
    let set : _ = (and_parts _ _ (sym (has_bit-and c.non_checking_pieces.result.bits c.args.move_filter.now.pieces.bits a) ∙ both)).0 in
    record {
      piece = (and_parts _ _ (sym (has_bit-and c.non_checking_pieces.result.bits c.args.move_filter.now.pieces.bits a) ∙ both)).1;
      non_promoting = λ n h e. (
          let far : _ = c.non_checking_pieces.ensures a n ha h set (and_parts _ _ e).0 in (
            none_uncertain c.matching_destinations-ends.result.bits c.args.move_filter.now.squares.bits n (omega arith) h (sym c.without-2.ensures ∙ none_there _ _ c.is_empty-2.ensures c.if-not-is_empty-2.false) (c.matching_destinations-ends.ensures.squares n h ∙ (and_parts _ _ e).1),
            open_far c.args.self.now.position.now c.args.self.now.escapes.bits a n false c.args.self.now.info.king_view.bits c.none.result.bits c.args.self.now.info.free_movers.bits c.reveal_invariant.ensures c.args.self.now.right ha h far.unseen (far.harmless false)
                (c.open_squares-open.ensures n h (none_uncertain c.all.result.bits c.open_squares-open.result.bits n (omega arith) h (sym c.without.ensures ∙ none_there _ _ c.is_empty.ensures c.if-not-is_empty.false) (ap (λ m. has_bit m n) c.all.ensures ∙ all_squares n h))),
          ));
      promoting = λ n h e may. (
          let far : _ = c.non_checking_pieces.ensures a n ha h set (and_parts _ _ e).0 in (
            true_from_ne_false _ (λ never. both_ways _ (far.non_promoting never) may),
            open_far c.args.self.now.position.now c.args.self.now.escapes.bits a n true c.args.self.now.info.king_view.bits c.none.result.bits c.args.self.now.info.free_movers.bits c.reveal_invariant.ensures c.args.self.now.right ha h far.unseen (far.harmless true)
                (c.open_squares-open.ensures n h (none_uncertain c.all.result.bits c.open_squares-open.result.bits n (omega arith) h (sym c.without.ensures ∙ none_there _ _ c.is_empty.ensures c.if-not-is_empty.false) (ap (λ m. has_bit m n) c.all.ensures ∙ all_squares n h))),
          ));
    })
