use Rattle.std.proofs.Common.{◌∙◌, ap, arith, sym}
use Rattle.std.proofs.lemmas.Bool.{both_ways}
use Rattle.shogi_core.proofs.BitLaws.{has_bit-none}
use Rattle.shogi_core.specs.Bits.{has_bit}
use Rattle.shogi_moves.proofs.DestinationLaws.{none_there}
use Rattle.shogi_replies.proofs.PassLaws.{none_uncertain}
use Rattle.shogi_replies.proofs.ReplyLaws.{open_far}
use Rattle.shogi_core.proofs.ZoneLaws.{all_squares}
use Rattle.shogi_replies.proofs.replies.KnownReplies.distant_pieces.Goals as goal

pub returns-then-not-is_empty : goal.returns-then-not-is_empty
returns-then-not-is_empty c = rw c.none-then-not-is_empty.ensures (λ a n promote ha h e. absurd (both_ways _ (has_bit-none a) e))

pub returns : goal.returns
returns c = λ a n promote ha h set r.
    let far : _ = c.non_checking_pieces.ensures a n ha h set r in
    (open_far c.args.self.now.position.now 0 a n promote c.args.self.now.info.king_view.bits c.none.result.bits c.args.self.now.info.free_movers.bits c.reveal_invariant.ensures c.args.self.now.right ha h far.unseen (far.harmless promote)
    (c.open_squares-open.ensures n h (none_uncertain c.all.result.bits c.open_squares-open.result.bits n (omega arith) h (sym c.without.ensures ∙ none_there _ _ c.is_empty.ensures c.if-not-is_empty.false) (ap (λ m. has_bit m n) c.all.ensures ∙ all_squares n h)))).0
