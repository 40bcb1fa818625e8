use Rattle.std.proofs.Common.{◌∙◌, sym}
use Rattle.std.proofs.lemmas.Bool.{and_parts, both_ways}
use Rattle.shogi_core.specs.Bits.{has_bit}
use Rattle.shogi_core.proofs.BitLaws.{has_bit-and, has_bit-none}
use Rattle.shogi_replies.proofs.ReplyLaws.{open_either}
use Rattle.shogi_replies.proofs.replies.KnownReplies.non_checking_destinations.Goals as goal

pub returns-then-is_empty-clause-guaranteed : goal.returns-then-is_empty-clause-guaranteed
returns-then-is_empty-clause-guaranteed c = rw c.none.ensures (λ n h e. absurd (both_ways _ (has_bit-none n) e))

pub returns-clause-among : goal.returns-clause-among
returns-clause-among c = rw c.bitand.ensures (λ n e. (and_parts _ _ (sym (has_bit-and c.args.destinations.bits c.open_squares.result.bits n) ∙ e)).0)

pub returns-clause-guaranteed : goal.returns-clause-guaranteed
returns-clause-guaranteed c = rw c.bitand.ensures (λ n h e.
    let there : _ = and_parts (has_bit c.args.destinations.bits n) (has_bit c.open_squares.result.bits n) (sym (has_bit-and c.args.destinations.bits c.open_squares.result.bits n) ∙ e) in
    open_either c.args.self.now.position.now 0 c.args.origin.now n c.args.self.now.info.king_view.bits c.checking_squares.result.bits c.discovering_from.result.bits c.args.self.now.info.free_movers.bits c.reveal_invariant.ensures c.args.self.now.right h c.discovering_from.ensures
    (c.checking_squares.ensures n h there.0) ((rw c.bitor-closed.ensures at c.open_squares.ensures) n h there.1))
