use Rattle.std.proofs.Common.{◌∙◌, sym}
use Rattle.shogi_replies.proofs.DiscoverLaws.{stays_safe}
use Rattle.shogi_replies.proofs.replies.KnownReplies.discovers.Goals as goal

pub returns : goal.returns
returns c = λ unfound. stays_safe c.args.self.now.position.now c.args.from c.args.to c.args.self.now.info.king_view.bits c.args.self.now.info.free_movers.bits c.discovering_squares.result.bits c.reveal_invariant.ensures c.reveal_invariant-2.ensures c.reveal_invariant-3.ensures c.args.self.now.right c.discovering_squares.ensures (sym c.has.ensures ∙ c.if-has.false)
