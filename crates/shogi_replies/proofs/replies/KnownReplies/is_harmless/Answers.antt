use Rattle.std.proofs.Common.{◌∙◌, sym, arith}
use Rattle.shogi_core.specs.Pieces.{opponent_of}
use Rattle.shogi_replies.proofs.ReplyLaws.{harmless_far}
use Rattle.shogi_replies.proofs.replies.KnownReplies.is_harmless.Goals as goal

pub returns : goal.returns
returns c = λ e. harmless_far c.args.self.now.position.now.cells (opponent_of c.args.self.now.position.now.side) c.args.self.now.info.king_view.bits c.args.cell c.args.to c.args.self.now.right.sees (omega arith) (sym c.has.ensures ∙ c.if-has.false)
