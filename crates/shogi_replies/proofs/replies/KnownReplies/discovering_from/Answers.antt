use Rattle.std.proofs.Common.{arith, subst, sym}
use Rattle.shogi_moves.specs.declared.origin.Origin.{Origin}
use Rattle.shogi_replies.specs.ReplyInfo.{OpensChecksWithin}
use Rattle.shogi_replies.proofs.replies.KnownReplies.discovering_from.Goals as goal

pub returns-in-Board : goal.returns-in-Board
returns-in-Board c = subst (λ (origin : Origin). OpensChecksWithin c.args.self.now.position.now c.args.self.now.info.king_view.bits origin c.discovering_squares.result.bits) (sym c.in-Board.is)
    (omega arith, c.discovering_squares.ensures)
