use Rattle.shogi_replies.proofs.ReplyLaws.{kings_more}
use Rattle.shogi_replies.proofs.replies.king_line_mask.Goals as goal

pub kings-preserved : goal.kings-preserved
kings-preserved c = rw c.bitor-lines.ensures (kings_more _ c.args.p.now.cells c.args.side c.kings.left c.next.new.self c.kings.lines.bits c.in-Some.king c.line_mask.result.bits c.kings.invariant c.in-Some.ensures.some.rest c.line_mask.ensures.squares)
