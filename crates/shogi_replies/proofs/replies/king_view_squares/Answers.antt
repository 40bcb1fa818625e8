use Rattle.shogi_replies.proofs.ReplyLaws.{kings_more}
use Rattle.shogi_replies.proofs.replies.king_view_squares.Goals as goal

pub kings-preserved : goal.kings-preserved
kings-preserved c = rw c.bitor-king_view.ensures (kings_more _ c.args.p.now.cells c.args.side c.kings.left c.next.new.self c.kings.king_view.bits c.in-Some.king c.queen_and_knight_view.result.bits c.kings.invariant c.in-Some.ensures.some.rest (rw c.as_board-board.ensures at c.queen_and_knight_view.ensures.squares))
