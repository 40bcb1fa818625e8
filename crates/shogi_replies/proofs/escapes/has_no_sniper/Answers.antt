use Rattle.shogi_moves.proofs.DestinationLaws.{none_there}
use Rattle.shogi_replies.proofs.KingReplies.{no_sniper_on}
use Rattle.shogi_replies.proofs.escapes.has_no_sniper.Goals as goal

pub returns : goal.returns
returns c = λ e.
    no_sniper_on c.args.p.now.cells c.args.p.now.side c.args.square c.own.result.bits c.sliders.result.bits c.line_mask.result.bits (rw (c.side.ensures, c.as_board-board.ensures) at c.own.ensures.squares) (rw c.as_board-board.ensures at c.sliders.ensures.squares) c.line_mask.ensures.squares (rw (c.bitand-snipers.ensures, c.bitand.ensures) at (none_there _ _ c.is_empty.ensures e))
