use Rattle.std.proofs.Common.{sym, subst}
use Rattle.std.proofs.lemmas.Bool.{not-false}
use Rattle.shogi_moves.proofs.DestinationLaws.{none_there}
use Rattle.shogi_replies.specs.ReplyInfo.{IsHarmless}
use Rattle.shogi_replies.proofs.ReplyLaws.{harmless_here}
use Rattle.shogi_replies.proofs.replies.attacks_king.Goals as goal

pub returns-in-Some : goal.returns-in-Some
returns-in-Some c = λ e. subst (λ cell. IsHarmless c.args.p.now.cells c.args.side cell c.args.to) (sym c.in-Some.is)
    (harmless_here c.args.p.now.cells c.args.side c.in-Some.piece c.args.to c.targets_of.result.bits c.kings.result.bits (rw c.as_board-board.ensures at c.targets_of.ensures.squares) (rw c.as_board-board.ensures at c.kings.ensures.squares) (rw c.bitand.ensures at (none_there _ _ c.is_empty.ensures (not-false _ e))))
