use Rattle.std.proofs.lemmas.Bool.{not-false}
use Rattle.shogi_moves.proofs.DestinationLaws.{none_there}
use Rattle.shogi_replies.proofs.ReplyLaws.{covered, covered_by_none}
use Rattle.shogi_replies.proofs.replies.may_discover_check.Goals as goal

pub returns-then-not-is_empty : goal.returns-then-not-is_empty
returns-then-not-is_empty c = λ e. covered c.args.p.now.cells c.args.side c.args.from c.open_lines.result.bits c.snipers.result.bits c.line_mask.result.bits (rw c.as_board-then-not-is_empty.ensures at c.open_lines.ensures.squares) (rw c.as_board.ensures at c.snipers.ensures.squares) c.line_mask.ensures.squares (rw (c.bitand.ensures, c.bitand-snipers.ensures) at (none_there _ _ c.is_empty-then-not-is_empty.ensures (not-false _ e)))

pub returns-else-not-is_empty : goal.returns-else-not-is_empty
returns-else-not-is_empty c = λ e. covered_by_none c.args.p.now.cells c.args.side c.args.from c.snipers.result.bits c.line_mask.result.bits (rw c.as_board.ensures at c.snipers.ensures.squares) c.line_mask.ensures.squares (rw c.bitand-snipers.ensures at (none_there _ _ c.is_empty.ensures c.if-not-is_empty.false))
