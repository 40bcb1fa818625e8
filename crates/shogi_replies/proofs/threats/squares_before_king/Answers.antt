use Rattle.shogi_replies.proofs.PinLaws.{before_more}
use Rattle.shogi_replies.proofs.threats.squares_before_king.Goals as goal

pub snipers-preserved : goal.snipers-preserved
snipers-preserved c = rw c.bitor-squares.ensures (before_more c.args.p.now.cells c.args.side c.args.king c.snipers.left c.next.new.self c.snipers.squares.bits c.in-Some.sniper c.squares_between.result.bits c.snipers.invariant c.in-Some.ensures.some.rest c.squares_between.ensures)
