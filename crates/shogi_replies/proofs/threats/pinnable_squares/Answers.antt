use Rattle.shogi_replies.proofs.PinLaws.{off_pins}
use Rattle.shogi_replies.proofs.threats.pinnable_squares.Goals as goal

pub returns-in-Some : goal.returns-in-Some
returns-in-Some c = off_pins c.args.p.now.cells c.args.side c.in-Some.king c.squares_before_king.result.bits c.in-Some.ensures.lone c.squares_before_king.ensures
