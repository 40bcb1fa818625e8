use Rattle.shogi_moves.proofs.Keeps.{held_some}
use Rattle.shogi_moves.proofs.after.make_safe.Goals as goal

pub overflow_sub-hand : goal.overflow_sub-hand
overflow_sub-hand c = rw (c.hand.ensures, c.side-side.ensures) (held_some c.args.p.now c.in-Drop.kind c.in-Drop.to (rw c.in-Drop.is at c.requires))
