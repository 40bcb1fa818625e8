use Rattle.std.proofs.Common.{◌<◌, arith}
use Rattle.shogi_moves.proofs.Keeps.{held_fits}
use Rattle.shogi_moves.proofs.after.with_captured.Goals as goal

pub overflow_add-count : goal.overflow_add-count
overflow_add-count c =
    let fits : c.count.result < 255 = rw (c.count.ensures, c.hands-hands.ensures, c.side-2.ensures) (held_fits c.args.p.now c.args.p.now.side _ c.reveal_invariant.ensures) in
    omega (arith, fits)
