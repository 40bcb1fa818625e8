use Rattle.shogi_moves.proofs.EscapeLaws.{found_escapes}
use Rattle.shogi_replies.proofs.escapes.some_escapes.Goals as goal

pub returns : goal.returns
returns c = found_escapes c.args.p.now c.king_steps.result.bits c.some_unattacked.result.bits c.reveal_invariant.ensures c.king_steps.ensures
    (rw (c.side.ensures, c.as_board.ensures) at c.some_unattacked.ensures)
