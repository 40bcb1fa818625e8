use Rattle.shogi_replies.proofs.EscapeLaws.{escaped_quietly}
use Rattle.shogi_replies.proofs.replies.KnownReplies.leaves_escape.Goals as goal

pub returns : goal.returns
returns c = λ e legal.
    escaped_quietly c.args.self.now.position.now c.args.m.now c.bitor-closed.result.bits c.within_reach-reach.result.bits c.opened_lines-lines.result.bits c.bitor.result.bits c.occupied.result.bits c.reveal_invariant.ensures (rw c.to-to.ensures at c.reveal_invariant-2.ensures) legal
    (rw c.to-to.ensures at (c.has_open.ensures e)) c.bitor-closed.ensures c.bitor.ensures (rw c.as_board.ensures at c.occupied.ensures)
    (rw (c.put.ensures, c.of-origin.ensures, c.to-to.ensures) at c.within_reach-reach.ensures) (rw c.of-origin.ensures at c.opened_lines-lines.ensures)
