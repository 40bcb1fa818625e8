use Rattle.shogi_moves.proofs.EscapeLaws.{escaped_pawn}
use Rattle.shogi_moves.proofs.pawn_escape.leaves_pawn_escape.Goals as goal

pub returns : goal.returns
returns c = λ e. escaped_pawn c.args.p.now c.args.to c.step_squares-reach.result.bits c.reveal_invariant.ensures c.reveal_invariant-2.ensures (rw c.first_escape.ensures at (c.has_open.ensures e))
    (rw c.side.ensures at c.step_squares-reach.ensures.squares)
