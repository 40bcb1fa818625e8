use Rattle.shogi_moves.proofs.DropChecks.{far_pawn}
use Rattle.shogi_moves.proofs.pawn_drop.facing_squares.Goals as goal

pub returns : goal.returns
returns c = λ n h out. far_pawn c.args.p.now n c.in-Some.king c.step_squares.result.bits c.reveal_invariant.ensures h
    (rw (c.opponent-opponent.ensures, c.side.ensures) at c.in-Some.ensures.lone) (rw (c.opponent-opponent.ensures, c.side.ensures) at c.step_squares.ensures.squares) out
