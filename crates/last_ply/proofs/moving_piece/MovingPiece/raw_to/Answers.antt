use Rattle.std.proofs.Common.{arith}
use Rattle.std.proofs.lemmas.Int.{ints}
use Rattle.last_ply.proofs.Scores.{score_board}
use Rattle.last_ply.proofs.moving_piece.MovingPiece.raw_to.Goals as goal

pub returns : goal.returns
returns c = λ legal.
    let law : _ = score_board c.args.self.now.frontier.now.node.now.position c.args.self.now.frontier.now.node.now.eval c.args.self.now.from c.args.to c.args.promote c.args.self.now.frontier.now.valid c.reveal_invariant.ensures c.reveal_invariant-2.ensures legal in
    omega (arith, ints, law, rw (c.at.ensures, c.eval.ensures, c.as_position-p.ensures) at c.taken_gain.ensures.value, rw (c.at-2.ensures, c.as_position-p.ensures) at c.promotion_gain.ensures.value, c.score.ensures.value)
