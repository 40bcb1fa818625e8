use Rattle.std.proofs.Common.{arith}
use Rattle.std.proofs.lemmas.Bool.{both_ways}
use Rattle.std.proofs.lemmas.Int.{ints}
use Rattle.shogi_core.specs.Bits.{has_bit}
use Rattle.last_ply.proofs.PriorityMoves.{quiet_end}
use Rattle.last_ply.proofs.Scores.{legal_end}
use Rattle.last_ply.proofs.moving_piece.MovingPiece.ends_scoring.Goals as goal

pub returns-then-score : goal.returns-then-score
returns-then-score c = λ n promote h out legal _.
    both_ways (has_bit c.args.self.now.targets.bits n) out (legal_end c.args.self.now.frontier.now.node.now.position c.args.self.now.from c.args.self.now.targets.bits n promote c.reveal_invariant.ensures h c.args.self.now.reach legal)

pub returns : goal.returns
returns c = λ n promote h out legal same.
    let zone = rw (c.at.ensures, c.as_position.ensures) at c.promoting_squares-zone.ensures.squares in
    absurd (omega (arith, ints, c.score.ensures, c.if-score.false, same, quiet_end c.args.self.now.frontier.now.node.now.position c.args.self.now.frontier.now.node.now.eval c.args.self.now.from c.args.self.now.targets.bits c.args.self.now.frontier.now.foe.bits c.promoting_squares-zone.result.bits n promote c.args.self.now.frontier.now.valid c.reveal_invariant.ensures h c.args.self.now.reach c.args.self.now.frontier.now.foes zone (rw (c.bitand.ensures, c.bitor.ensures) at out) legal))
