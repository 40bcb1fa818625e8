use Rattle.std.proofs.Common.{◌∙◌, sym}
use Rattle.last_ply.proofs.Scores.{quiet_score}
use Rattle.last_ply.proofs.Squares.{in_less}
use Rattle.last_ply.proofs.moving_piece.MovingPiece.has_quiet_move.Goals as goal

pub returns : goal.returns
returns c = λ _.
    let frontier = c.args.self.now.frontier.now in
    let to = c.lowest-to.result in
    let two = in_less c.destinations.result.non_promoting.bits frontier.foe.bits to frontier.foe.fits c.lowest-to.ensures.range (rw c.without-quiet.ensures at c.lowest-to.ensures.set) in
    quiet_score frontier.node.now.position frontier.node.now.eval c.args.self.now.from to frontier.valid c.reveal_invariant.ensures c.lowest-to.ensures.range (sym (c.destinations.ensures.non_promoting to c.lowest-to.ensures.range) ∙ two.0)
    (sym (frontier.foes to c.lowest-to.ensures.range) ∙ two.1)
