use Rattle.std.proofs.Common.{◌∙◌, ap, arith, not}
use Rattle.shogi_core.proofs.LineBits.{has_bit-not}
use Rattle.shogi_moves.proofs.DestinationLaws.{among_bits}
use Rattle.last_ply.proofs.frontier.FrontierNode.targets.Goals as goal

pub returns : goal.returns
returns c = λ n h. rw c.without.ensures (among_bits c.targets.result.bits _ n _ _ ((rw (c.as_board-board.ensures, c.as_position.ensures) at c.targets.ensures.squares) n h) (has_bit-not c.args.self.now.own.bits n (omega (arith, c.args.self.now.own.fits)) (omega (arith, h)) ∙ ap not (c.args.self.now.owns n h)))
