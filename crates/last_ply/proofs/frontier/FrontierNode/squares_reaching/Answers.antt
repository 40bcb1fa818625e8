use Rattle.std.proofs.lemmas.Bool.{false_from_ne_true}
use Rattle.shogi_core.specs.Movement.{reaches}
use Rattle.last_ply.proofs.Scores.{not_taking}
use Rattle.last_ply.proofs.frontier.FrontierNode.squares_reaching.Goals as goal

pub returns : goal.returns
returns c = λ n h out. false_from_ne_true (reaches c.args.self.now.node.now.position.cells n c.args.square) (not_taking c.args.self.now.node.now.position.cells c.near_squares.result.bits c.sliders.result.bits c.line_mask.result.bits n c.args.square h c.reveal_invariant.ensures c.near_squares.ensures.squares (rw (c.as_board-board.ensures, c.as_position.ensures) at c.sliders.ensures.squares) c.line_mask.ensures.squares (rw (c.bitor.ensures, c.bitand.ensures) at out))
