use Rattle.last_ply.proofs.MateLaws.{no_mate}
use Rattle.last_ply.proofs.frontier.FrontierNode.has_mate.Goals as goal

pub returns-else-has_board_mate-clause-if_none : goal.returns-else-has_board_mate-clause-if_none
returns-else-has_board_mate-clause-if_none c = λ e. no_mate c.args.self.now.node.now.position (rw c.of-mate_search.ensures at (c.has_board_mate.ensures.if_none c.if-has_board_mate.false)) (rw c.of-mate_search.ensures at (c.has_drop_mate.ensures.if_none e))
