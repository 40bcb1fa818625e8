use Rattle.std.proofs.Common.{sym}
use Rattle.std.proofs.lemmas.Bool.{iff_false}
use Rattle.minimax.proofs.MinimaxLaws.{leaf_none}
use Rattle.search_nodes.proofs.frame.leaf.Goals as goal

pub returns-else-can_move-clause-value : goal.returns-else-can_move-clause-value
returns-else-can_move-clause-value c = sym (leaf_none c.args.node.now.position c.args.node.now.eval (iff_false c.can_move.ensures c.if-can_move.false))
