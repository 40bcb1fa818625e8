use Rattle.std.proofs.Common.{◌-◌}
use Rattle.minimax.specs.Minimax.{worth}
use Rattle.search_nodes.proofs.Nodes.{new_node}
use Rattle.search_nodes.proofs.frame.Frame.enter.Goals as goal

pub invariant_of-self-clause-known : goal.invariant_of-self-clause-known
invariant_of-self-clause-known c = (new_node _ _ _ _ _ _ c.new-self.ensures.leaf c.new-self.ensures.inner).covered

pub invariant_of-self-clause-kept : goal.invariant_of-self-clause-kept
invariant_of-self-clause-kept c = (new_node (worth c.args.node.now.position c.args.node.now.eval (c.args.depth - 1)) _ _ c.args.alpha _ _ c.new-self.ensures.leaf c.new-self.ensures.inner).kept

pub returns-clause-counted : goal.returns-clause-counted
returns-clause-counted c = (new_node (worth c.args.node.now.position c.args.node.now.eval (c.args.depth - 1)) _ _ c.args.alpha _ _ c.new-self.ensures.leaf c.new-self.ensures.inner).counted
