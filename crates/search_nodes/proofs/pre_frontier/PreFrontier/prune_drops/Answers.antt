use Rattle.search_nodes.proofs.Rows.{prunes_again}
use Rattle.search_nodes.proofs.pre_frontier.PreFrontier.prune_drops.Goals as goal

pub returns-then-not-prune_kind-clause-pruned : goal.returns-then-not-prune_kind-clause-pruned
returns-then-not-prune_kind-clause-pruned c = prunes_again c.args.self.now.frame.now c.kinds.self.frame.now c.prune_kind.new.self.frame.now c.kinds.invariant.pruned c.prune_kind.ensures.pruned
