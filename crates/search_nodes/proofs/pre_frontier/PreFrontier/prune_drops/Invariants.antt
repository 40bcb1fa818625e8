use Rattle.search_nodes.specs.Changes.{PrunesFiltered}
use Rattle.search_nodes.specs.PreFrontier.{Stays}
use Rattle.search_nodes.proofs.pre_frontier.PreFrontier.prune_drops.Given as goal

abbrev pub invariant-kinds : goal.invariant-kinds
invariant-kinds l = record {
  pruned : PrunesFiltered l.fn.self.frame.now l.self.frame.now;
  stays : Stays l.fn.self l.self;
}
