use Rattle.std.proofs.Common.{◌≡◌, ◌≤◌}
use Rattle.search_nodes.specs.declared.frame.NodeState.TheVariants.{Expanding}
use Rattle.search_nodes.specs.Changes.{IsSame, left_of_frame}
use Rattle.search_nodes.specs.ReplyCache.{IsPreFrontier}
use Rattle.search_nodes.proofs.frame.Frame.next_unpruned.Given as goal

abbrev pub invariant-moves : goal.invariant-moves
invariant-moves l = record {
  next : l.self.state ≡ Expanding;
  left : left_of_frame l.self ≤ left_of_frame l.fn.self;
  same : IsSame l.fn.self l.self;
  at : IsPreFrontier l.self l.cache;
}

abbrev pub decreases-moves : goal.decreases-moves
decreases-moves l = left_of_frame l.self
