use Rattle.std.proofs.Common.{◌-◌, ◌≡◌}
use Rattle.search_nodes.specs.PriorityMoves.{legal_priority_moves}
use Rattle.search_nodes.specs.Order.{codes_of}
use Rattle.search_nodes.proofs.priority_moves.PriorityMoves.next_legal.Given as goal

abbrev pub invariant-codes : goal.invariant-codes
invariant-codes l = record {
  same : legal_priority_moves l.p (codes_of l.self) l.from ≡ legal_priority_moves l.p (codes_of l.self) l.n;
}

abbrev pub decreases-codes : goal.decreases-codes
decreases-codes l = l.self.len - l.n
