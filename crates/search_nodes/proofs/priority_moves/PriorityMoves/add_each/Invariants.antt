use Rattle.std.proofs.Common.{◌≡◌, drop}
use Rattle.search_nodes.specs.PriorityMoves.{with_each}
use Rattle.search_nodes.specs.Order.{codes_of}
use Rattle.search_nodes.proofs.priority_moves.PriorityMoves.add_each.Given as goal

abbrev pub invariant-codes : goal.invariant-codes
invariant-codes l = record {
  same : with_each (codes_of l.fn.self) l.codes ≡ with_each (codes_of l.self) (drop l.code-index l.codes);
}
