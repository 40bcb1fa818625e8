use Rattle.std.proofs.Common.{◌-◌, ◌≡◌, ◌≤◌, drop}
use Rattle.shogi_moves.specs.Rising.{is_in}
use Rattle.search_nodes.specs.Order.{codes_of}
use Rattle.search_nodes.proofs.priority_moves.PriorityMoves.has.Given as goal

abbrev pub invariant-codes : goal.invariant-codes
invariant-codes l = record {
  within : l.n ≤ l.self.len;
  same : is_in l.code (codes_of l.self) ≡ is_in l.code (drop l.n (codes_of l.self));
}

abbrev pub decreases-codes : goal.decreases-codes
decreases-codes l = l.self.len - l.n
