use Rattle.std.proofs.Common.{◌≡◌, ℕ, suc, ◌-◌, ◌<◌, false}
use Rattle.mate_search.specs.Mates.{mates, shortest, shortest_from}
use Rattle.mate_search.proofs.solution.shortest.Given as goal

-- no number of moves up to this one mates, and greater numbers are left
abbrev pub invariant-numbers : goal.invariant-numbers
invariant-numbers g l = record {
  rest : shortest_from l.p (suc l.n) (l.most - l.n) ≡ shortest l.p l.most;
  before : (k : ℕ) → k < suc l.n → mates l.p k ≡ false;
}

abbrev pub decreases-numbers : goal.decreases-numbers
decreases-numbers g l = l.most - l.n
