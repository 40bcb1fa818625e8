use Rattle.std.proofs.Common.{◌≡◌, ◌-◌, length, not}
use Rattle.std.specs.List.{find}
use Rattle.shogi_moves.specs.After.{after_code}
use Rattle.mate_search.specs.Mates.{mates, longest_defence}
use Rattle.mate_search.proofs.solution.longest_defence.Given as goal

abbrev pub invariant-replies : goal.invariant-replies
invariant-replies g l = record {
  whole : find (λ reply. not (mates (after_code l.q reply) (l.n - 1))) l.walk.codes ≡ longest_defence l.q l.n;
  same : l.walk.position ≡ l.q;
}

abbrev pub decreases-replies : goal.decreases-replies
decreases-replies g l = length l.walk.codes
