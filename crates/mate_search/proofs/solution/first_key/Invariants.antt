use Rattle.std.proofs.Common.{◌≡◌, length}
use Rattle.std.specs.List.{find}
use Rattle.shogi_moves.specs.After.{after_code}
use Rattle.mate_search.specs.Mates.{is_mated, first_key}
use Rattle.mate_search.proofs.solution.first_key.Given as goal

abbrev pub invariant-moves : goal.invariant-moves
invariant-moves g l = record {
  whole : find (λ code. is_mated (after_code l.p code) l.n) l.walk.codes ≡ first_key l.p l.n;
  same : l.walk.position ≡ l.p;
}

abbrev pub decreases-moves : goal.decreases-moves
decreases-moves g l = length l.walk.codes
