use Rattle.std.proofs.Common.{◌≡◌, ◌≤◌, ◌++◌, map}
use Rattle.shogi_core.specs.Codes.{code_of}
use Rattle.mate_search.specs.Mates.{line}
use Rattle.mate_search.proofs.listing.append_line.Given as goal

abbrev pub invariant-moves : goal.invariant-moves
invariant-moves g l = record {
  whole : map code_of l.out.items ++ line l.now l.left ≡ map code_of l.initial.out.items ++ line l.p l.fn.n;
  few : l.left ≤ l.fn.n;
}

abbrev pub decreases-moves : goal.decreases-moves
decreases-moves g l = l.left
