use Rattle.std.proofs.Common.{◌≡◌, length}
use Rattle.test_search.proofs.plain.children_of.Given as goal

abbrev pub invariant-moves : goal.invariant-moves
invariant-moves l = l.walk.position ≡ l.p

abbrev pub decreases-moves : goal.decreases-moves
decreases-moves l = length l.walk.codes
