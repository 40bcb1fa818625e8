use Rattle.std.proofs.Common.{◌≡◌, length}
use Rattle.test_search.proofs.plain.+minimax_within.Given as goal

abbrev pub decreases-minimax_within : goal.decreases-minimax_within
decreases-minimax_within l = l.depth

abbrev pub invariant-moves : goal.invariant-moves
invariant-moves l = l.walk.position ≡ l.p

abbrev pub decreases-moves : goal.decreases-moves
decreases-moves l = length l.walk.codes
