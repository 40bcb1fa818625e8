use Rattle.std.proofs.Common.{◌≡◌}
use Rattle.minimax.specs.declared.bounds.TheConstants.{INFINITY}
use Rattle.test_examples.proofs.search.search_in_slices.Given as goal

abbrev pub invariant-slices : goal.invariant-slices
invariant-slices l = (l.search.root ≡ l.p) × ((l.search.eval ≡ l.fn.e) × ((l.search.depth ≡ l.depth) × (l.search.beta ≡ INFINITY)))
