-- What a search knows between its slices and at its end.
use Rattle.std.proofs.Common.{◌≡◌, ℤ, Some, ◌<ℤ◌, ◌≤ℤ◌, w32, arith, subst}
use Rattle.std.proofs.lemmas.Int.{ints, to_z-of_z}
use lib.IntN.{negsuc, pos}
use mir.Val.{to_z, of_z}
use Rattle.std.specs.Option.{ForSome}
use Rattle.shogi_search.specs.declared.found.Found.{Found}
use Rattle.shogi_search.specs.declared.sliced_search.Search.TheInside.{Inside}
use Rattle.minimax.specs.Minimax.{negated}
use Rattle.shogi_search.specs.Progress.{IsFoundBelow}
use Rattle.shogi_search.specs.SlicedSearch.{IsKnown}
use Rattle.minimax.specs.declared.bounds.TheConstants.{INFINITY}

-- a result found is a known one
pub known_found : (s : Inside) (f : Found) (beta : ℤ) → s.found ≡ Some f → beta ≡ s.stack.beta → IsFoundBelow s.stack.root s.stack.eval s.stack.depth beta f → f.steps ≡ s.steps → ForSome s.found (IsKnown s)
known_found s f beta e l b n h q =
    let same : f ≡ h = cc in
    subst (λ (x : Found). IsKnown s x) same (record { below = subst (λ (x : ℤ). IsFoundBelow s.stack.root s.stack.eval s.stack.depth x f) l b; steps_are = n })

-- a bound of a window fits in 32 bits
pub end_kept : (beta : ℤ) → negated INFINITY <ℤ beta → beta ≤ℤ INFINITY → to_z w32 (of_z w32 beta) ≡ beta
end_kept (pos n) above most = to_z-of_z w32 (pos n) (record { sfits = omega (arith, ints) })
end_kept (negsuc n) above most = to_z-of_z w32 (negsuc n) (record { sfits = omega (arith, ints) })
