-- Slices of a search, one after another.
use Rattle.std.proofs.Common.{◌≡◌, ◌<◌, ◌≤◌, ◌+◌, ◌-◌, ◌^◌, ℕ, false, [], Option, None, Some, refl, sym, arith, subst}
use Rattle.std.specs.Prelude.{IfNone, IfSome, IsSome}
use Rattle.std.specs.Option.{ForSome}
use Rattle.std.proofs.lemmas.Option.{IfSome_then}
use Rattle.shogi_search.specs.Progress.{FitsTree, IsFoundBy, KeepsQuestion, Progress, left_of}
use Rattle.minimax.proofs.MinimaxLaws.{tree_size-positive}
use Rattle.shogi_search.specs.Slices.{Finds, IsSliceOf}
use Rattle.shogi_search.specs.SlicedSearch.{IsKnown, IsSearch, progress_of}
use Rattle.shogi_search.specs.Stack.{CountsSteps}
use Rattle.shogi_search.specs.declared.sliced_search.Search.TheInside.{Inside}
use Rattle.shogi_search.specs.declared.found.Found.{Found}
use Rattle.shogi_search.proofs.Entries.{same_found, whole_best, whole_value}

-- a true result with its count of steps
pub finds_by : (old : Progress) (result : Option Found) (new : Progress) → IfSome result (IsFoundBy old)
    → IfSome result (λ f. f.steps ≡ new.steps) → IfSome result (FitsTree old) → Finds old result new
finds_by old result new below counted range = record {
  below = below;
  value = IfSome_then result below (λ f k whole. whole_value _ _ _ _ f k whole);
  best = IfSome_then result below (λ f k whole. whole_best _ _ _ _ f k whole);
  counted = counted;
  range = range;
}

-- a result carries over to the same question
pub finds_as : (old mid : Progress) (result : Option Found) (new : Progress) → KeepsQuestion old mid → Finds mid result new → Finds old result new
finds_as old mid result new same k =
    finds_by old result new (IfSome_then result k.below (λ f b. same_found _ _ _ _ _ _ _ _ f same.0 same.1.0 same.1.1.0 same.1.1.1 b)) k.counted
    (IfSome_then result k.range (λ f b. rw (← same.0, ← same.1.1.0) b))

-- a step and a further slice make a slice
pub step_and_slice : (budget : ℕ) (old mid : Progress) (result : Option Found) (new : Progress) → 0 < budget
    → IsSliceOf 1 old None mid → IsSliceOf (budget - 1) mid result new → IsSliceOf budget old result new
step_and_slice budget old mid result new some first second =
    let unchanged : KeepsQuestion old new = grind arith in
    let counts : CountsSteps budget old.steps new.steps result = grind arith in
    let left : IfNone result (left_of new + budget ≤ left_of old) = grind arith in
    let fell : new.steps + left_of new ≤ old.steps + left_of old = omega (arith, first.fell, second.fell) in
    assumption

-- a search that ends in one step ends within the slice
pub ends_in_slice : (budget : ℕ) (old : Progress) (result : Option Found) (new : Progress) → 0 < budget → IsSome result
    → IsSliceOf 1 old result new → IsSliceOf budget old result new
ends_in_slice budget old None new some ends k = absurd (cc)
ends_in_slice budget old (Some f) new some ends k =
    let most : new.steps ≤ old.steps + budget = omega (arith, some, k.counts.most) in
    let counts : CountsSteps budget old.steps new.steps (Some f) = record { all = tt; rises = k.counts.rises; most = most } in
    assumption

-- ---- without a step

-- an ended search keeps its result
pub ended_finds : (s : Inside) → IsSearch s → Finds (progress_of s) s.found (progress_of s)
ended_finds s i =
    let known : IfSome s.found (IsKnown s) = if_known s.found i.known in
    finds_by _ _ _ (IfSome_then s.found known (λ f k. k.below)) (IfSome_then s.found known (λ f k. k.steps_are)) (IfSome_then s.found known (λ f k. omega (arith, k.steps_are, i.counted)))
  where
    if_known : (found : Option Found) → ForSome found (IsKnown s) → IfSome found (IsKnown s)
    if_known None k = tt
    if_known (Some f) k = k f refl

pub ended_slice : (budget : ℕ) (s : Inside) → IsSome s.found → IsSliceOf budget (progress_of s) s.found (progress_of s)
ended_slice budget s some = grind arith

-- a search with a result has ended
pub ended_by : (budget : ℕ) (old new : Progress) (f : Found) → KeepsQuestion old new → old.steps ≤ new.steps → new.steps ≤ old.steps + budget → new.steps ≤ old.steps + old.left
    → new.found ≡ Some f → new.left ≡ 0 → new.entered ≡ [] → IsSliceOf budget old (Some f) new
ended_by budget old new f same rises most fell found over left_all = grind arith

-- a search answered before its first step has ended
pub answered_finds : (s : Inside) (search : Progress) (f : Found) → progress_of s ≡ search → IsSearch s → IsFoundBy search f → f.steps ≡ search.steps
    → Finds search (Some f) (progress_of (record s { found = Some f }))
answered_finds s search f e i below counted =
    let same : f.steps ≡ s.steps = subst (λ (p : Progress). f.steps ≡ p.steps) (sym e) counted in
    subst (λ (p : Progress). Finds p (Some f) (progress_of (record s { found = Some f }))) e
    (finds_by (progress_of s) (Some f) _ (subst (λ (p : Progress). IsFoundBy p f) (sym e) below) same (omega (arith, same, i.counted)))

pub answered_slice : (budget : ℕ) (s : Inside) (f : Found) → IsSliceOf budget (progress_of s) (Some f) (progress_of (record s { found = Some f }))
answered_slice budget s f = grind arith

-- an empty budget changes nothing, and all steps of the tree are left
pub empty_slice : (budget : ℕ) (s : Inside) → budget ≡ 0 → s.found ≡ None → s.started ≡ false → s.steps < 2 ^ 64 → IsSliceOf budget (progress_of s) None (progress_of s)
empty_slice budget s zero none fresh fits = grind (arith, tree_size-positive s.stack.root s.stack.depth)
