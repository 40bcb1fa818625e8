use Rattle.std.proofs.Common.{◌≡◌, ◌<◌, ◌∙◌, ℕ, zero, suc, Bool, true, List, [], ◌∷◌, Some, arith, refl, sym, ap, drop, length, slice_index_or}
use Rattle.std.specs.List.{find}
use Rattle.std.proofs.lemmas.List.{drop_all}
use Rattle.test_search.specs.declared.forgetful.Kept.{Kept}
use Rattle.test_search.proofs.forgetful.ForgetfulMemo.probe.Goals as goal
use Rattle.test_search.proofs.forgetful.ForgetfulMemo.probe.Invariants.{is_of}

-- from the index of one that passes on, it is the first
found_here : {T : Type 0} (test : T → Bool) (xs : List T) (i : ℕ) (x other : T) → i < length xs → slice_index_or xs i other ≡ x → test x ≡ true
    → find test (drop i xs) ≡ Some x
found_here test [] i x other at is passes = absurd (omega arith)
found_here test (y ∷ ys) zero x other at is passes = rw (is, passes) refl
found_here test (y ∷ ys) (suc i) x other at is passes = found_here test ys i x other (omega arith) is passes

pub returns-then-is_of-clause-answer : goal.returns-then-is_of-clause-answer
returns-then-is_of-clause-answer c =
    let at : c.slots.slot-index < length c.args.self.now.slots = omega arith in
    let passes : is_of c.args.p.now c.args.e c.args.d (Some c.in-Some.kept) ≡ true = sym c.is_of.ensures.value ∙ c.if-is_of.true in
    let found = found_here (is_of c.args.p.now c.args.e c.args.d) c.args.self.now.slots c.slots.slot-index (Some c.in-Some.kept) c.slot-item.result at c.in-Some.is passes in
    rw (← c.slots.invariant, found) (ap (λ (kept : Kept). Some kept.1.1.1) c.kept.view_is)

pub returns-clause-answer : goal.returns-clause-answer
returns-clause-answer c =
    let none = drop_all c.slots.slot-index c.args.self.now.slots (omega arith) in
    rw (← c.slots.invariant, none) refl
