-- Generations below the next one.
use Rattle.std.proofs.Common.{◌≡◌, ℕ, ◌<◌, ◌==◌, Option, Some, None}
use Rattle.std.specs.Prelude.{IfSome, IsSome}
use Rattle.std.proofs.lemmas.Bool.{cond_both, eqb-true}
use Rattle.session_slots.specs.Slots.{OpenSession, of_generation}

found : {T : Type 0} (generation next : ℕ) (o : OpenSession T) → o.generation < next → IsSome (of_generation generation (Some o)) → generation < next
found {T} generation next o h =
    cond_both (o.generation == generation) (Some o.session) None (λ (t : Option T). IsSome t → generation < next)
    (λ same _. (let e : o.generation ≡ generation = eqb-true o.generation generation same in rw (← e) h))
    (λ _ none. absurd (cc))

-- a session found has the generation of its slot
pub found_below : {T : Type 0} (generation next : ℕ) (slot : Option (OpenSession T)) → IfSome slot (λ o. o.generation < next) → IsSome (of_generation generation slot) → generation < next
found_below generation next None h none = absurd (cc)
found_below generation next (Some o) h some = found generation next o h some
