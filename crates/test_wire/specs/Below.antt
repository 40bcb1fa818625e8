-- Numbers below a number (own choice).
use Rattle.std.specs.Prelude.{◌-◌, ◌^◌, ◌==◌, ◌||◌, ◌&&◌, ℕ, Bool, true, List, [], ◌∷◌, nat_lt}

-- each number is below this one, or the greatest of 64 bits
abbrev pub are_below : {X : Type 0} → ℕ → List (ℕ × X) → Bool
are_below next [] = true
are_below next (first ∷ rest) =
    (nat_lt first.0 next || (first.0 == 2 ^ 64 - 1)) && are_below next rest
