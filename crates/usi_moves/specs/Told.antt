-- What a `Progress` is told while a count goes on (own choice).
use Rattle.std.specs.Prelude.{◌≡◌, ⊤, ℕ, List, ◌++◌, Option, None, Some, Result, Ok, Err}

-- if it reports what it was told, it was told these moves since, in this order
abbrev pub IsTold : Option (List ℕ) → Option (List ℕ) → List ℕ → Type 0
IsTold None new codes = ⊤
IsTold (Some before) new codes = new ≡ Some (before ++ codes)

-- it was told all of these moves if the count succeeded, and a prefix of them after an error
abbrev pub AreTold : {E : Type 0} → Result (Unit {0}) E → Option (List ℕ) → Option (List ℕ)
    → List ℕ → Type 0
AreTold (Ok done) old new codes = IsTold old new codes
AreTold (Err fault) old new codes =
    (first : List ℕ) × ((left : List ℕ) × ((first ++ left ≡ codes) × IsTold old new first))
