-- Bytes noted under numbers in a log (own choice).
use Rattle.std.specs.Prelude.{◌==◌, ◌||◌, ℕ, Bool, false, List, [], ◌∷◌, ◌++◌, cond}

module _ {X : Type 0} where
  -- something was noted under the number
  abbrev pub is_noted : List (ℕ × X) → ℕ → Bool
  is_noted [] number = false
  is_noted (first ∷ rest) number = (first.0 == number) || is_noted rest number

  module _ (bytes_of : X → List ℕ) where
    abbrev pub last_after : List ℕ → List (ℕ × X) → ℕ → List ℕ
    last_after bytes [] number = bytes
    last_after bytes (first ∷ rest) number =
        last_after (cond (first.0 == number) (bytes_of first.1) bytes) rest number

    -- the bytes noted last under the number; none if nothing was noted
    abbrev pub last_under : List (ℕ × X) → ℕ → List ℕ
    last_under noted number = last_after [] noted number

    -- all bytes noted under the number, in order
    abbrev pub all_under : List (ℕ × X) → ℕ → List ℕ
    all_under [] number = []
    all_under (first ∷ rest) number =
        cond (first.0 == number) (bytes_of first.1) [] ++ all_under rest number
