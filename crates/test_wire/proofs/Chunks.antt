-- Chunks without the empty ones in front.
use Rattle.std.proofs.Common.{◌≡◌, ◌∙◌, ℕ, ◌<◌, List, [], ◌∷◌, ◌++◌, length, take, drop, map, slice_index_or, refl, sym, ap, arith}
use Rattle.std.proofs.lemmas.List.{take-append-drop, append_assoc}
use Rattle.std.specs.List.{remove}
use Rattle.test_wire.specs.Memory.{bytes_left, past_empty, given_from, left_from}

-- an empty chunk in front may go
pub past_empty_removed : {X : Type 0} (f : X → List ℕ) (xs : List X) (d : X) → 0 < length xs → length (f (slice_index_or xs 0 d)) ≡ 0 → past_empty (map f (remove xs 0)) ≡ past_empty (map f xs)
past_empty_removed f [] d some none = absurd (omega (arith, some))
past_empty_removed f (x ∷ xs) d some none = first (f x) none
  where
    first : (ys : List ℕ) → length ys ≡ 0 → past_empty (map f xs) ≡ past_empty (ys ∷ map f xs)
    first [] e = refl
    first (y ∷ ys) e = absurd (omega (arith, e))

-- where the first one is not empty, none goes
pub past_empty_same : {X : Type 0} (f : X → List ℕ) (xs : List X) (d : X) → 0 < length (f (slice_index_or xs 0 d)) → past_empty (map f xs) ≡ map f xs
past_empty_same f [] d some = refl
past_empty_same f (x ∷ xs) d some = first (f x) some
  where
    first : (ys : List ℕ) → 0 < length ys → past_empty (ys ∷ map f xs) ≡ ys ∷ map f xs
    first [] e = absurd (omega (arith, e))
    first (y ∷ ys) e = refl

pub past_empty_none : {X : Type 0} (f : X → List ℕ) (xs : List X) → length xs ≡ 0 → past_empty (map f xs) ≡ map f xs
past_empty_none f [] e = refl
past_empty_none f (x ∷ xs) e = absurd (omega (arith, e))

-- empty chunks have no bytes
pub bytes_left-past_empty : (xs : List (List ℕ)) → bytes_left (past_empty xs) ≡ bytes_left xs
bytes_left-past_empty [] = refl
bytes_left-past_empty ([] ∷ rest) = bytes_left-past_empty rest
bytes_left-past_empty ((y ∷ ys) ∷ rest) = refl

-- what is given and what is left are all
given_left : (xs : List (List ℕ)) (room : ℕ) → bytes_left xs ≡ given_from xs room ++ bytes_left (left_from xs room)
given_left [] room = refl
given_left (x ∷ rest) room = ap (λ l. l ++ bytes_left rest) (sym (take-append-drop room x)) ∙ append_assoc (take room x) (drop room x) (bytes_left rest)

pub all_left : (xs : List (List ℕ)) (room : ℕ) (given : List ℕ) → given ≡ given_from (past_empty xs) room → bytes_left xs ≡ given ++ bytes_left (left_from (past_empty xs) room)
all_left xs room given e = rw e (sym (bytes_left-past_empty xs) ∙ given_left (past_empty xs) room)
