-- Texts appended one after another.
use Rattle.std.proofs.Common.{◌≡◌, ℕ, ◌+◌, ◌<◌, List, ◌++◌, ap, ◌∙◌, sym, append_assoc, flat_map, take, length, get_or}
use Rattle.std.proofs.lemmas.List.{flat_map_more, take_more}

-- three parts appended in turn are the three parts appended at once
pub after_three : (old a b c x y z : List ℕ) → x ≡ old ++ a → y ≡ x ++ b → z ≡ y ++ c → z ≡ old ++ (a ++ (b ++ c))
after_three old a b c x y z e f g = rw (g, f, e) (simp append_assoc)

-- one more part
pub part_more : {X : Type 0} (f : X → List ℕ) (old so_far new : List ℕ) (parts : List X) (i : ℕ) (part : X) → i < length parts
    → so_far ≡ old ++ flat_map f (take i parts) → new ≡ so_far ++ f (get_or parts i part) → new ≡ old ++ flat_map f (take (i + 1) parts)
part_more f old so_far new parts i part within before more =
    more ∙ (ap (λ xs. xs ++ f (get_or parts i part)) before
    ∙ (flat_map_more f old (take i parts) (get_or parts i part) ∙ ap (λ xs. old ++ flat_map f xs) (sym (take_more parts i part within))))
