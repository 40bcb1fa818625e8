-- The texts of a list's elements, some written and the others left.
use Rattle.std.proofs.Common.{◌≡◌, ℕ, List, [], ◌∷◌, ◌++◌, ◌∙◌, ap, sym, refl, append_assoc, append-nil, flat_map}

flat_map_first : (f : ℕ → List ℕ) (code : ℕ) (rest : List ℕ) → flat_map f (code ∷ rest) ≡ f code ++ flat_map f rest
flat_map_first f code rest = refl

-- writing the first text that is left keeps the whole
pub left : (f : ℕ → List ℕ) (out new whole moves rest : List ℕ) (code : ℕ) → moves ≡ code ∷ rest
    → new ≡ out ++ f code → out ++ flat_map f moves ≡ whole → new ++ flat_map f rest ≡ whole
left f out new whole moves rest code is written before =
    ap (λ xs. xs ++ flat_map f rest) written
    ∙ (append_assoc out (f code) (flat_map f rest)
    ∙ (ap (λ xs. out ++ xs) (sym (flat_map_first f code rest) ∙ ap (flat_map f) (sym is)) ∙ before))

-- with none left, the whole is written
pub none_left : (f : ℕ → List ℕ) (out whole moves : List ℕ) → moves ≡ [] → out ++ flat_map f moves ≡ whole → out ≡ whole
none_left f out whole moves is before = sym (append-nil out) ∙ (ap (λ xs. out ++ flat_map f xs) (sym is) ∙ before)
