-- What is told while a count goes on, move by move.
use Rattle.std.proofs.Common.{false, true, ◌≡◌, ◌∙◌, ℕ, List, [], ◌∷◌, ◌++◌, ap, sym, refl, append_assoc, append-nil, Option, None, Some}
use Rattle.std.specs.Prelude.{Result, Ok, Err}
use Rattle.std.specs.Result.{IsErr}
use Rattle.usi_moves.specs.Told.{AreTold, IsTold}

pub told_none : (a : Option (List ℕ)) → IsTold a a []
told_none None = tt
told_none (Some before) = ap (λ (xs : List ℕ). Some xs) (sym (append-nil before))

pub told_then : (a b c : Option (List ℕ)) (x y : List ℕ) → IsTold a b x → IsTold b c y → IsTold a c (x ++ y)
told_then None b c x y p q = tt
told_then (Some before) b c x y p q =
    let r : IsTold (Some (before ++ x)) c y = rw p at q in
    r ∙ ap (λ (xs : List ℕ). Some xs) (append_assoc before x y)

-- the first move that is left joins the moves before it
pub one_more : (first moves rest whole : List ℕ) (code : ℕ) → moves ≡ code ∷ rest → first ++ moves ≡ whole → (first ++ (code ∷ [])) ++ rest ≡ whole
one_more first moves rest whole code is e = append_assoc first (code ∷ []) rest ∙ (ap (λ (xs : List ℕ). first ++ xs) (sym is) ∙ e)

-- if no move is left, the moves so far are all
pub no_more : (first moves whole : List ℕ) → moves ≡ [] → first ++ moves ≡ whole → first ≡ whole
no_more first moves whole is e = sym (append-nil first) ∙ (ap (λ (xs : List ℕ). first ++ xs) (sym is) ∙ e)

-- after an error the first of the moves were told
pub told_first : {E : Type 0} (old new : Option (List ℕ)) (codes : List ℕ) (result : Result (Unit {0}) E) → IsErr result
    → (first : List ℕ) × ((left : List ℕ) × ((first ++ left ≡ codes) × IsTold old new first)) → AreTold result old new codes
told_first old new codes (Ok done) is_error told = absurd (let clash : false ≡ true = is_error in cc)
told_first old new codes (Err fault) is_error told = told
