-- Texts written part by part.
use Rattle.std.proofs.Common.{◌≡◌, ℕ, ◌+◌, ◌≤◌, ◌<◌, refl, sym, ◌∙◌, ap, arith, List, [], ◌∷◌, ◌++◌, length, take, get_or, append_assoc, append-nil, zero-add, add-one}
use Rattle.std.specs.Prelude.{zero, suc, codes}
use Rattle.std.specs.List.{flat_map, range_with_len}
use Rattle.std.proofs.lemmas.Grind.{flat_map-append}
use Rattle.std.proofs.lemmas.List.{length-append}
use Rattle.shogi_core.specs.declared.piece.Color.{Color}
use Rattle.shogi_core.specs.declared.piece.Color.TheVariants.{Black, White}
use Rattle.shogi_core.specs.declared.piece.Kind.{Kind}
use Rattle.shogi_core.specs.Position.{Shogi, HandCounts, count_in_hand}
use Rattle.shogi_core.specs.Validity.{IsValid, fault_of}
use Rattle.shogi_core.proofs.Faults.{cond_none}
use Rattle.shogi_sfen.specs.Written.{side_held_text, hands_text, or_hyphen}
use Rattle.shogi_sfen.proofs.TooManyHeld.{held_of_set}

range_more : (a n : ℕ) → range_with_len a (suc n) ≡ range_with_len a n ++ (a + n) ∷ []
range_more a zero = ap (λ (k : ℕ). k ∷ []) (omega arith)
range_more a (suc n) = ap (λ (r : List ℕ). a ∷ r) (range_more (a + 1) n ∙ ap (λ (k : ℕ). range_with_len (a + 1) n ++ k ∷ []) (omega arith))

-- one more part is written
pub flat_range : (f : ℕ → List ℕ) (n : ℕ) (text : List ℕ) → text ≡ flat_map f (range_with_len 0 n) → text ++ f n ≡ flat_map f (range_with_len 0 (n + 1))
flat_range f n text e =
    let last : flat_map f ((0 + n) ∷ []) ≡ f n = append-nil (f (0 + n)) ∙ ap f (zero-add n) in
    ap (λ (t : List ℕ). t ++ f n) e
    ∙ sym (ap (λ (k : ℕ). flat_map f (range_with_len 0 k)) (add-one n) ∙ (ap (flat_map f) (range_more 0 n) ∙ (flat_map-append f (range_with_len 0 n) ((0 + n) ∷ []) ∙ ap (λ (t : List ℕ). flat_map f (range_with_len 0 n) ++ t) last)))

pub flat_take : {A : Type 0} (f : A → List ℕ) (xs : List A) (i : ℕ) (d : A) → i < length xs → flat_map f (take (suc i) xs) ≡ flat_map f (take i xs) ++ f (get_or xs i d)
flat_take f [] i d h = absurd (omega arith)
flat_take f (x ∷ xs) zero d h = append-nil (f x)
flat_take f (x ∷ xs) (suc i) d h = ap (λ (t : List ℕ). f x ++ t) (flat_take f xs i d (omega arith)) ∙ sym (append_assoc (f x) (flat_map f (take i xs)) (f (get_or xs i d)))

none_left : (xs : List ℕ) → length xs ≡ 0 → or_hyphen xs ≡ codes "-"
none_left [] e = refl
none_left (x ∷ xs) e = absurd (omega arith)

some_left : (xs : List ℕ) → (length xs ≡ 0 → ⊥) → or_hyphen xs ≡ xs
some_left [] e = absurd (e refl)
some_left (x ∷ xs) e = refl

nil : (xs : List ℕ) → length xs ≡ 0 → xs ≡ []
nil [] e = refl
nil (x ∷ xs) e = absurd (omega arith)

nothing_added : (old more : List ℕ) → length (old ++ more) ≡ length old → length more ≡ 0
nothing_added old more e = let n : length (old ++ more) ≡ length old + length more = length-append old more in omega arith

-- the hands after a text, or a hyphen
pub hands-none : (old black white new : List ℕ) (hands : HandCounts) → black ≡ old ++ side_held_text hands Black → white ≡ black ++ side_held_text hands White → length white ≡ length old → new ≡ white ++ 45 ∷ []
    → new ≡ old ++ hands_text hands
unfolding hands_text
hands-none old black white new hands b w e n =
    let all : white ≡ old ++ (side_held_text hands Black ++ side_held_text hands White) = w ∙ (ap (λ (t : List ℕ). t ++ side_held_text hands White) b ∙ append_assoc old (side_held_text hands Black) (side_held_text hands White)) in
    let none : length (side_held_text hands Black ++ side_held_text hands White) ≡ 0 = nothing_added old (side_held_text hands Black ++ side_held_text hands White) (ap length (sym all) ∙ e) in
    n ∙ (ap (λ (t : List ℕ). t ++ 45 ∷ []) (all ∙ (ap (λ (t : List ℕ). old ++ t) (nil (side_held_text hands Black ++ side_held_text hands White) none) ∙ append-nil old)) ∙ ap (λ (t : List ℕ). old ++ t) (sym (none_left (side_held_text hands Black ++ side_held_text hands White) none)))

pub hands-some : (old black white : List ℕ) (hands : HandCounts) → black ≡ old ++ side_held_text hands Black → white ≡ black ++ side_held_text hands White → (length white ≡ length old → ⊥)
    → white ≡ old ++ hands_text hands
unfolding hands_text
hands-some old black white hands b w e =
    let all : white ≡ old ++ (side_held_text hands Black ++ side_held_text hands White) = w ∙ (ap (λ (t : List ℕ). t ++ side_held_text hands White) b ∙ append_assoc old (side_held_text hands Black) (side_held_text hands White)) in
    let some : length (side_held_text hands Black ++ side_held_text hands White) ≡ 0 → ⊥ = λ none. e (ap length all ∙ (length-append old (side_held_text hands Black ++ side_held_text hands White) ∙ omega arith)) in
    all ∙ ap (λ (t : List ℕ). old ++ t) (sym (some_left (side_held_text hands Black ++ side_held_text hands White) some))

-- in a valid position each hand count is below 100
pub few_held : (p : Shogi) → IsValid p → (color : Color) (kind : Kind) → count_in_hand p.hands color kind < 100
unfolding fault_of
few_held p v color kind = let few : count_in_hand p.hands color kind ≤ 18 = held_of_set p.cells p.hands (cond_none _ _ _ v.no_fault).0 color kind in omega arith

-- the written text is board, side and hands, with a space between
pub assembled : (board a b c d side hands : List ℕ) (letter : ℕ) → a ≡ board ++ 32 ∷ [] → b ≡ a ++ letter ∷ [] → letter ∷ [] ≡ side → c ≡ b ++ 32 ∷ [] → d ≡ c ++ hands
    → d ≡ board ++ (32 ∷ (side ++ (32 ∷ hands)))
assembled board a b c d side hands letter ea eb es ec ed =
    let whole : d ≡ (((board ++ 32 ∷ []) ++ side) ++ 32 ∷ []) ++ hands =
    ed ∙ ap (λ (t : List ℕ). t ++ hands) (ec ∙ ap (λ (t : List ℕ). t ++ 32 ∷ []) (eb ∙ (ap (λ (t : List ℕ). t ++ letter ∷ []) ea ∙ ap (λ (t : List ℕ). (board ++ 32 ∷ []) ++ t) es))) in
    whole ∙ simp append_assoc
