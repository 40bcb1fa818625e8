-- The visits of a node are a permutation of its legal moves.
use Rattle.std.proofs.Common.{◌≡◌, ◌<◌, ◌≤◌, ◌+◌, length, ℕ, List, [], ◌∷◌, ◌++◌, ◌⊎◌, Bool, true, false, ◌==◌, filter, not, refl, ap, ◌∙◌, sym, arith, subst, inl, inr}
use Rattle.std.specs.Prelude.{cond, ◌&&◌}
use Rattle.std.specs.List.{sum_by}
use Rattle.std.proofs.lemmas.List.Sums.{sum_by-cons}
use Rattle.std.proofs.lemmas.Bool.{cond_both, cases_Bool, or_cases, eqb-true, or_left, or_right, and_parts, eq-eqb, not_from_true, not_from_false, cond-true, cond-false}
use Rattle.shogi_core.specs.declared.moves.TheConstants.{FIRST_DROP}
use Rattle.shogi_core.specs.Position.{Shogi}
use Rattle.shogi_moves.specs.Captures.{matches_kind}
use Rattle.shogi_moves.specs.LegalMoves.{legal_from}
use Rattle.shogi_moves.specs.Rising.{is_in}
use Rattle.shogi_moves.specs.Sweeps.{matching_from}
use Rattle.shogi_replies.specs.Passes.{IsSkipped}
use Rattle.shogi_moves.proofs.SweepLaws.{no_captures}
use Rattle.search_nodes.specs.PriorityMoves.{is_distinct}
use Rattle.search_nodes.specs.Order.{matches_other, matching_others_from}

-- filtering by kind and then by priority is filtering by both
filter-both : (p : Shogi) (priority_moves : List ℕ) (capture : Bool) (xs : List ℕ) → filter (matches_other p priority_moves capture) xs ≡ filter (λ n. not (is_in n priority_moves)) (filter (matches_kind p capture) xs)
filter-both p priority_moves capture [] = refl
filter-both p priority_moves capture (m ∷ xs) = elim (cases_Bool (matches_kind p capture m)) [
  | inl matching ↦ (
      let here : filter (matches_kind p capture) (m ∷ xs) ≡ m ∷ filter (matches_kind p capture) xs = cond-true _ _ _ matching in
      ap (λ (b : Bool). cond b (m ∷ filter (matches_other p priority_moves capture) xs) (filter (matches_other p priority_moves capture) xs)) (ap (λ (b : Bool). b && not (is_in m priority_moves)) matching)
      ∙ ap (λ (ys : List ℕ). cond (not (is_in m priority_moves)) (m ∷ ys) ys) (filter-both p priority_moves capture xs)
      ∙ ap (filter (λ n. not (is_in n priority_moves))) (sym here))
  | inr other ↦ (
      let gone : filter (matches_kind p capture) (m ∷ xs) ≡ filter (matches_kind p capture) xs = cond-false _ _ _ other in
      ap (λ (b : Bool). cond b (m ∷ filter (matches_other p priority_moves capture) xs) (filter (matches_other p priority_moves capture) xs)) (ap (λ (b : Bool). b && not (is_in m priority_moves)) other)
      ∙ filter-both p priority_moves capture xs
      ∙ ap (filter (λ n. not (is_in n priority_moves))) (sym gone))
]

-- the next move of the kind is picked if it is no priority move, and passed if it is; with none left, none is picked
pub other-found : (p : Shogi) (priority_moves : List ℕ) (capture : Bool) (m : ℕ) (xs rest : List ℕ) → filter (matches_kind p capture) xs ≡ m ∷ filter (matches_kind p capture) rest → is_in m priority_moves ≡ false → filter (matches_other p priority_moves capture) xs ≡ m ∷ filter (matches_other p priority_moves capture) rest
other-found p priority_moves capture m xs rest e h =
    filter-both p priority_moves capture xs ∙ ap (filter (λ n. not (is_in n priority_moves))) e ∙ cond-true _ _ _ (ap not h) ∙ ap (λ (ys : List ℕ). m ∷ ys) (sym (filter-both p priority_moves capture rest))

pub other-passed : (p : Shogi) (priority_moves : List ℕ) (capture : Bool) (m : ℕ) (xs rest : List ℕ) → filter (matches_kind p capture) xs ≡ m ∷ filter (matches_kind p capture) rest → is_in m priority_moves ≡ true → filter (matches_other p priority_moves capture) xs ≡ filter (matches_other p priority_moves capture) rest
other-passed p priority_moves capture m xs rest e h =
    filter-both p priority_moves capture xs ∙ ap (filter (λ n. not (is_in n priority_moves))) e ∙ cond-false _ _ _ (ap not h) ∙ sym (filter-both p priority_moves capture rest)

pub other-none : (p : Shogi) (priority_moves : List ℕ) (capture : Bool) (xs : List ℕ) → filter (matches_kind p capture) xs ≡ [] → filter (matches_other p priority_moves capture) xs ≡ []
other-none p priority_moves capture xs e = filter-both p priority_moves capture xs ∙ ap (filter (λ n. not (is_in n priority_moves))) e

-- each move taken shortens the list
pub fewer_left : (left rest : List ℕ) (m : ℕ) → left ≡ m ∷ rest → length rest < length left
fewer_left left rest m e = subst (λ (xs : List ℕ). length rest < length xs) (sym e) (omega arith)

-- lists that have equal moves of a kind have equal ones without the priority moves too
pub other-same : (p : Shogi) (priority_moves : List ℕ) (capture : Bool) (xs ys : List ℕ) → filter (matches_kind p capture) xs ≡ filter (matches_kind p capture) ys → filter (matches_other p priority_moves capture) xs ≡ filter (matches_other p priority_moves capture) ys
other-same p priority_moves capture xs ys e = filter-both p priority_moves capture xs ∙ ap (filter (λ n. not (is_in n priority_moves))) e ∙ sym (filter-both p priority_moves capture ys)

-- what is skipped in a list is skipped in a filtered list too
passed_none : (fact : ℕ → Type 0) (xs : List ℕ) → IsSkipped fact xs xs
passed_none fact [] = refl
passed_none fact (m ∷ xs) = inl refl

passed_filter : (fact : ℕ → Type 0) (t : ℕ → Bool) (xs ys : List ℕ) → IsSkipped fact xs ys → IsSkipped fact (filter t xs) (filter t ys)
passed_filter fact t [] ys h = ap (filter t) h
passed_filter fact t (m ∷ xs) ys h = elim h [
  | inl same ↦ subst (λ (zs : List ℕ). IsSkipped fact (filter t (m ∷ xs)) (filter t zs)) same (passed_none fact (filter t (m ∷ xs)))
  | inr more ↦ cond_both (t m) (m ∷ filter t xs) (filter t xs) (λ (zs : List ℕ). IsSkipped fact zs (filter t ys)) (λ _. inr (more.0, passed_filter fact t xs ys more.1)) (λ _. passed_filter fact t xs ys more.1)
]

pub passed_others : (fact : ℕ → Type 0) (p : Shogi) (priority_moves : List ℕ) (capture : Bool) (first code : ℕ) → IsSkipped fact (matching_from p capture first) (matching_from p capture code) → IsSkipped fact (matching_others_from p priority_moves capture first) (matching_others_from p priority_moves capture code)
passed_others fact p priority_moves capture first code h =
    let t : ℕ → Bool = λ (n : ℕ). not (is_in n priority_moves) in
    subst (λ (xs : List ℕ). IsSkipped fact xs (matching_others_from p priority_moves capture code)) (sym (filter-both p priority_moves capture (legal_from p first)))
    (subst (λ (ys : List ℕ). IsSkipped fact (filter t (matching_from p capture first)) ys) (sym (filter-both p priority_moves capture (legal_from p code)))
    (passed_filter fact t (matching_from p capture first) (matching_from p capture code) h))

pub ruleset passing_others = (passed_others)

-- no drop is a capture
pub no_drop_taken : (p : Shogi) (priority_moves : List ℕ) → matching_others_from p priority_moves true FIRST_DROP ≡ []
no_drop_taken p priority_moves = other-none p priority_moves true (legal_from p FIRST_DROP) (no_captures p)

pub captures_end : (p : Shogi) (priority_moves : List ℕ) (code : ℕ) (ys : List ℕ) → matching_others_from p priority_moves true code ≡ matching_others_from p priority_moves true FIRST_DROP → (matching_others_from p priority_moves true code ++ ys) ≡ ys
captures_end p priority_moves code ys e = ap (λ (xs : List ℕ). xs ++ ys) (e ∙ no_drop_taken p priority_moves)

pub ruleset no_capture_left = (captures_end)

pub ruleset matching_others = (other-found, other-passed, other-none, other-same)

pub in_cases : (n m : ℕ) (xs : List ℕ) → is_in n (m ∷ xs) ≡ true → ((n == m) ≡ true) ⊎ (is_in n xs ≡ true)
in_cases n m xs h = or_cases (n == m) (is_in n xs) h

pub in_head : (n m : ℕ) (xs : List ℕ) → (n == m) ≡ true → is_in n (m ∷ xs) ≡ true
in_head n m xs h = or_left (n == m) (is_in n xs) h

pub in_tail : (n m : ℕ) (xs : List ℕ) → is_in n xs ≡ true → is_in n (m ∷ xs) ≡ true
in_tail n m xs h = or_right (n == m) (is_in n xs) h

pub is_in-append_left : (n : ℕ) (xs ys : List ℕ) → is_in n xs ≡ true → is_in n (xs ++ ys) ≡ true
is_in-append_left n [] ys h = absurd (cc)
is_in-append_left n (m ∷ xs) ys h = elim (in_cases n m xs h) [ inl e ↦ in_head n m (xs ++ ys) e | inr e ↦ in_tail n m (xs ++ ys) (is_in-append_left n xs ys e) ]

pub is_in-append_right : (n : ℕ) (xs ys : List ℕ) → is_in n ys ≡ true → is_in n (xs ++ ys) ≡ true
is_in-append_right n [] ys h = h
is_in-append_right n (m ∷ xs) ys h = in_tail n m (xs ++ ys) (is_in-append_right n xs ys h)

pub is_in-append_cases : (n : ℕ) (xs ys : List ℕ) (P : Type 0) → (is_in n xs ≡ true → P) → (is_in n ys ≡ true → P) → is_in n (xs ++ ys) ≡ true → P
is_in-append_cases n [] ys P a b h = b h
is_in-append_cases n (m ∷ xs) ys P a b h =
    elim (in_cases n m (xs ++ ys) h) [ inl e ↦ a (in_head n m xs e) | inr e ↦ is_in-append_cases n xs ys P (λ i. a (in_tail n m xs i)) b e ]

pub is_in-filter_from : (t : ℕ → Bool) (n : ℕ) (xs : List ℕ) → is_in n (filter t xs) ≡ true → is_in n xs ≡ true
is_in-filter_from t n [] h = h
is_in-filter_from t n (m ∷ xs) h =
    cond_both (t m) (m ∷ filter t xs) (filter t xs) (λ (ys : List ℕ). is_in n ys ≡ true → is_in n (m ∷ xs) ≡ true)
    (λ _ i. elim (in_cases n m (filter t xs) i) [ inl e ↦ in_head n m xs e | inr e ↦ in_tail n m xs (is_in-filter_from t n xs e) ])
    (λ _ i. in_tail n m xs (is_in-filter_from t n xs i))
    h

pub is_in-filter_kept : (t : ℕ → Bool) (n : ℕ) (xs : List ℕ) → is_in n (filter t xs) ≡ true → t n ≡ true
is_in-filter_kept t n [] h = absurd (cc)
is_in-filter_kept t n (m ∷ xs) h =
    cond_both (t m) (m ∷ filter t xs) (filter t xs) (λ (ys : List ℕ). is_in n ys ≡ true → t n ≡ true)
    (λ p i. elim (in_cases n m (filter t xs) i) [ inl e ↦ ap t (eqb-true n m e) ∙ p | inr e ↦ is_in-filter_kept t n xs e ])
    (λ _ i. is_in-filter_kept t n xs i)
    h

pub is_in-filter : (t : ℕ → Bool) (n : ℕ) (xs : List ℕ) → t n ≡ true → is_in n xs ≡ true → is_in n (filter t xs) ≡ true
is_in-filter t n [] p h = h
is_in-filter t n (m ∷ xs) p h =
    elim (in_cases n m xs h) [
      | inl e ↦ (let same : n ≡ m = eqb-true n m e in let q : t m ≡ true = sym (ap t same) ∙ p in subst (λ (ys : List ℕ). is_in n ys ≡ true) (sym (cond-true (t m) (m ∷ filter t xs) (filter t xs) q)) (in_head n m (filter t xs) e))
      | inr e ↦ cond_both (t m) (m ∷ filter t xs) (filter t xs) (λ (ys : List ℕ). is_in n ys ≡ true) (λ _. in_tail n m (filter t xs) (is_in-filter t n xs p e)) (λ _. is_in-filter t n xs p e)
    ]

-- two tests exclude each other
abbrev pub AreApart : (ℕ → Bool) → (ℕ → Bool) → Type 0
AreApart a b = (n : ℕ) → a n ≡ true → b n ≡ true → ⊥

sum-cons : (g : ℕ → ℕ) (m : ℕ) (xs ys : List ℕ) → ys ≡ m ∷ xs → sum_by g ys ≡ g m + sum_by g xs
sum-cons g m xs ys e = ap (sum_by g) e ∙ sum_by-cons g m xs

filter_sum : (g : ℕ → ℕ) (t : ℕ → Bool) (m : ℕ) (xs : List ℕ) (P : ℕ → Type 0) → (t m ≡ true → P (g m + sum_by g (filter t xs))) → (t m ≡ false → P (sum_by g (filter t xs))) → P (sum_by g (filter t (m ∷ xs)))
filter_sum g t m xs P a b =
    elim (cases_Bool (t m)) [
      | inl h ↦ subst P (sym (sum-cons g m (filter t xs) _ (cond-true (t m) (m ∷ filter t xs) (filter t xs) h))) (a h)
      | inr h ↦ subst P (sym (ap (sum_by g) (cond-false (t m) (m ∷ filter t xs) (filter t xs) h))) (b h)
    ]

-- a stricter test keeps a sum no greater
filter_fewer : (g : ℕ → ℕ) (t u : ℕ → Bool) → ((n : ℕ) → t n ≡ true → u n ≡ true) → (xs : List ℕ) → sum_by g (filter t xs) ≤ sum_by g (filter u xs)
filter_fewer g t u tu [] = omega arith
filter_fewer g t u tu (m ∷ xs) =
    let ih : sum_by g (filter t xs) ≤ sum_by g (filter u xs) = filter_fewer g t u tu xs in
    filter_sum g t m xs (λ x. x ≤ sum_by g (filter u (m ∷ xs)))
    (λ p. filter_sum g u m xs (λ y. g m + sum_by g (filter t xs) ≤ y) (λ _. omega arith) (λ no. (let yes : u m ≡ true = tu m p in absurd (cc))))
    (λ _. filter_sum g u m xs (λ y. sum_by g (filter t xs) ≤ y) (λ _. omega arith) (λ _. omega arith))

-- a stricter test that also drops an element of the list keeps a sum that is less by that element
filter_one_fewer : (g : ℕ → ℕ) (t u : ℕ → Bool) (f : ℕ) → ((n : ℕ) → t n ≡ true → u n ≡ true) → t f ≡ false → u f ≡ true → (xs : List ℕ) → is_in f xs ≡ true → g f + sum_by g (filter t xs) ≤ sum_by g (filter u xs)
filter_one_fewer g t u f tu tf uf [] i = absurd (cc)
filter_one_fewer g t u f tu tf uf (m ∷ xs) i =
    elim (in_cases f m xs i) [
      | inl e ↦ (
          let same : f ≡ m = eqb-true f m e in
          let fewer : sum_by g (filter t xs) ≤ sum_by g (filter u xs) = filter_fewer g t u tu xs in
          let fm : g f ≡ g m = ap g same in
          filter_sum g t m xs (λ x. g f + x ≤ sum_by g (filter u (m ∷ xs)))
          (λ p. (let no : t m ≡ false = sym (ap t same) ∙ tf in absurd (cc)))
          (λ _. filter_sum g u m xs (λ y. g f + sum_by g (filter t xs) ≤ y) (λ _. omega arith) (λ no. (let yes : u m ≡ true = sym (ap u same) ∙ uf in absurd (cc)))))
      | inr e ↦ (
          let ih : g f + sum_by g (filter t xs) ≤ sum_by g (filter u xs) = filter_one_fewer g t u f tu tf uf xs e in
          filter_sum g t m xs (λ x. g f + x ≤ sum_by g (filter u (m ∷ xs)))
          (λ p. filter_sum g u m xs (λ y. g f + (g m + sum_by g (filter t xs)) ≤ y) (λ _. omega arith) (λ no. (let yes : u m ≡ true = tu m p in absurd (cc))))
          (λ _. filter_sum g u m xs (λ y. g f + sum_by g (filter t xs) ≤ y) (λ _. omega arith) (λ _. omega arith)))
    ]

-- the sum over the elements of `fs` in `xs`, and of `xs` not in `fs`, is at most that over `xs`
priority_moves_apart : (g : ℕ → ℕ) (fs : List ℕ) → is_distinct fs ≡ true → (xs : List ℕ) → sum_by g (filter (λ n. is_in n xs) fs) + sum_by g (filter (λ n. not (is_in n fs)) xs) ≤ sum_by g xs
priority_moves_apart g [] distinct xs = omega (arith, filter_fewer g (λ n. not (is_in n [])) (λ n. true) (λ n _. refl) xs, filter_all xs)
  where
    filter_all : (xs : List ℕ) → sum_by g (filter (λ n. true) xs) ≡ sum_by g xs
    filter_all [] = refl
    filter_all (m ∷ xs) = omega (arith, filter_all xs, sum_by-cons g m xs, sum_by-cons g m (filter (λ n. true) xs))
priority_moves_apart g (f ∷ fs) distinct xs =
    let parts = and_parts (not (is_in f fs)) (is_distinct fs) distinct in
    let t : ℕ → Bool = λ (n : ℕ). not (is_in n (f ∷ fs)) in
    let u : ℕ → Bool = λ (n : ℕ). not (is_in n fs) in
    let tu : (n : ℕ) → t n ≡ true → u n ≡ true = λ n h. elim (cases_Bool (is_in n fs)) [ inl i ↦ (let no : t n ≡ false = not_from_true _ (in_tail n f fs i) in absurd (cc)) | inr o ↦ not_from_false _ o ] in
    let ih : sum_by g (filter (λ n. is_in n xs) fs) + sum_by g (filter u xs) ≤ sum_by g xs = priority_moves_apart g fs parts.1 xs in
    filter_sum g (λ n. is_in n xs) f fs (λ x. x + sum_by g (filter t xs) ≤ sum_by g xs)
    (λ i. (let less : g f + sum_by g (filter t xs) ≤ sum_by g (filter u xs) = filter_one_fewer g t u f tu (not_from_true _ (in_head f f fs (eq-eqb f f refl))) parts.0 xs i in omega arith))
    (λ _. (let less : sum_by g (filter t xs) ≤ sum_by g (filter u xs) = filter_fewer g t u tu xs in omega arith))

-- the sums over what two exclusive tests keep are at most the sum over the list
two_among : (g : ℕ → ℕ) (a b t : ℕ → Bool) → AreApart a b → (xs : List ℕ) → sum_by g (filter (λ n. a n && t n) xs) + sum_by g (filter (λ n. b n && t n) xs) ≤ sum_by g (filter t xs)
two_among g a b t apart [] = omega arith
two_among g a b t apart (m ∷ xs) =
    let at : ℕ → Bool = λ (n : ℕ). a n && t n in
    let bt : ℕ → Bool = λ (n : ℕ). b n && t n in
    let ih : sum_by g (filter at xs) + sum_by g (filter bt xs) ≤ sum_by g (filter t xs) = two_among g a b t apart xs in
    filter_sum g at m xs (λ x. x + sum_by g (filter bt (m ∷ xs)) ≤ sum_by g (filter t (m ∷ xs)))
    (λ p. filter_sum g bt m xs (λ y. (g m + sum_by g (filter at xs)) + y ≤ sum_by g (filter t (m ∷ xs)))
    (λ q. absurd (apart m (and_parts _ _ p).0 (and_parts _ _ q).0))
    (λ _. filter_sum g t m xs (λ z. (g m + sum_by g (filter at xs)) + sum_by g (filter bt xs) ≤ z) (λ _. omega arith) (λ no. (let yes : t m ≡ true = (and_parts (a m) (t m) p).1 in absurd (cc)))))
    (λ _. filter_sum g bt m xs (λ y. sum_by g (filter at xs) + y ≤ sum_by g (filter t (m ∷ xs)))
    (λ q. filter_sum g t m xs (λ z. sum_by g (filter at xs) + (g m + sum_by g (filter bt xs)) ≤ z) (λ _. omega arith) (λ no. (let yes : t m ≡ true = (and_parts (b m) (t m) q).1 in absurd (cc))))
    (λ _. filter_sum g t m xs (λ z. sum_by g (filter at xs) + sum_by g (filter bt xs) ≤ z) (λ _. omega arith) (λ _. omega arith)))

-- the priority moves and the two kinds of other moves sum to at most all legal moves
pub priority_move_parts : (g : ℕ → ℕ) (a b : ℕ → Bool) → AreApart a b → (fs : List ℕ) → is_distinct fs ≡ true → (xs : List ℕ) → sum_by g (filter (λ n. is_in n xs) fs) + (sum_by g (filter (λ n. a n && not (is_in n fs)) xs) + sum_by g (filter (λ n. b n && not (is_in n fs)) xs)) ≤ sum_by g xs
priority_move_parts g a b apart fs distinct xs = omega (arith, priority_moves_apart g fs distinct xs, two_among g a b (λ n. not (is_in n fs)) apart xs)
