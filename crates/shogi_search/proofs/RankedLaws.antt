-- Codes ranked by worth: the order of insertion does not matter, and the best move comes first.
use Rattle.std.proofs.Common.{◌≡◌, ◌<◌, ◌≤◌, ◌<ℤ◌, ◌≤ℤ◌, ℕ, zero, suc, ◌+◌, ◌-◌, ℤ, Some, List, [], ◌∷◌, ◌++◌, ◌==◌, true, false, refl, ap, ◌∙◌, sym, arith, map, take, drop, length, get_or, find, subst}
use Rattle.std.specs.Prelude.{slice_get, insert}
use Rattle.std.specs.Ordering.{int_eq}
use Rattle.std.proofs.lemmas.Int.{ints}
use Rattle.std.proofs.lemmas.Bool.{cond_both, or_left, or_parts, eq-eqb}
use Rattle.std.proofs.lemmas.Bool.Decides.{Decides-int_eq, nat_tests}
use Rattle.std.proofs.lemmas.List.{take-map, take-take, take_more, drop_more, drop_all, append_assoc}
use Rattle.shogi_core.specs.declared.moves.Move.{Move}
use Rattle.shogi_core.specs.Codes.{code_of}
use Rattle.shogi_core.specs.Position.{Shogi}
use Rattle.shogi_moves.specs.LegalMoves.{legal_codes}
use Rattle.shogi_moves.specs.Rising.{is_in, IsRising}
use Rattle.shogi_moves.proofs.LegalLaws.{legal_rising}
use Rattle.shogi_eval.specs.declared.eval.Eval.{Eval}
use Rattle.minimax.specs.Minimax.{worth, best_code, lost_value, greatest, greatest_or}
use Rattle.minimax.proofs.Equal.{same_int_eq, less_int_eq}
use Rattle.minimax.proofs.Greatest.{greatest_above, greatest_least, find_first}
use Rattle.minimax.proofs.MinimaxLaws.{value-above, best_code-above}
use Rattle.shogi_search.specs.Ranked.{is_better, insert_code, ranked, ranked_codes, insert_pair, codes_in, are_ranked, coded, with_worth}

-- the tests that decide the rank of two moves
ruleset tests = (arith, ints, nat_tests, Decides-int_eq)

-- ranking before is transitive
better_on : (u v w : ℤ) (l m n : ℕ) → is_better u l v m ≡ true → is_better v m w n ≡ true → is_better u l w n ≡ true
better_on u v w l m n a b = grind tests

-- of two codes only one ranks before the other
better_not : (v w : ℤ) (m n : ℕ) → is_better v m w n ≡ true → is_better w n v m ≡ false
better_not v w m n h = grind tests

better_other : (v w : ℤ) (m n : ℕ) → (m ≡ n → ⊥) → is_better v m w n ≡ false → is_better w n v m ≡ true
better_other v w m n ne h = grind tests

not_head : (m n : ℕ) (ns : List ℕ) → is_in m (n ∷ ns) ≡ false → m ≡ n → ⊥
not_head m n ns h e = grind (arith, nat_tests)

-- two codes may be inserted in either order
rank_swap : (f : ℕ → ℤ) (m n : ℕ) (ks : List ℕ) → (m ≡ n → ⊥) → insert_code f m (insert_code f n ks) ≡ insert_code f n (insert_code f m ks)
rank_swap f m n [] ne = grind tests
rank_swap f m n (k ∷ ks) ne = grind (arith, better_on (f n) (f m) (f k) n m k, better_on (f m) (f n) (f k) m n k, better_not (f m) (f n) m n, better_other (f m) (f n) m n ne, rank_swap f m n ks ne)

-- a code appended to a list is ranked like one put first
pub ranked_last : (f : ℕ → ℤ) (ms : List ℕ) (m : ℕ) → is_in m ms ≡ false → ranked f (ms ++ m ∷ []) ≡ insert_code f m (ranked f ms)
unfolding ranked
ranked_last f [] m h = refl
ranked_last f (n ∷ ns) m h = grind (arith, nat_tests, ranked_last f ns m, rank_swap f n m (ranked f ns))

-- a code is in the list after inserting `m` if it is `m` or was there
in_rank : (f : ℕ → ℤ) (n m : ℕ) (ks : List ℕ) → is_in n (insert_code f m ks) ≡ is_in n (m ∷ ks)
in_rank f n m [] = refl
in_rank f n m (k ∷ ks) = grind (arith, nat_tests, in_rank f n m ks)

pub in_ranked : (f : ℕ → ℤ) (n : ℕ) (ms : List ℕ) → is_in n (ranked f ms) ≡ is_in n ms
unfolding ranked
in_ranked f n [] = refl
in_ranked f n (m ∷ ms) = grind (arith, in_rank f n m (ranked f ms), in_ranked f n ms)

-- each code ranks before those after it
abbrev pub IsRankedList : (ℕ → ℤ) → List ℕ → Type 0
IsRankedList f [] = Unit {0}
IsRankedList f (m ∷ ms) = ((n : ℕ) → is_in n ms ≡ true → is_better (f m) m (f n) n ≡ true) × IsRankedList f ms

-- no code stands twice
abbrev pub AreDistinct : List ℕ → Type 0
AreDistinct [] = Unit {0}
AreDistinct (m ∷ ms) = (is_in m ms ≡ false) × AreDistinct ms

rank_keeps : (f : ℕ → ℤ) (m : ℕ) (ks : List ℕ) → IsRankedList f ks → is_in m ks ≡ false → IsRankedList f (insert_code f m ks)
rank_keeps f m [] r i = grind arith
rank_keeps f m (k ∷ ks) r i = cond_both (is_better (f m) m (f k) k) (m ∷ k ∷ ks) (k ∷ insert_code f m ks) (IsRankedList f)
    (λ t. (λ n h. grind (arith, nat_tests, better_on (f m) (f k) (f n) m k n t, r.0 n), r))
    (λ u. (λ n h. grind (arith, nat_tests, in_rank f n m ks, better_other (f m) (f k) m k (not_head m k ks i) u, r.0 n), rank_keeps f m ks r.1 (or_parts (m == k) (is_in m ks) i).1))

pub ranked_list : (f : ℕ → ℤ) (ms : List ℕ) → AreDistinct ms → IsRankedList f (ranked f ms)
unfolding ranked
ranked_list f [] d = tt
ranked_list f (m ∷ ms) d = rank_keeps f m (ranked f ms) (ranked_list f ms d.1) (in_ranked f m ms ∙ d.0)

pub first_in : (n : ℕ) (ns : List ℕ) → is_in n (n ∷ ns) ≡ true
first_in n ns = or_left (n == n) (is_in n ns) (eq-eqb n n refl)

-- truncating before inserting does not change what is kept
take_over : (n k : ℕ) (ks : List ℕ) → take n (k ∷ take n ks) ≡ take n (k ∷ ks)
take_over zero k ks = refl
take_over (suc n) k ks = ap (λ (l : List ℕ). k ∷ l) (take-take n (suc n) ks (omega arith))

rank_cut : (f : ℕ → ℤ) (n m : ℕ) (ks : List ℕ) → take n (insert_code f m (take n ks)) ≡ take n (insert_code f m ks)
rank_cut f zero m ks = refl
rank_cut f (suc n) m [] = refl
rank_cut f (suc n) m (k ∷ ks) = grind (arith, take_over n k ks, rank_cut f n m ks)

-- a code read at an index is in the list
pub at_place_in : (ks : List ℕ) (i l : ℕ) → slice_get ks i ≡ Some l → is_in l ks ≡ true
at_place_in [] i l h = absurd (cc)
at_place_in (k ∷ ks) zero l h = grind (arith, nat_tests)
at_place_in (k ∷ ks) (suc i) l h = grind (arith, nat_tests, at_place_in ks i l h)

-- inserting a code behind the one at an index changes nothing up to there
pub rank_past : (f : ℕ → ℤ) (m : ℕ) (ks : List ℕ) (i l : ℕ) → IsRankedList f ks → slice_get ks i ≡ Some l → is_better (f m) m (f l) l ≡ false → take (suc i) (insert_code f m ks) ≡ take (suc i) ks
rank_past f m [] i l r h u = absurd (cc)
rank_past f m (k ∷ ks) zero l r h u = grind arith
rank_past f m (k ∷ ks) (suc i) l r h u = grind (arith, better_on (f m) (f k) (f l) m k l, r.0 l (at_place_in ks i l h), rank_past f m ks i l r.1 h u)

-- a move of greater code and no greater worth does not rank before another
pub not_before : (f : ℕ → ℤ) (m l : ℕ) → l < m → f m ≤ℤ f l → is_better (f m) m (f l) l ≡ false
not_before f m l b w = grind tests

-- inserting a move into pairs inserts its code into the codes
put_rank : (f : ℕ → ℤ) (m : Move) (v : ℤ) (xs : List (Move × ℤ)) (ks : List ℕ) → v ≡ f (code_of m) → map coded xs ≡ map (with_worth f) ks → map coded (insert_pair m v xs) ≡ map (with_worth f) (insert_code f (code_of m) ks)
put_rank f m v [] [] e h = grind arith
put_rank f m v [] (k ∷ ks) e h = absurd (cc)
put_rank f m v (x ∷ xs) [] e h = absurd (cc)
put_rank f m v (x ∷ xs) (k ∷ ks) e h = grind (arith, put_rank f m v xs ks e)

-- the best codes after one more code follow from the best before
pub top_offered : (f : ℕ → ℤ) (codes : List ℕ) (n : ℕ) (m : Move) (v : ℤ) (xs : List (Move × ℤ)) → map coded xs ≡ map (with_worth f) (take n (ranked f codes)) → is_in (code_of m) codes ≡ false → v ≡ f (code_of m)
    → map coded (take n (insert_pair m v xs)) ≡ map (with_worth f) (take n (ranked f (codes ++ code_of m ∷ [])))
top_offered f codes n m v xs h i e =
    sym (take-map coded n (insert_pair m v xs)) ∙ ap (take n) (put_rank f m v xs (take n (ranked f codes)) e h) ∙ take-map (with_worth f) n (insert_code f (code_of m) (take n (ranked f codes)))
    ∙ ap (map (with_worth f)) (rank_cut f n (code_of m) (ranked f codes) ∙ ap (take n) (sym (ranked_last f codes (code_of m) i)))

pub top_empty : (f : ℕ → ℤ) (n : ℕ) → map coded [] ≡ map (with_worth f) (take n (ranked f []))
unfolding ranked
top_empty f zero = refl
top_empty f (suc n) = refl

-- inserting a new move keeps the pairs ranked
pub put_ranked : (m : Move) (v : ℤ) (xs : List (Move × ℤ)) → are_ranked xs ≡ true → is_in (code_of m) (codes_in xs) ≡ false → are_ranked (insert_pair m v xs) ≡ true
put_ranked m v [] r i = refl
put_ranked m v (x ∷ []) r i = grind tests
put_ranked m v (x ∷ y ∷ rest) r i = grind (arith, better_other v x.1 (code_of m) (code_of x.0) (not_head (code_of m) (code_of x.0) (codes_in (y ∷ rest)) i), put_ranked m v (y ∷ rest))

pub take_ranked : (n : ℕ) (xs : List (Move × ℤ)) → are_ranked xs ≡ true → are_ranked (take n xs) ≡ true
take_ranked zero xs r = refl
take_ranked (suc n) [] r = refl
take_ranked (suc zero) (x ∷ rest) r = refl
take_ranked (suc (suc n)) (x ∷ []) r = refl
take_ranked (suc (suc n)) (x ∷ y ∷ rest) r = grind (arith, take_ranked (suc n) (y ∷ rest))

-- the search for the rank goes past a pair that ranks before the move
pub place_next : (m : Move) (v : ℤ) (xs : List (Move × ℤ)) (i : ℕ) (x : Move × ℤ) → i < length xs → x ≡ get_or xs i x → is_better v (code_of m) x.1 (code_of x.0) ≡ false
    → insert_pair m v xs ≡ take i xs ++ insert_pair m v (drop i xs) → insert_pair m v xs ≡ take (i + 1) xs ++ insert_pair m v (drop (i + 1) xs)
place_next m v xs i x lt at u h = grind (arith, drop_more xs i x, take_more xs i x, append_assoc (take i xs) (x ∷ []) (insert_pair m v (drop (i + 1) xs)))

-- the rank is found at the first pair that the move ranks before
pub place_here : (m : Move) (v : ℤ) (xs : List (Move × ℤ)) (i : ℕ) (x : Move × ℤ) → i < length xs → x ≡ get_or xs i x → is_better v (code_of m) x.1 (code_of x.0) ≡ true
    → insert_pair m v xs ≡ take i xs ++ insert_pair m v (drop i xs) → insert xs i (m, v) ≡ insert_pair m v xs
place_here m v xs i x lt at t h = grind (arith, drop_more xs i x)

-- the rank is at the end if no pair ranks behind the move
pub place_last : (m : Move) (v : ℤ) (xs : List (Move × ℤ)) (i : ℕ) → length xs ≤ i → insert_pair m v xs ≡ take i xs ++ insert_pair m v (drop i xs) → insert xs i (m, v) ≡ insert_pair m v xs
place_last m v xs i le h = grind (arith, drop_all i xs)

-- a rising list has no code twice
pub rising_distinct : (ms : List ℕ) → IsRising ms → AreDistinct ms
rising_distinct [] r = tt
rising_distinct (m ∷ ms) r = (grind (arith, r.0 m), rising_distinct ms r.1)

at_most : (f : ℕ → ℤ) (h : ℕ) (rest : List ℕ) → IsRankedList f (h ∷ rest) → (n : ℕ) → is_in n (h ∷ rest) ≡ true → f n ≤ℤ f h
at_most f h rest o n i = grind (tests, o.0 n)

lesser : (f : ℕ → ℤ) (h : ℕ) (rest : List ℕ) → IsRankedList f (h ∷ rest) → (n : ℕ) → is_in n (h ∷ rest) ≡ true → n < h → f n <ℤ f h
lesser f h rest o n i b = grind (tests, o.0 n)

-- the first code of a ranked rising list is the lowest of the greatest worth
first_at : (none : ℤ) (f : ℕ → ℤ) (ms rs : List ℕ) → IsRising ms → ranked f ms ≡ rs → slice_get rs 0 ≡ find (λ m. int_eq (f m) (greatest_or none f ms)) ms
unfolding ranked
first_at none f [] rs r e = ap (λ (l : List ℕ). slice_get l 0) (sym e)
first_at none f (m ∷ ms) [] r e = absurd (grind (arith, in_ranked f m (m ∷ ms), first_in m ms))
first_at none f (m ∷ ms) (h ∷ rest) r e =
    let o : IsRankedList f (h ∷ rest) = subst (IsRankedList f) e (ranked_list f (m ∷ ms) (rising_distinct (m ∷ ms) r)) in
    let moved : ((n : ℕ) → is_in n (h ∷ rest) ≡ is_in n (m ∷ ms)) = (λ n. sym (ap (is_in n) e) ∙ in_ranked f n (m ∷ ms)) in
    let there : is_in h (m ∷ ms) ≡ true = sym (moved h) ∙ first_in h rest in
    let most : f h ≡ greatest f m ms = omega (arith, ints, greatest_above f m ms h there, greatest_least f m ms (f h) (λ n i. at_most f h rest o n (moved n ∙ i))) in
    sym (find_first (λ k. int_eq (f k) (greatest f m ms)) (m ∷ ms) h r there (same_int_eq (f h) (greatest f m ms) most)
    (λ n i b. (let l : f n <ℤ f h = lesser f h rest o n (moved n ∙ i) b in less_int_eq (f n) (greatest f m ms) (omega (arith, ints)))))

-- the first of the ranked legal moves is the best move
pub best_ranked : (p : Shogi) (e : Eval) (d : ℕ) → 0 < d → slice_get (ranked_codes p e d) 0 ≡ best_code p e d
best_ranked p e d h =
    first_at (lost_value d) (worth p e (d - 1)) (legal_codes p) (ranked_codes p e d) (legal_rising p 0) refl
    ∙ ap (λ (v : ℤ). find (λ m. int_eq (worth p e (d - 1) m) v) (legal_codes p)) (sym (value-above p e d h)) ∙ sym (best_code-above p e d h)
