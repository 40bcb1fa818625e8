-- When there is a best move.
use Rattle.std.proofs.Common.{◌≡◌, ◌<◌, ℕ, zero, suc, ℤ, List, [], ◌∷◌, ◌⊎◌, ◌==◌, Bool, true, false, Option, Some, None, refl, ap, ◌∙◌, sym, inl, inr, find, is_some}
use Rattle.std.specs.Prelude.{◌↔◌, IsNone, IfSome, int_lt}
use Rattle.std.specs.Ordering.{int_eq}
use Rattle.std.proofs.lemmas.Bool.{or_left, or_right, or_cases, eq-eqb, eqb-true, cond_both, cases_lt, both_ways}
use Rattle.shogi_core.specs.declared.moves.TheConstants.{FIRST_DROP, MOVE_CODE_COUNT}
use Rattle.shogi_core.specs.declared.moves.Move.{Move}
use Rattle.shogi_core.specs.Codes.{move_of}
use Rattle.shogi_core.specs.Position.{Shogi}
use Rattle.shogi_moves.specs.Legal.{is_legal}
use Rattle.shogi_moves.specs.LegalMoves.{legal_codes}
use Rattle.shogi_moves.specs.Rising.{is_in}
use Rattle.shogi_moves.proofs.LegalLaws.{legal_in, legal_code_below, is_legal_code_of}
use Rattle.shogi_eval.specs.declared.eval.Eval.{Eval}
use Rattle.minimax.specs.Minimax.{value, best, best_code, move_of_some, worth, lost_value, greatest, greatest_or}
use Rattle.minimax.proofs.Equal.{same_int_eq}
use Rattle.minimax.proofs.MinimaxLaws.{value-suc, best_code-leaf, best_code-suc, best-leaf, best-code}
use Rattle.minimax.proofs.Valid.{board_of, drop_of}

-- a number of the list passes the test
pub record Passes (t : ℕ → Bool) (xs : List ℕ) : Type 0 where
  pub at : ℕ
  pub listed : is_in at xs ≡ true
  pub passed : t at ≡ true

-- some move is worth the greatest worth
greatest_reached : (f : ℕ → ℤ) (m : ℕ) (ms : List ℕ) → Passes (λ n. int_eq (f n) (greatest f m ms)) (m ∷ ms)
greatest_reached f m [] = record { at = m; listed = or_left _ _ (eq-eqb m m refl); passed = same_int_eq (f m) (f m) refl }
greatest_reached f m (k ∷ ks) =
    cond_both (int_lt (greatest f k ks) (f m)) (f m) (greatest f k ks) (λ (v : ℤ). Passes (λ n. int_eq (f n) v) (m ∷ k ∷ ks))
    (λ _. record { at = m; listed = or_left _ _ (eq-eqb m m refl); passed = same_int_eq (f m) (f m) refl })
    (λ _. let r : Passes (λ n. int_eq (f n) (greatest f k ks)) (k ∷ ks) = greatest_reached f k ks in record { at = r.at; listed = or_right (r.at == m) (is_in r.at (k ∷ ks)) r.listed; passed = r.passed })

-- if `find` finds none, no number of the list passes
find_passes : (t : ℕ → Bool) (n : ℕ) (xs : List ℕ) → is_in n xs ≡ true → t n ≡ true → find t xs ≡ None → ⊥
find_passes t n [] i p e = both_ways false refl i
find_passes t n (m ∷ xs) i p e =
    cond_both (t m) (Some m) (find t xs) (λ (o : Option ℕ). o ≡ None → ⊥)
    (λ _ q. cc)
    (λ f q. elim (or_cases (n == m) (is_in n xs) i) [ inl s ↦ both_ways (t m) f (sym (ap t (eqb-true n m s)) ∙ p) | inr r ↦ find_passes t n xs r p q ])
    e

found_at : (p : Shogi) (eval : Eval) (d m : ℕ) (ms : List ℕ) → legal_codes p ≡ m ∷ ms → best_code p eval (suc d) ≡ None → ⊥
found_at p eval d m ms e n =
    let r : Passes (λ k. int_eq (worth p eval d k) (greatest (worth p eval d) m ms)) (m ∷ ms) = greatest_reached (worth p eval d) m ms in
    let v : value p eval (suc d) ≡ greatest (worth p eval d) m ms = value-suc p eval d ∙ ap (greatest_or (lost_value (suc d)) (worth p eval d)) e in
    find_passes (λ k. int_eq (worth p eval d k) (value p eval (suc d))) r.at (m ∷ ms) r.listed (ap (λ (x : ℤ). int_eq (worth p eval d r.at) x) v ∙ r.passed)
    (sym (ap (find (λ k. int_eq (worth p eval d k) (value p eval (suc d)))) e) ∙ sym (best_code-suc p eval d) ∙ n)

find_in : (t : ℕ → Bool) (b : ℕ) (xs : List ℕ) → find t xs ≡ Some b → is_in b xs ≡ true
find_in t b [] h = absurd (cc)
find_in t b (m ∷ xs) h =
    cond_both (t m) (Some m) (find t xs) (λ (o : Option ℕ). o ≡ Some b → is_in b (m ∷ xs) ≡ true)
    (λ _ e. (let q : b ≡ m = cc in or_left (b == m) (is_in b xs) (eq-eqb b m q)))
    (λ _ e. or_right (b == m) (is_in b xs) (find_in t b xs e))
    h

-- a best move is legal
pub best_in : (p : Shogi) (eval : Eval) (d b : ℕ) → best_code p eval d ≡ Some b → is_in b (legal_codes p) ≡ true
best_in p eval zero b h = let q : best_code p eval 0 ≡ None = best_code-leaf p eval in absurd (cc)
best_in p eval (suc d) b h = find_in _ b (legal_codes p) (sym (best_code-suc p eval d) ∙ h)

code_none : (code : ℕ) → code < MOVE_CODE_COUNT → move_of code ≡ None → ⊥
code_none code h e = elim (cases_lt code FIRST_DROP) [
  | inl low ↦ (let s : _ = board_of code low in let q : None ≡ Some _ = sym e ∙ s in cc)
  | inr high ↦ (let s : _ = drop_of code high h in let q : None ≡ Some _ = sym e ∙ s in cc)
]

none_at : (p : Shogi) (eval : Eval) (d : ℕ) (o : Option ℕ) (ms : List ℕ) → best_code p eval (suc d) ≡ o → legal_codes p ≡ ms → best p eval (suc d) ≡ None → legal_codes p ≡ []
none_at p eval d o [] q e n = e
none_at p eval d None (m ∷ ms) q e n = absurd (found_at p eval d m ms e q)
none_at p eval d (Some b) (m ∷ ms) q e n = absurd (code_none b (legal_code_below p b (legal_in p 0 b (best_in p eval (suc d) b q))) (sym (best-code p eval (suc d) (Some b) q) ∙ n))

-- if there is no best move, the depth is 0 or no move is legal
pub best_none : (p : Shogi) (eval : Eval) (d : ℕ) → best p eval d ≡ None → (d ≡ 0) ⊎ (legal_codes p ≡ [])
best_none p eval zero n = inl refl
best_none p eval (suc d) n = inr (none_at p eval d (best_code p eval (suc d)) (legal_codes p) refl refl n)

lost_best : (p : Shogi) (eval : Eval) (d : ℕ) → legal_codes p ≡ [] → best p eval d ≡ None
lost_best p eval zero e = best-leaf p eval
lost_best p eval (suc d) e = best-code p eval (suc d) None (best_code-suc p eval d ∙ ap (find (λ k. int_eq (worth p eval d k) (value p eval (suc d)))) e)

none_best : (p : Shogi) (eval : Eval) (d : ℕ) → (d ≡ 0) ⊎ (legal_codes p ≡ []) → best p eval d ≡ None
none_best p eval d h = elim h [ inl z ↦ ap (best p eval) z ∙ best-leaf p eval | inr e ↦ lost_best p eval d e ]

none_is : (o : Option Move) → is_some o ≡ false → o ≡ None
none_is None e = refl
none_is (Some m) e = absurd (cc)

-- a search finds no best move if and only if the depth is 0 or no move is legal
pub none_iff : (p : Shogi) (eval : Eval) (d : ℕ) (o : Option Move) → o ≡ best p eval d → (IsNone o ↔ ((d ≡ 0) ⊎ (legal_codes p ≡ [])))
none_iff p eval d o e = (
  λ n. best_none p eval d (sym e ∙ none_is o n),
  λ h. ap is_some (e ∙ none_best p eval d h),
)

legal_at : (p : Shogi) (eval : Eval) (d : ℕ) (o : Option ℕ) (m : Move) → best_code p eval d ≡ o → move_of_some o ≡ Some m → is_legal p m ≡ true
legal_at p eval d None m q e = absurd (cc)
legal_at p eval d (Some b) m q e = sym (is_legal_code_of p b m e) ∙ legal_in p 0 b (best_in p eval d b q)

-- a best move is legal, as a move instead of a code
pub legal_best : (p : Shogi) (eval : Eval) (d : ℕ) (o : Option Move) → o ≡ best p eval d → IfSome o (λ m. is_legal p m ≡ true)
legal_best p eval d None e = tt
legal_best p eval d (Some m) e = legal_at p eval d (best_code p eval d) m refl (sym (best-code p eval d (best_code p eval d) refl) ∙ sym e)
