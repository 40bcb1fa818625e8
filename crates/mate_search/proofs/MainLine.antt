-- The main line of the shortest mate ends in mate.
use Rattle.std.proofs.Common.{◌≡◌, ◌+◌, ◌-◌, ◌*◌, ℕ, zero, suc, List, [], ◌∷◌, Bool, true, false, not, Some, None, refl, sym, ap, ◌∙◌, arith, inl, inr, find, length}
use Rattle.std.specs.List.{list_any, list_all}
use Rattle.std.proofs.lemmas.Bool.{and_parts, or_cases, or_left, or_right, eq-eqb, eqb-true, true≢false, cases_Bool, both_ways, cond-true, cond-false, false_from_ne_true}
use Rattle.shogi_core.specs.Attack.{in_check}
use Rattle.shogi_core.specs.Position.{Shogi}
use Rattle.shogi_moves.specs.After.{after_code}
use Rattle.shogi_moves.specs.LegalMoves.{legal_codes}
use Rattle.shogi_moves.specs.Rising.{is_in}
use Rattle.mate_search.specs.Mates.{mates, is_mated, is_lost, first_key, longest_defence, line, IsShortest, IsMainLine, PlaysToMate}
use Rattle.mate_search.proofs.MateLaws.{mates_none}
use Rattle.mate_search.proofs.ValueLaws.{each_of, key_of, mates_more, no_reply}

-- the first of a list that passes, if some do
pub found_first : (f : ℕ → Bool) (ns : List ℕ) (m : ℕ) → is_in m ns ≡ true → f m ≡ true → (n : ℕ) × (find f ns ≡ Some n) × (is_in n ns ≡ true) × (f n ≡ true)
found_first f [] m i e = absurd (cc)
found_first f (k ∷ ks) m i e = elim (cases_Bool (f k)) [
  | inl holds ↦ (k, cond-true (f k) (Some k) (find f ks) holds, or_left _ _ (eq-eqb k k refl), holds)
  | inr fails ↦ elim (or_cases _ _ i) [
    | inl here ↦ absurd (both_ways (f k) fails (ap f (sym (eqb-true m k here)) ∙ e))
    | inr later ↦ (let rest = found_first f ks m later e in (rest.0, cond-false (f k) (Some k) (find f ks) fails ∙ rest.1, or_right _ _ rest.2, rest.3))
  ]
]

-- one that fails, if not all pass
pub one_fails : (f : ℕ → Bool) (ns : List ℕ) → list_all f ns ≡ false → (n : ℕ) × (is_in n ns ≡ true) × (not (f n) ≡ true)
one_fails f [] e = absurd (cc)
one_fails f (k ∷ ks) e = elim (cases_Bool (f k)) [
  | inl holds ↦ (let rest = one_fails f ks (grind (arith, holds, e)) in (rest.0, or_right _ _ rest.1, rest.2))
  | inr fails ↦ (k, or_left _ _ (eq-eqb k k refl), ap not fails)
]

some_at : (f : ℕ → Bool) (ns : List ℕ) (m : ℕ) → is_in m ns ≡ true → f m ≡ true → list_any f ns ≡ true
some_at f [] m i e = absurd (cc)
some_at f (k ∷ ks) m i e = elim (or_cases _ _ i) [
  | inl here ↦ or_left _ _ (ap f (sym (eqb-true m k here)) ∙ e)
  | inr later ↦ or_right (f k) _ (some_at f ks m later e)
]

-- a move after which the other side is mated mates
mates_by_key : (p : Shogi) (n code : ℕ) → is_in code (legal_codes p) ≡ true → is_mated (after_code p code) n ≡ true → mates p (suc n) ≡ true
unfolding mates
mates_by_key p n code i e = some_at (λ c. is_lost (λ r. mates r n) (after_code p c)) (legal_codes p) code i e

-- the first key of a mate
key_found : (p : Shogi) (n : ℕ) → mates p (suc n) ≡ true → (code : ℕ) × (first_key p n ≡ Some code) × (is_in code (legal_codes p) ≡ true) × (is_mated (after_code p code) n ≡ true)
key_found p n m = let key = key_of p n m in found_first (λ code. is_mated (after_code p code) n) (legal_codes p) key.0 key.1 key.2

-- the longest defence, if n further moves are the least
defence_found : (q : Shogi) (n : ℕ) → is_mated q (suc n) ≡ true → is_mated q n ≡ false → (reply : ℕ) × (longest_defence q (suc n) ≡ Some reply) × (is_in reply (legal_codes q) ≡ true) × (mates (after_code q reply) n ≡ false)
defence_found q n m f =
    let check : in_check q.cells q.side ≡ true = (and_parts (in_check q.cells q.side) _ m).0 in
    let some : list_all (λ reply. mates (after_code q reply) n) (legal_codes q) ≡ false = grind (arith, check, f) in
    let one = one_fails (λ reply. mates (after_code q reply) n) (legal_codes q) some in
    let at : suc n - 1 ≡ n = omega arith in
    let first = found_first (λ reply. not (mates (after_code q reply) n)) (legal_codes q) one.0 one.1 one.2 in
    (first.0, rw at first.1, first.2, grind (arith, first.3))

-- after it so many are the least
shortest_left : (r : Shogi) (n : ℕ) → mates r (suc n) ≡ true → mates r n ≡ false → IsShortest r (suc n)
shortest_left r n m f = record {
  mating = m;
  least = λ k h. false_from_ne_true (mates r k) (λ e. both_ways (mates r n) f (mates_more k n r (omega arith) e));
}

line_one : (p : Shogi) (key : ℕ) → first_key p 0 ≡ Some key → longest_defence (after_code p key) 0 ≡ None → line p 1 ≡ key ∷ []
unfolding line
line_one p key e f = rw (e, f) refl

line_more : (p : Shogi) (n key reply : ℕ) → first_key p n ≡ Some key → longest_defence (after_code p key) n ≡ Some reply → line p (suc n) ≡ key ∷ (reply ∷ line (after_code (after_code p key) reply) n)
unfolding line
line_more p n key reply e f = rw (e, f) refl

main_by : (k : ℕ) (p : Shogi) → IsShortest p (suc k) → PlaysToMate p (line p (suc k)) × (length (line p (suc k)) ≡ 2 * k + 1)
main_by zero p s =
    let key = key_found p 0 s.mating in
    let none : legal_codes (after_code p key.0) ≡ [] = no_reply (after_code p key.0) key.3 in
    let over : longest_defence (after_code p key.0) 0 ≡ None = ap (find (λ reply. not (mates (after_code (after_code p key.0) reply) (0 - 1)))) none in
    let check : in_check (after_code p key.0).cells (after_code p key.0).side ≡ true = (and_parts (in_check (after_code p key.0).cells (after_code p key.0).side) _ key.3).0 in
    rw (line_one p key.0 key.1 over) ((key.2, (check, none)), refl)
main_by (suc j) p s =
    let key = key_found p (suc j) s.mating in
    let q : Shogi = after_code p key.0 in
    let sooner : is_mated q j ≡ false = false_from_ne_true (is_mated q j) (λ e. both_ways (mates p (suc j)) (s.least (suc j) (omega arith)) (mates_by_key p j key.0 key.2 e)) in
    let reply = defence_found q j key.3 sooner in
    let met : mates (after_code q reply.0) (suc j) ≡ true = each_of (λ r. mates (after_code q r) (suc j)) (legal_codes q) reply.0 (and_parts (in_check q.cells q.side) _ key.3).1 reply.2 in
    let rest = main_by j (after_code q reply.0) (shortest_left (after_code q reply.0) j met reply.3) in
    rw (line_more p (suc j) key.0 reply.0 key.1 reply.1) ((key.2, (reply.2, rest.0)), omega (arith, rest.1))

pub main_line : (p : Shogi) (n : ℕ) → IsShortest p n → IsMainLine p n (line p n)
main_line p zero s = absurd (true≢false (sym s.mating ∙ mates_none p 0 refl))
main_line p (suc k) s = let main = main_by k p s in record { mating = main.0; plies = omega (arith, main.1) }
