-- Priority moves have no code twice, and codes past the last move's are never legal.
use Rattle.std.proofs.Common.{◌≡◌, ◌≤◌, ◌<◌, ◌+◌, ℕ, List, [], ◌∷◌, ◌++◌, length, take, set, true, false, not, sym, refl, arith, subst, inl, inr}
use Rattle.std.proofs.lemmas.Bool.{cases_Bool, and_from, and_parts, not_from_true, not_from_false, eqb-true, eq-eqb}
use Rattle.std.proofs.lemmas.List.{take_more_set}
use Rattle.shogi_core.specs.declared.moves.TheConstants.{MOVE_CODE_COUNT}
use Rattle.shogi_core.specs.Position.{Shogi}
use Rattle.shogi_moves.specs.LegalMoves.{legal_codes}
use Rattle.shogi_moves.specs.Rising.{is_in}
use Rattle.shogi_moves.proofs.LegalLaws.{legal_in, legal_code_below}
use Rattle.search_nodes.specs.PriorityMoves.{is_distinct}
use Rattle.search_nodes.proofs.MatchingOthers.{in_head, in_tail, in_cases, is_in-append_cases}

-- a number other than those of a list is not in the list with it appended
not_behind : (m code : ℕ) (codes : List ℕ) → is_in m codes ≡ false → is_in code (m ∷ codes) ≡ false → is_in m (codes ++ code ∷ []) ≡ false
not_behind m code codes out other = elim (cases_Bool (is_in m (codes ++ code ∷ []))) [
  | inl i ↦ is_in-append_cases m codes (code ∷ []) (is_in m (codes ++ code ∷ []) ≡ false)
      (λ j. absurd (cc))
      (λ j. elim (in_cases m code [] j) [ inl e ↦ (let same : m ≡ code = eqb-true m code e in let yes : is_in code (m ∷ codes) ≡ true = in_head code m codes (eq-eqb code m (sym same)) in absurd (cc)) | inr none ↦ absurd (cc) ])
      i
  | inr o ↦ o
]

-- appending a new number to a distinct list keeps the list distinct
distinct_with : (codes : List ℕ) (code : ℕ) → is_distinct codes ≡ true → is_in code codes ≡ false → is_distinct (codes ++ code ∷ []) ≡ true
distinct_with [] code d out = refl
distinct_with (m ∷ codes) code d out =
    let parts = and_parts (not (is_in m codes)) (is_distinct codes) d in
    let less : is_in code codes ≡ false = elim (cases_Bool (is_in code codes)) [ inl i ↦ (let yes : is_in code (m ∷ codes) ≡ true = in_tail code m codes i in absurd (cc)) | inr o ↦ o ] in
    let own : is_in m codes ≡ false = elim (cases_Bool (is_in m codes)) [ inl i ↦ (let no : not (is_in m codes) ≡ false = not_from_true _ i in let yes : not (is_in m codes) ≡ true = parts.0 in absurd (cc)) | inr o ↦ o ] in
    and_from _ _ (not_from_false _ (not_behind m code codes own out)) (distinct_with codes code parts.1 less)

pub added : (codes : List ℕ) (len code : ℕ) → len < length codes → is_distinct (take len codes) ≡ true → is_in code (take len codes) ≡ false → is_distinct (take (len + 1) (set codes len code)) ≡ true
added codes len code h d out = subst (λ (xs : List ℕ). is_distinct xs ≡ true) (sym (take_more_set codes len code h)) (distinct_with (take len codes) code d out)

-- a code past the last move's is not legal
pub no_move_legal : (p : Shogi) (code : ℕ) → MOVE_CODE_COUNT ≤ code → is_in code (legal_codes p) ≡ false
no_move_legal p code h = elim (cases_Bool (is_in code (legal_codes p))) [ inl i ↦ (let below : code < MOVE_CODE_COUNT = legal_code_below p code (legal_in p 0 code i) in absurd (omega arith)) | inr o ↦ o ]
