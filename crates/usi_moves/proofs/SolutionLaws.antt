-- The texts of moves and of the keys along a main line, move by move.
use Rattle.std.proofs.Common.{◌≡◌, ◌+◌, ℕ, ◌-◌, ◌<◌, ◌≤◌, List, [], ◌∷◌, ◌++◌, Bool, true, false, Some, None, refl, sym, ap, subst, ◌∙◌, arith, inl, inr, append-nil, append_assoc, cond, flat_map, filter, length, map, nat_lt}
use Rattle.std.specs.Prelude.{zero, suc, Result, Ok, Err, IfOk, Vec}
use Rattle.std.proofs.lemmas.Bool.{cases_Bool}
use Rattle.std.proofs.lemmas.List.{length-map}
use Rattle.shogi_core.specs.declared.moves.Move.{Move}
use Rattle.shogi_core.specs.Codes.{code_of}
use Rattle.shogi_core.specs.Position.{Shogi}
use Rattle.shogi_moves.specs.After.{after_code}
use Rattle.mate_search.specs.Mates.{first_key, keys, longest_defence}
use Rattle.usi_moves.specs.Solutions.{count_several, has_several, key_lists, keys_line, then_lists, word_of, move_words}

-- ---- moves

pub words_mapped : (moves : List Move) → flat_map (λ (m : Move). word_of (code_of m)) moves ≡ move_words (map code_of moves)
words_mapped [] = refl
words_mapped (m ∷ ms) = ap (λ xs. word_of (code_of m) ++ xs) (words_mapped ms)

-- a list that was empty has the moves appended
pub listed : (empty all : List Move) (codes : List ℕ) → empty ≡ [] → map code_of all ≡ map code_of empty ++ codes → map code_of all ≡ codes
listed empty all codes none e = e ∙ ap (λ (ms : List Move). map code_of ms ++ codes) none

pub several_listed : (moves : List Move) (codes : List ℕ) (several : ℕ) → several ≡ cond (nat_lt 1 (length moves)) 1 0 → map code_of moves ≡ codes → several ≡ cond (has_several codes) 1 0
several_listed moves codes several is e =
    let one_if : ℕ → ℕ = λ k. cond (nat_lt 1 k) 1 0 in
    is ∙ ap one_if (sym (length-map moves code_of) ∙ ap length e)

pub within : (n most top : ℕ) → n ≤ most → most ≤ top → n ≤ top
within n most top a b = omega arith

-- ---- keys

pub lists_none : (p : Shogi) (n : ℕ) → n ≡ 0 → key_lists p n ≡ []
unfolding key_lists
lists_none p n e = rw e refl

lists_step : (p : Shogi) (n : ℕ) → 0 < n → key_lists p n ≡ keys p (n - 1) ∷ then_lists (λ q. then_lists (λ r. key_lists r (n - 1)) q (longest_defence q (n - 1))) p (first_key p (n - 1))
unfolding key_lists
lists_step p zero h = absurd (omega arith)
lists_step p (suc n) h =
    let same : n ≡ suc n - 1 = omega arith in
    subst (λ (k : ℕ). key_lists p (suc n) ≡ keys p k ∷ then_lists (λ q. then_lists (λ r. key_lists r k) q (longest_defence q k)) p (first_key p k)) same refl

pub lists_lost : (p : Shogi) (n : ℕ) → 0 < n → None ≡ first_key p (n - 1) → key_lists p n ≡ keys p (n - 1) ∷ []
lists_lost p n h e = rw (lists_step p n h, sym e) refl

pub lists_end : (p q : Shogi) (n key : ℕ) → 0 < n → Some key ≡ first_key p (n - 1) → q ≡ after_code p key → None ≡ longest_defence q (n - 1) → key_lists p n ≡ keys p (n - 1) ∷ []
lists_end p q n key h e f g = rw (lists_step p n h, sym e, sym f, sym g) refl

pub lists_go_on : (p q r : Shogi) (n key reply : ℕ) → 0 < n → Some key ≡ first_key p (n - 1) → q ≡ after_code p key → Some reply ≡ longest_defence q (n - 1) → r ≡ after_code q reply → key_lists p n ≡ keys p (n - 1) ∷ key_lists r (n - 1)
lists_go_on p q r n key reply h e f g i = rw (lists_step p n h, sym e, sym f, sym g, sym i) refl

-- writing the next keys keeps the whole
pub text_left : (out new whole moves : List ℕ) (lists rest : List (List ℕ)) → lists ≡ moves ∷ rest → new ≡ out ++ keys_line moves → out ++ flat_map keys_line lists ≡ whole → new ++ flat_map keys_line rest ≡ whole
text_left out new whole moves lists rest is written before =
    ap (λ xs. xs ++ flat_map keys_line rest) written
    ∙ (append_assoc out (keys_line moves) (flat_map keys_line rest)
    ∙ (ap (λ (ls : List (List ℕ)). out ++ flat_map keys_line ls) (sym is) ∙ before))

pub text_over : (out whole : List ℕ) (lists : List (List ℕ)) → lists ≡ [] → out ++ flat_map keys_line lists ≡ whole → out ≡ whole
text_over out whole lists none before = sym (append-nil out) ∙ (ap (λ (ls : List (List ℕ)). out ++ flat_map keys_line ls) (sym none) ∙ before)

count_first : (moves : List ℕ) (rest : List (List ℕ)) → count_several (moves ∷ rest) ≡ cond (has_several moves) 1 0 + count_several rest
count_first moves rest = elim (cases_Bool (has_several moves)) [
  | inl holds ↦ rw holds (omega arith)
  | inr fails ↦ rw fails (omega arith)
]

pub count_left : (so_far one whole : ℕ) (moves : List ℕ) (lists rest : List (List ℕ)) → lists ≡ moves ∷ rest → one ≡ cond (has_several moves) 1 0 → so_far + count_several lists ≡ whole → (so_far + one) + count_several rest ≡ whole
count_left so_far one whole moves lists rest is e before =
    let first : count_several lists ≡ cond (has_several moves) 1 0 + count_several rest = ap count_several is ∙ count_first moves rest in
    omega (arith, first, e, before)

pub count_over : (so_far whole : ℕ) (lists : List (List ℕ)) → lists ≡ [] → so_far + count_several lists ≡ whole → so_far ≡ whole
count_over so_far whole lists none before =
    let zero_left : count_several lists ≡ 0 = ap count_several none in
    omega (arith, zero_left, before)

-- writing the last keys completes the whole
pub last_text : (out new whole moves : List ℕ) (lists : List (List ℕ)) → lists ≡ moves ∷ [] → new ≡ out ++ keys_line moves → out ++ flat_map keys_line lists ≡ whole → new ≡ whole
last_text out new whole moves lists is written before = text_over new whole [] refl (text_left out new whole moves lists [] is written before)

pub last_count : (so_far one whole : ℕ) (moves : List ℕ) (lists : List (List ℕ)) → lists ≡ moves ∷ [] → one ≡ cond (has_several moves) 1 0 → so_far + count_several lists ≡ whole → so_far + one ≡ whole
last_count so_far one whole moves lists is e before = count_over (so_far + one) whole [] refl (count_left so_far one whole moves lists [] is e before)
