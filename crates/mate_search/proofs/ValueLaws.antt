-- A mate by checks is a win under each evaluation, and one in more moves as well.
use Rattle.std.proofs.Common.{◌≡◌, ◌<◌, ◌≤◌, ◌+◌, ◌-◌, ◌*◌, ℕ, zero, suc, ℤ, ◌≤ℤ◌, List, [], ◌∷◌, Bool, true, false, refl, sym, ap, ◌∙◌, arith, inl, inr}
use Rattle.std.specs.List.{list_any, list_all}
use Rattle.std.proofs.lemmas.Bool.{and_parts, or_cases, or_left, or_right, and_from, eq-eqb, eqb-true, true≢false}
use Rattle.std.proofs.lemmas.Int.{ints}
use Rattle.shogi_core.specs.Attack.{in_check}
use Rattle.shogi_core.specs.Position.{Shogi}
use Rattle.shogi_moves.specs.After.{after_code}
use Rattle.shogi_moves.specs.LegalMoves.{legal_codes}
use Rattle.shogi_moves.specs.Rising.{is_in}
use Rattle.shogi_eval.specs.declared.eval.Eval.{Eval}
use Rattle.shogi_eval.specs.Exchange.{leaf_after}
use Rattle.minimax.specs.Minimax.{value, worth, ended, negated, lost_value, greatest_or, if_no_move_else}
use Rattle.minimax.specs.declared.bounds.TheConstants.{MATE}
use Rattle.minimax.proofs.Greatest.{greatest_or-least, greatest_or-above}
use Rattle.minimax.proofs.MinimaxLaws.{value-suc}
use Rattle.mate_search.specs.Mates.{mates, is_mated, is_lost}
use Rattle.mate_search.proofs.MateLaws.{mates_none}

-- ---- lists

-- a test that some of a list pass
pub some_of : (f : ℕ → Bool) (ns : List ℕ) → list_any f ns ≡ true → (n : ℕ) × (is_in n ns ≡ true) × (f n ≡ true)
some_of f [] e = absurd (cc)
some_of f (m ∷ ms) e = elim (or_cases (f m) _ e) [
  | inl here ↦ (m, or_left _ _ (eq-eqb m m refl), here)
  | inr later ↦ (let rest = some_of f ms later in (rest.0, or_right _ _ rest.1, rest.2))
]

-- a test that all of a list pass
pub each_of : (f : ℕ → Bool) (ns : List ℕ) (n : ℕ) → list_all f ns ≡ true → is_in n ns ≡ true → f n ≡ true
each_of f [] n e i = absurd (cc)
each_of f (m ∷ ms) n e i =
    let parts : (f m ≡ true) × (list_all f ms ≡ true) = and_parts (f m) _ e in
    elim (or_cases _ _ i) [
      | inl here ↦ ap f (eqb-true n m here) ∙ parts.0
      | inr later ↦ each_of f ms n parts.1 later
    ]

any_kept : (f g : ℕ → Bool) (ns : List ℕ) → ((n : ℕ) → f n ≡ true → g n ≡ true) → list_any f ns ≡ true → list_any g ns ≡ true
any_kept f g [] h e = e
any_kept f g (m ∷ ms) h e = elim (or_cases (f m) _ e) [
  | inl here ↦ or_left _ _ (h m here)
  | inr later ↦ or_right (g m) _ (any_kept f g ms h later)
]

all_kept : (f g : ℕ → Bool) (ns : List ℕ) → ((n : ℕ) → f n ≡ true → g n ≡ true) → list_all f ns ≡ true → list_all g ns ≡ true
all_kept f g [] h e = refl
all_kept f g (m ∷ ms) h e =
    let parts : (f m ≡ true) × (list_all f ms ≡ true) = and_parts (f m) _ e in
    and_from _ _ (h m parts.0) (all_kept f g ms h parts.1)

-- ---- more moves

pub mates_more : (n m : ℕ) (p : Shogi) → n ≤ m → mates p n ≡ true → mates p m ≡ true
unfolding mates
mates_more zero m p h e = absurd (cc)
mates_more (suc n) zero p h e = absurd (omega arith)
mates_more (suc n) (suc m) p h e =
    any_kept (λ code. is_lost (λ r. mates r n) (after_code p code)) (λ code. is_lost (λ r. mates r m) (after_code p code)) (legal_codes p)
    (λ code lost.
    let parts : (in_check (after_code p code).cells (after_code p code).side ≡ true) × (list_all (λ reply. mates (after_code (after_code p code) reply) n) (legal_codes (after_code p code)) ≡ true) = and_parts _ _ lost in
    and_from _ _ parts.0 (all_kept (λ reply. mates (after_code (after_code p code) reply) n) (λ reply. mates (after_code (after_code p code) reply) m) (legal_codes (after_code p code)) (λ reply w. mates_more n m (after_code (after_code p code) reply) (omega arith) w) parts.1)) e

-- a mate in n moves begins with a key
pub key_of : (p : Shogi) (n : ℕ) → mates p (suc n) ≡ true → (code : ℕ) × (is_in code (legal_codes p) ≡ true) × (is_mated (after_code p code) n ≡ true)
unfolding mates
key_of p n e = some_of (λ code. is_lost (λ r. mates r n) (after_code p code)) (legal_codes p) e

-- ---- values

worth_later : (p : Shogi) (e : Eval) (d code : ℕ) → 0 < d → worth p e d code ≡ negated (value (after_code p code) e d)
worth_later p e zero code h = absurd (omega arith)
worth_later p e (suc d) code h = refl

-- if no reply is left, or each reply loses, the side to move has lost
lost_all : (q : Shogi) (e : Eval) (d : ℕ) (replies : List ℕ) → ((n : ℕ) → is_in n replies ≡ true → worth q e d n ≤ℤ negated MATE) → greatest_or (lost_value (suc d)) (worth q e d) replies ≤ℤ negated MATE
lost_all q e d [] h = omega (arith, ints)
lost_all q e d (m ∷ ms) h = greatest_or-least (lost_value (suc d)) (worth q e d) (m ∷ ms) m (negated MATE) (or_left _ _ (eq-eqb m m refl)) h

none_met : (ns : List ℕ) → list_all (λ n. false) ns ≡ true → ns ≡ []
none_met [] e = refl
none_met (n ∷ ns) e = absurd (cc)

-- without a mate behind a reply there is no reply
pub no_reply : (q : Shogi) → is_mated q 0 ≡ true → legal_codes q ≡ []
unfolding mates
no_reply q e = none_met (legal_codes q) (and_parts (in_check q.cells q.side) (list_all (λ reply. false) (legal_codes q)) e).1

ended_mated : (p : Shogi) (e : Eval) (code : ℕ) → legal_codes (after_code p code) ≡ [] → ended p e code ≡ lost_value 0
ended_mated p e code none = ap (if_no_move_else (lost_value 0) (leaf_after p e code)) none

cut_at : (p : Shogi) (e : Eval) (d code : ℕ) (v : ℤ) → is_in code (legal_codes p) ≡ true → v ≤ℤ worth p e d code → v ≤ℤ value p e (suc d)
cut_at p e d code v i l =
    let above : worth p e d code ≤ℤ greatest_or (lost_value (suc d)) (worth p e d) (legal_codes p) = greatest_or-above (lost_value (suc d)) (worth p e d) (legal_codes p) code i in
    rw (value-suc p e d) (omega (arith, ints, above, l))

pub wins : (k : ℕ) (p : Shogi) (e : Eval) → mates p (suc k) ≡ true → MATE ≤ℤ value p e (2 * k + 1)
wins zero p e m =
    let key = key_of p 0 m in
    let over : ended p e key.0 ≡ lost_value 0 = ended_mated p e key.0 (no_reply (after_code p key.0) key.2) in
    cut_at p e 0 key.0 MATE key.1 (omega (arith, ints, over))
wins (suc j) p e m =
    let key = key_of p (suc j) m in
    let q : Shogi = after_code p key.0 in
    let met : list_all (λ reply. mates (after_code q reply) (suc j)) (legal_codes q) ≡ true = (and_parts (in_check q.cells q.side) _ key.2).1 in
    let each : (n : ℕ) → is_in n (legal_codes q) ≡ true → worth q e (2 * j + 1) n ≤ℤ negated MATE = λ n i.
    (let more : MATE ≤ℤ value (after_code q n) e (2 * j + 1) = wins j (after_code q n) e (each_of (λ reply. mates (after_code q reply) (suc j)) (legal_codes q) n met i) in
    omega (arith, ints, more, worth_later q e (2 * j + 1) n (omega arith))) in
    let lost : value q e (suc (2 * j + 1)) ≤ℤ negated MATE = rw (value-suc q e (2 * j + 1)) (lost_all q e (2 * j + 1) (legal_codes q) each) in
    let at : suc (suc (2 * j + 1)) ≡ 2 * suc j + 1 = omega arith in
    rw (sym at) (cut_at p e (suc (2 * j + 1)) key.0 MATE key.1 (omega (arith, ints, lost, worth_later p e (suc (2 * j + 1)) key.0 (omega arith))))

-- the law by the number of moves
pub mate_wins : (p : Shogi) (n : ℕ) (e : Eval) → mates p n ≡ true → MATE ≤ℤ value p e (2 * n - 1)
mate_wins p zero e m = absurd (true≢false (sym m ∙ mates_none p 0 refl))
mate_wins p (suc k) e m = let at : 2 * suc k - 1 ≡ 2 * k + 1 = omega arith in rw at (wins k p e m)
