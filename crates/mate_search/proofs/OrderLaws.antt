-- Moves in another order, some of them skipped, settle a mate alike.
use Rattle.std.proofs.Common.{◌≡◌, ◌≢◌, ℕ, ◌-◌, ◌<◌, ◌≤◌, List, [], ◌∷◌, Bool, true, false, not, refl, sym, ap, ◌∙◌, arith, inl, inr, filter, length}
use Rattle.std.specs.Prelude.{zero, suc, ◌&&◌, ◌||◌, ◌↔◌, IsTrue}
use Rattle.std.specs.List.{list_any, list_all}
use Rattle.std.proofs.lemmas.Bool.{cases_Bool, both_ways}
use Rattle.std.proofs.lemmas.List.Folds.{list_any-append, list_all-append}
use Rattle.shogi_core.specs.Attack.{in_check}
use Rattle.shogi_core.specs.Bits.{has_bit}
use Rattle.shogi_core.specs.Position.{Shogi}
use Rattle.shogi_core.proofs.BitLaws.{has_bit-none}
use Rattle.shogi_moves.specs.After.{after_code}
use Rattle.shogi_moves.specs.Captures.{is_capture}
use Rattle.shogi_moves.specs.Escapes.{AreEscapes}
use Rattle.shogi_moves.specs.LegalMoves.{legal_codes, legal_from}
use Rattle.shogi_moves.specs.Sweeps.{matching_from}
use Rattle.shogi_replies.specs.Passes.{IsSkipped}
use Rattle.mate_search.specs.Mates.{is_mated, mates}
use Rattle.mate_search.specs.Stages.{IsUnmating, ordered_codes}
use Rattle.mate_search.proofs.MateLaws.{mates_by, is_met_by, mated_unchecked, mates_none, mates_first, mated_first, mated_step}

-- ---- some or all of two parts of a list

any_parted : (f g : ℕ → Bool) (ns : List ℕ) → (list_any f (filter g ns) || list_any f (filter (λ n. not (g n)) ns)) ≡ list_any f ns
any_parted f g [] = refl
any_parted f g (n ∷ ns) = elim (cases_Bool (g n)) [
  | inl holds ↦ grind (arith, holds, any_parted f g ns)
  | inr fails ↦ grind (arith, fails, any_parted f g ns)
]

all_parted : (f g : ℕ → Bool) (ns : List ℕ) → (list_all f (filter g ns) && list_all f (filter (λ n. not (g n)) ns)) ≡ list_all f ns
all_parted f g [] = refl
all_parted f g (n ∷ ns) = elim (cases_Bool (g n)) [
  | inl holds ↦ grind (arith, holds, all_parted f g ns)
  | inr fails ↦ grind (arith, fails, all_parted f g ns)
]

-- captures and the other moves are all moves
pub mates_by-ordered : (p : Shogi) (n : ℕ) → mates_by p n (ordered_codes p) ≡ mates_by p n (legal_codes p)
unfolding mates_by
mates_by-ordered p n =
    list_any-append (λ code. is_mated (after_code p code) n) (matching_from p true 0) (matching_from p false 0)
    ∙ any_parted (λ code. is_mated (after_code p code) n) (is_capture p) (legal_from p 0)

pub is_met_by-ordered : (q : Shogi) (n : ℕ) → is_met_by q n (ordered_codes q) ≡ is_met_by q n (legal_codes q)
unfolding is_met_by
is_met_by-ordered q n =
    list_all-append (λ reply. mates (after_code q reply) n) (matching_from q true 0) (matching_from q false 0)
    ∙ all_parted (λ reply. mates (after_code q reply) n) (is_capture q) (legal_from q 0)

-- before the first of them
pub mates_ordered : (p : Shogi) (n : ℕ) (codes : List ℕ) → n ≢ 0 → codes ≡ ordered_codes p → mates_by p (n - 1) codes ≡ mates p n
mates_ordered p n codes some e = ap (mates_by p (n - 1)) e ∙ (mates_by-ordered p (n - 1) ∙ mates_first p n (legal_codes p) some refl)

pub mated_ordered : (q : Shogi) (n : ℕ) (replies : List ℕ) → in_check q.cells q.side ≡ true → replies ≡ ordered_codes q → is_met_by q n replies ≡ is_mated q n
mated_ordered q n replies check e = ap (is_met_by q n) e ∙ (is_met_by-ordered q n ∙ mated_first q n (legal_codes q) check refl)

-- ---- moves that are skipped

mates_by-more : (p : Shogi) (n code : ℕ) (codes : List ℕ) → mates_by p n (code ∷ codes) ≡ (is_mated (after_code p code) n || mates_by p n codes)
unfolding mates_by
mates_by-more p n code codes = refl

none_win : (ns : List ℕ) (f : ℕ → Bool) → ((n : ℕ) → f n ≡ false) → ns ≢ [] → list_all f ns ≡ false
none_win [] f h some = absurd (some refl)
none_win (n ∷ ns) f h some = rw (h n) refl

-- a side that has a move is not mated at once
mated_answered : (q : Shogi) (n : ℕ) → n ≡ 0 → legal_codes q ≢ [] → is_mated q n ≡ false
unfolding is_met_by
mated_answered q n e some = let met : is_met_by q n (legal_codes q) ≡ false = none_win (legal_codes q) (λ reply. mates (after_code q reply) n) (λ reply. mates_none (after_code q reply) n e) some in grind (arith, mated_step q n, met)

unmating_fails : (p : Shogi) (escapes n code : ℕ) → (n ≢ 0 → escapes ≡ 0) → IsUnmating p escapes code → is_mated (after_code p code) n ≡ false
unmating_fails p escapes zero code h u = mated_answered (after_code p code) zero refl u.answered
unmating_fails p escapes (suc n) code h u = mated_unchecked (after_code p code) (suc n) (u.unchecked (h (λ e. absurd (cc))))

-- they mate nobody
pub skipped_fail : (p : Shogi) (escapes n : ℕ) (codes left : List ℕ) → (n ≢ 0 → escapes ≡ 0) → IsSkipped (IsUnmating p escapes) codes left → mates_by p n left ≡ mates_by p n codes
skipped_fail p escapes n [] left h s = ap (mates_by p n) (sym s)
skipped_fail p escapes n (c ∷ codes) left h s = elim s [
  | inl same ↦ ap (mates_by p n) (sym same)
  | inr more ↦ skipped_fail p escapes n codes left h more.1 ∙ sym (rw (mates_by-more p n c codes, unmating_fails p escapes n c h more.0) refl)
]

-- and leave no more moves than there were
pub skipped_fewer : (f : ℕ → Type 0) (codes left : List ℕ) → IsSkipped f codes left → length left ≤ length codes
skipped_fewer f [] left s = let e : length left ≡ 0 = sym (ap length s) in omega arith
skipped_fewer f (c ∷ codes) left s = elim s [
  | inl same ↦ (let e : length (c ∷ codes) ≡ length left = ap length same in omega arith)
  | inr more ↦ (let fewer : length left ≤ length codes = skipped_fewer f codes left more.1 in omega arith)
]

pub skipped_then_fewer : (f : ℕ → Type 0) (codes left rest : List ℕ) (code : ℕ) → IsSkipped f codes left → left ≡ code ∷ rest → length rest < length codes
skipped_then_fewer f codes left rest code s e = let fewer : length left ≤ length codes = skipped_fewer f codes left s in let one : length left ≡ length (code ∷ rest) = ap length e in omega arith

pub no_escapes : (p : Shogi) (squares : ℕ) → squares ≡ 0 → AreEscapes p squares
no_escapes p squares e = λ k n hk king hn set. absurd (both_ways (has_bit squares n) (ap (λ (s : ℕ). has_bit s n) e ∙ has_bit-none n) set)

-- ---- mate at once

pub mated_now : (q : Shogi) (n : ℕ) (movable : Bool) → n ≡ 0 → in_check q.cells q.side ≡ true → (IsTrue movable ↔ (legal_codes q ≢ [])) → not movable ≡ is_mated q n
unfolding is_met_by
mated_now q n movable e check has = rw (mated_step q n, check) (elim (cases_Bool movable) [
  | inl holds ↦ rw holds (sym (none_win (legal_codes q) (λ reply. mates (after_code q reply) n) (λ reply. mates_none (after_code q reply) n e) (has.0 holds)))
  | inr fails ↦ rw fails (go (legal_codes q) (λ some. both_ways movable fails (has.1 some)))
])
  where
    go : (ns : List ℕ) → (ns ≢ [] → ⊥) → true ≡ list_all (λ reply. mates (after_code q reply) n) ns
    go [] h = refl
    go (m ∷ ms) h = absurd (h (λ e. absurd (cc)))
