-- The shortest mate, one number of moves after another.
use Rattle.std.proofs.Common.{◌≡◌, ℕ, zero, suc, ◌+◌, ◌-◌, ◌<◌, ◌≤◌, Bool, true, false, List, Option, Some, None, refl, sym, ap, ◌∙◌, arith, inl, inr, cond}
use Rattle.std.proofs.Math.Nat.{eq-or-lt_of_le}
use Rattle.std.proofs.lemmas.Bool.{cond-true, cond-false}
use Rattle.shogi_core.specs.Position.{Shogi}
use Rattle.shogi_moves.specs.LegalMoves.{legal_codes}
use Rattle.mate_search.specs.Mates.{IsShortest, mates, shortest_from}
use Rattle.mate_search.specs.Stages.{ordered_codes}
use Rattle.mate_search.proofs.MateLaws.{mates_by, mates_none}
use Rattle.mate_search.proofs.OrderLaws.{mates_by-ordered}

-- one move and at most n after it, whatever the order of first moves
pub mates_first_ordered : (p : Shogi) (n : ℕ) (codes : List ℕ) → codes ≡ ordered_codes p → mates_by p n codes ≡ mates p (suc n)
unfolding mates mates_by
mates_first_ordered p n codes e = ap (mates_by p n) e ∙ mates_by-ordered p n

-- one try more
from_step : (p : Shogi) (n tries : ℕ) → shortest_from p n (suc tries) ≡ cond (mates p n) (Some n) (shortest_from p (suc n) tries)
unfolding shortest_from
from_step p n tries = refl

-- no try is left
pub from_none : (p : Shogi) (n tries : ℕ) → tries ≡ 0 → shortest_from p n tries ≡ None
unfolding shortest_from
from_none p n tries e = rw e refl

-- the first try mates, or it fails and the others are left
pub from_found : (p : Shogi) (n tries : ℕ) → 0 < tries → mates p n ≡ true → shortest_from p n tries ≡ Some n
from_found p n zero h m = absurd (omega arith)
from_found p n (suc tries) h m = from_step p n tries ∙ cond-true (mates p n) (Some n) (shortest_from p (suc n) tries) m

pub from_next : (p : Shogi) (n tries : ℕ) → 0 < tries → mates p n ≡ false → shortest_from p n tries ≡ shortest_from p (suc n) (tries - 1)
from_next p n zero h m = absurd (omega arith)
from_next p n (suc tries) h m =
    let same : tries ≡ suc tries - 1 = omega arith in
    from_step p n tries ∙ (cond-false (mates p n) (Some n) (shortest_from p (suc n) tries) m ∙ ap (shortest_from p (suc n)) same)

-- before the first number there is no mate
pub none_before : (p : Shogi) (k : ℕ) → k < 1 → mates p k ≡ false
none_before p k h = mates_none p k (omega arith)

-- one number more fails
fails_more : (p : Shogi) (n : ℕ) → ((k : ℕ) → k < suc n → mates p k ≡ false) → mates p (suc n) ≡ false → (k : ℕ) → k < suc (suc n) → mates p k ≡ false
fails_more p n before here k h =
    let most : k ≤ suc n = omega arith in
    elim (eq-or-lt_of_le most) [
      | inl same ↦ ap (mates p) same ∙ here
      | inr less ↦ before k less
    ]

-- ---- the numbers so far fail, and m is the next one

pub start : (p : Shogi) (most : ℕ) → shortest_from p 1 (most - 0) ≡ shortest_from p 1 most
start p most = let same : most - 0 ≡ most = omega arith in ap (shortest_from p 1) same

module _ (p : Shogi) (n most m : ℕ) (found : Bool) (next : m ≡ suc n) (is : found ≡ mates p (suc n)) where
  pub found_next : n < most → shortest_from p (suc n) (most - n) ≡ shortest_from p 1 most → found ≡ true → Some m ≡ shortest_from p 1 most
  found_next h rest holds = ap Some next ∙ (sym (from_found p (suc n) (most - n) (omega arith) (sym is ∙ holds)) ∙ rest)

  pub shortest_next : ((k : ℕ) → k < suc n → mates p k ≡ false) → found ≡ true → IsShortest p m
  shortest_next before holds = rw next (record { mating = sym is ∙ holds; least = before })

  pub rest_next : n < most → shortest_from p (suc n) (most - n) ≡ shortest_from p 1 most → found ≡ false → shortest_from p (suc m) (most - m) ≡ shortest_from p 1 most
  rest_next h rest fails =
      let fewer : most - n - 1 ≡ most - suc n = omega arith in
      rw next (ap (shortest_from p (suc (suc n))) (sym fewer) ∙ (sym (from_next p (suc n) (most - n) (omega arith) (sym is ∙ fails)) ∙ rest))

  pub before_next : ((k : ℕ) → k < suc n → mates p k ≡ false) → found ≡ false → (k : ℕ) → k < suc m → mates p k ≡ false
  before_next before fails k h = fails_more p n before (sym is ∙ fails) k (omega (arith, next, h))

-- no number is left
pub over : (p : Shogi) (n most : ℕ) → (n < most → ⊥) → shortest_from p (suc n) (most - n) ≡ shortest_from p 1 most → None ≡ shortest_from p 1 most
over p n most h rest = let none : most - n ≡ 0 = omega arith in sym (from_none p (suc n) (most - n) none) ∙ rest
