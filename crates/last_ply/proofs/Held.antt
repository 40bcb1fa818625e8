-- Numbers of 32 bits as calls pass them, and their bounds.
use Rattle.std.proofs.Common.{◌≡◌, ◌<◌, ℕ, ℤ, ◌≤ℤ◌, ◌<ℤ◌, List, [], ◌∷◌, length, true, FitsSigned, w32, to_z, of_z, sym, subst, arith}
use Rattle.std.proofs.lemmas.Int.{by_lt_z, to_z-of_z}
use Rattle.shogi_core.specs.Position.{Shogi}
use Rattle.shogi_moves.specs.LegalMoves.{legal_codes}
use Rattle.shogi_moves.specs.Rising.{is_in}
use Rattle.last_ply.proofs.Passing.{HasPassed, none_met}

-- a fact about a number holds of the number passed
pub as_held : (P : ℤ → Type 0) (v : ℤ) → FitsSigned w32 v → P v → P (to_z w32 (of_z w32 v))
as_held P v fits h = subst P (sym (to_z-of_z w32 v fits)) h

-- a fact about the number passed holds of the number
pub from_held : (P : ℤ → Type 0) (v : ℤ) → FitsSigned w32 v → P (to_z w32 (of_z w32 v)) → P v
from_held P v fits h = subst P (to_z-of_z w32 v fits) h

-- each move that the walk passes leaves fewer
pub fewer_left : (left rest : List ℕ) (m : ℕ) → left ≡ m ∷ rest → length rest < length left
fewer_left left rest m e = subst (λ (xs : List ℕ). length rest < length xs) (sym e) (omega arith)

-- once no move is left, a bound of all moves passed bounds all legal moves
pub bounds_all : (p : Shogi) (f : ℕ → ℤ) (v : ℤ) (left : List ℕ) → left ≡ [] → HasPassed p (λ n. v <ℤ f n) left
    → (n : ℕ) → is_in n (legal_codes p) ≡ true → f n ≤ℤ v
bounds_all p f v left none passed n listed =
    by_lt_z v (f n) (λ above. absurd (none_met p (λ (k : ℕ). v <ℤ f k) left none passed n listed above)) (λ most. most)
