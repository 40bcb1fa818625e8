-- Walks over the moves of a position, by their codes in order.
use Rattle.std.specs.Prelude.{◌≡◌, ℕ, List, [], ◌∷◌, Option, MatchOption}
use Rattle.shogi_core.specs.declared.moves.Move.{Move}
use Rattle.shogi_core.specs.Codes.{code_of}
use Rattle.shogi_core.specs.Position.{Shogi}

-- a position, and the codes of its legal moves still to come, in order
pub record Remaining : Type 0 where
  pub position : Shogi
  pub codes : List ℕ

-- the codes begin with that of the move found, followed by `left`; if none is found, the codes are `end`
abbrev pub IsNextOf : Option Move → List ℕ → List ℕ → List ℕ → Type 0
IsNextOf found codes left end = MatchOption found (codes ≡ end) (λ m. codes ≡ code_of m ∷ left)

-- the codes begin with that of the move found, followed by `left`; if none is found, the codes are empty and stay so
abbrev pub TakesNext : Option Move → List ℕ → List ℕ → Type 0
TakesNext found codes left =
    MatchOption found ((codes ≡ []) × (left ≡ [])) (λ m. codes ≡ code_of m ∷ left)
