-- What may be kept of a position while mates are sought (own choice).
use Rattle.std.specs.Prelude.{◌≡◌, ◌≤◌, ℕ, true, false}
use Rattle.shogi_core.specs.Position.{Shogi}
use Rattle.mate_search.specs.Mates.{mates}
use Rattle.mate_search.specs.declared.by_checks.TheConstants.{MOVES_MAX}

-- the side to move mates by checks in the one number of moves, unless that is too great to be asked for, and not in the other
pub record AreBounds (p : Shogi) (mating failing : ℕ) : Type 0 where
  pub mating_holds : mating ≤ MOVES_MAX → mates p mating ≡ true
  pub failing_holds : mates p failing ≡ false
