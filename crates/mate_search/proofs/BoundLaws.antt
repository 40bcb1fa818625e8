-- What follows from what is kept of a position.
use Rattle.std.proofs.Common.{◌≡◌, ◌≤◌, ℕ, true, false, refl, sym, arith}
use Rattle.std.proofs.lemmas.Bool.{both_ways, false_from_ne_true}
use Rattle.shogi_core.specs.Position.{Shogi}
use Rattle.mate_search.specs.Bounds.{AreBounds}
use Rattle.mate_search.specs.Mates.{mates}
use Rattle.mate_search.specs.declared.by_checks.TheConstants.{MOVES_MAX}
use Rattle.mate_search.proofs.MateLaws.{mates_none}
use Rattle.mate_search.proofs.ValueLaws.{mates_more}

-- it mates in more moves as well
pub known_mating : (p : Shogi) (mating failing n : ℕ) → AreBounds p mating failing → mating ≤ n → n ≤ MOVES_MAX → true ≡ mates p n
known_mating p mating failing n b h few = sym (mates_more mating n p h (b.mating_holds (omega (arith, h, few))))

-- and in fewer it does not
pub known_failing : (p : Shogi) (mating failing n : ℕ) → AreBounds p mating failing → n ≤ failing → false ≡ mates p n
known_failing p mating failing n b h = sym (false_from_ne_true (mates p n) (λ e. both_ways (mates p failing) b.failing_holds (mates_more n failing p h e)))

pub nothing_known : (p : Shogi) → AreBounds p 9 0
nothing_known p = record { mating_holds = λ h. absurd (omega arith); failing_holds = mates_none p 0 refl }
