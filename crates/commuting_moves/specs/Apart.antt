-- Three moves of which each lets the others be, so that the first and the last may change places (own choice).
use Rattle.std.specs.Prelude.{◌<◌}
use Rattle.shogi_core.specs.declared.piece.Color.{Color}
use Rattle.shogi_core.specs.declared.moves.Move.{Move}
use Rattle.shogi_core.specs.declared.moves.Move.TheVariants.{Board, Drop}
use Rattle.shogi_core.specs.Moves.{end_of}
use Rattle.shogi_core.specs.Position.{HandCounts, count_in_hand}
use Rattle.analogous_moves.specs.Analogies.{IsOff, IsOffWay}

-- the first move neither begins nor ends on a square of the second one
abbrev pub AreDisjoint : Move → Move → Type 0
AreDisjoint m (Board from to promote) = IsOff m from × IsOff m to
AreDisjoint m (Drop kind to) = IsOff m to

-- no two of a move, a reply and another move share a square, and neither the reply nor the other move ends between those of the first one
pub record AreApart (m r x : Move) : Type 0 where
  pub reply : AreDisjoint r m
  pub other : AreDisjoint x m
  pub replied : AreDisjoint r x
  pub reply_way : IsOffWay m (end_of r)
  pub other_way : IsOffWay m (end_of x)

-- the side holds what the move drops
abbrev pub IsHeld : HandCounts → Color → Move → Type 0
IsHeld hands side (Board from to promote) = Unit {0}
IsHeld hands side (Drop kind to) = 0 < count_in_hand hands side kind
