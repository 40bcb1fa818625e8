-- The index of a counter move, by side, role and destination of the move refuted (own choice).
use Rattle.std.specs.Prelude.{ℕ, ◌+◌, ◌*◌, Option, Some, None}
use Rattle.shogi_core.specs.declared.moves.Move.{Move}
use Rattle.shogi_core.specs.declared.piece.Color.{Color}
use Rattle.shogi_core.specs.declared.piece.Color.TheVariants.{Black, White}
use Rattle.shogi_core.specs.declared.piece.Piece.{Piece}
use Rattle.shogi_core.specs.Movement.{piece_at}
use Rattle.shogi_core.specs.Position.{Shogi}
use Rattle.shogi_core.specs.Same.{role_number}
use Rattle.shogi_core.specs.Moves.{end_of}

-- the number of roles before those of the side that moved, if this side is to move
abbrev pub roles_before : Color → ℕ
roles_before Black = 0
roles_before White = 14

-- the number of the role on a square, 0 if it is empty
abbrev pub number_on : Option Piece → ℕ
number_on None = 0
number_on (Some piece) = role_number piece.role

-- the index of the move that led to the position
abbrev pub place_of : Shogi → Move → ℕ
place_of p m = (roles_before p.side + number_on (piece_at p.cells (end_of m))) * 81 + end_of m
