-- Where a move comes from: a piece on the board, or one in hand (own choice).
use Rattle.std.specs.Prelude.{ℕ, Option}
use Rattle.shogi_core.specs.declared.moves.Move.{Move}
use Rattle.shogi_core.specs.declared.moves.Move.TheVariants as moves
use Rattle.shogi_core.specs.declared.piece.Piece.{Piece}
use Rattle.shogi_core.specs.Movement.{piece_at}
use Rattle.shogi_core.specs.Position.{Shogi}
use Rattle.shogi_moves.specs.declared.origin.Origin.{Origin}
use Rattle.shogi_moves.specs.declared.origin.Origin.TheVariants.{Board, Drop}
use Rattle.shogi_moves.specs.After.{piece_moved, dropped}

-- the move from the origin to a square
abbrev pub move_to : Origin → ℕ → Move
move_to (Board from promote) to = moves.Board from to promote
move_to (Drop kind) to = moves.Drop kind to

-- the origin of the move
abbrev pub origin_of : Move → Origin
origin_of (moves.Board from to promote) = Board from promote
origin_of (moves.Drop kind to) = Drop kind

-- the piece that a move from the origin leaves on its destination
abbrev pub put_from : Shogi → Origin → Option Piece
put_from p (Board from promote) = piece_moved promote (piece_at p.cells from)
put_from p (Drop kind) = dropped p.side kind
