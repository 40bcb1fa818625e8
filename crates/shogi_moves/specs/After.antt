-- The position after a move (JSA playing rules: moves, captures, promotion, drops).
use Rattle.std.specs.Prelude.{ℕ, ◌+◌, ◌-◌, Bool, Option, Some, None, cond, slice_set}
use Rattle.shogi_core.specs.declared.piece.Color.{Color}
use Rattle.shogi_core.specs.declared.piece.Kind.{Kind}
use Rattle.shogi_core.specs.declared.piece.Piece.{Piece}
use Rattle.shogi_core.specs.declared.moves.Move.{Move}
use Rattle.shogi_core.specs.declared.moves.Move.TheVariants.{Board, Drop}
use Rattle.shogi_core.specs.Codes.{move_of}
use Rattle.shogi_core.specs.Movement.{Cells, piece_at}
use Rattle.shogi_core.specs.Pieces.{opponent_of, kind_of, role_of, promoted}
use Rattle.shogi_core.specs.Position.{Shogi, HandCounts, count_in_hand, place_of}

-- a cell's piece as it stands after its move, promoted or not
abbrev pub piece_moved : Bool → Option Piece → Option Piece
piece_moved promote None = None
piece_moved promote (Some piece) =
    Some (record { color = piece.color; role = cond promote (promoted piece.role) piece.role })

-- the unpromoted piece that a drop of the kind puts on the board
abbrev pub dropped : Color → Kind → Option Piece
dropped color kind = Some (record { color = color; role = role_of kind })

-- the hands with one more of the kind for the side; no kind, which is a king's, adds nothing
abbrev pub with_one_more : HandCounts → Color → Option Kind → HandCounts
with_one_more hands color None = hands
with_one_more hands color (Some kind) =
    slice_set hands (place_of color kind) (count_in_hand hands color kind + 1)

-- the hands after a capture: the captor gets the piece as its unpromoted kind
abbrev pub with_captured : HandCounts → Color → Option Piece → HandCounts
with_captured hands color None = hands
with_captured hands color (Some piece) = with_one_more hands color (kind_of piece.role)

-- the cells after a move of the side
abbrev pub cells_after : Cells → Color → Move → Cells
cells_after cells side (Board from to promote) =
    slice_set (slice_set cells from None) to (piece_moved promote (piece_at cells from))
cells_after cells side (Drop kind to) = slice_set cells to (dropped side kind)

-- the hands after a move of the side: a capture adds one, a drop takes one
abbrev pub hands_after : HandCounts → Cells → Color → Move → HandCounts
hands_after hands cells side (Board from to promote) = with_captured hands side (piece_at cells to)
hands_after hands cells side (Drop kind to) =
    slice_set hands (place_of side kind) (count_in_hand hands side kind - 1)

-- the position after the move, with the other side to move
abbrev pub after : Shogi → Move → Shogi
after p m = record {
  cells = cells_after p.cells p.side m;
  hands = hands_after p.hands p.cells p.side m;
  side = opponent_of p.side;
}

-- the position after the move, unchanged if there is no move
abbrev pub after_some : Shogi → Option Move → Shogi
after_some p None = p
after_some p (Some m) = after p m

-- the position after the move of a code
unfoldable pub after_code : Shogi → ℕ → Shogi
after_code p code = after_some p (move_of code)
