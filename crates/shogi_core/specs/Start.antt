-- The opening position (JSA playing rules).
use Rattle.std.specs.Prelude.{[], ◌∷◌, Option, Some, None, replicate}
use Rattle.shogi_core.specs.declared.piece.Color.{Color}
use Rattle.shogi_core.specs.declared.piece.Color.TheVariants.{Black, White}
use Rattle.shogi_core.specs.declared.piece.Role.{Role}
use Rattle.shogi_core.specs.declared.piece.Role.TheVariants.{King, Pawn, Lance, Knight, Silver, Gold, Bishop, Rook}
use Rattle.shogi_core.specs.declared.piece.Piece.{Piece}
use Rattle.shogi_core.specs.Movement.{Cells}
use Rattle.shogi_core.specs.Position.{Shogi}

-- a cell with a piece of this side and role
abbrev pub cell_with : Color → Role → Option Piece
cell_with color role = Some (record { color = color; role = role })

-- the opening board, file by file, and rank by rank on each
abbrev pub start_cells : Cells
start_cells =
    cell_with White Lance ∷ None ∷ cell_with White Pawn ∷ None ∷ None ∷ None ∷ cell_with Black Pawn ∷ None ∷ cell_with Black Lance
    ∷ cell_with White Knight ∷ cell_with White Bishop ∷ cell_with White Pawn ∷ None ∷ None ∷ None ∷ cell_with Black Pawn ∷ cell_with Black Rook ∷ cell_with Black Knight
    ∷ cell_with White Silver ∷ None ∷ cell_with White Pawn ∷ None ∷ None ∷ None ∷ cell_with Black Pawn ∷ None ∷ cell_with Black Silver
    ∷ cell_with White Gold ∷ None ∷ cell_with White Pawn ∷ None ∷ None ∷ None ∷ cell_with Black Pawn ∷ None ∷ cell_with Black Gold
    ∷ cell_with White King ∷ None ∷ cell_with White Pawn ∷ None ∷ None ∷ None ∷ cell_with Black Pawn ∷ None ∷ cell_with Black King
    ∷ cell_with White Gold ∷ None ∷ cell_with White Pawn ∷ None ∷ None ∷ None ∷ cell_with Black Pawn ∷ None ∷ cell_with Black Gold
    ∷ cell_with White Silver ∷ None ∷ cell_with White Pawn ∷ None ∷ None ∷ None ∷ cell_with Black Pawn ∷ None ∷ cell_with Black Silver
    ∷ cell_with White Knight ∷ cell_with White Rook ∷ cell_with White Pawn ∷ None ∷ None ∷ None ∷ cell_with Black Pawn ∷ cell_with Black Bishop ∷ cell_with Black Knight
    ∷ cell_with White Lance ∷ None ∷ cell_with White Pawn ∷ None ∷ None ∷ None ∷ cell_with Black Pawn ∷ None ∷ cell_with Black Lance ∷ []

-- the opening position: Black moves first, and both hands are empty
abbrev pub start : Shogi
start = record { cells = start_cells; hands = replicate 14 0; side = Black }
