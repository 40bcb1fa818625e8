-- What stands on the squares of a board as seven numbers, its words (own choice).
use Rattle.std.specs.Prelude.{ℕ, ◌+◌, ◌*◌, List, [], ◌∷◌, map, slice_range, Option, Some, None}
use Rattle.shogi_core.specs.declared.piece.Color.{Color}
use Rattle.shogi_core.specs.declared.piece.Color.TheVariants.{Black, White}
use Rattle.shogi_core.specs.declared.piece.Piece.{Piece}
use Rattle.shogi_core.specs.declared.piece.Role.{Role}
use Rattle.shogi_core.specs.Movement.{Cells}
use Rattle.shogi_core.specs.Same.{role_number}

-- a number for each piece: Black's from 1 on, White's from 15 on
abbrev pub piece_number : Color → Role → ℕ
piece_number Black role = role_number role + 1
piece_number White role = role_number role + 15

-- a number for what stands in a cell: 0 if it is empty
abbrev pub cell_number : Option Piece → ℕ
cell_number None = 0
cell_number (Some piece) = piece_number piece.color piece.role

-- the number with these digits in base 32, lowest first: a cell's number is at most 28, and twelve digits of five bits fit in 64
unfoldable pub number_in_base_32 : List ℕ → ℕ
number_in_base_32 [] = 0
number_in_base_32 (digit ∷ digits) = digit + 32 * number_in_base_32 digits

-- the word of the cells from index `from` on and below `to`
abbrev pub cells_word : Cells → ℕ → ℕ → ℕ
cells_word cells from to = number_in_base_32 (map cell_number (slice_range cells from to))

-- the words of a board: twelve squares in each of the first six, and nine in the seventh
abbrev pub board_words : Cells → List ℕ
board_words cells =
    cells_word cells 0 12
    ∷ cells_word cells 12 24
    ∷ cells_word cells 24 36
    ∷ cells_word cells 36 48
    ∷ cells_word cells 48 60
    ∷ cells_word cells 60 72
    ∷ cells_word cells 72 81
    ∷ []
