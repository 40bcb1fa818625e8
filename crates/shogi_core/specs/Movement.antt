-- How pieces move on a board of 81 cells (JSA playing rules, moves of the pieces).
use Rattle.std.specs.Prelude.{ℕ, ℤ, pos, negsuc, ◌+ℤ◌, ◌*ℤ◌, ◌-ℤ◌, ◌+◌, ◌*◌, ◌/◌, ◌%◌, ◌==◌, ◌&&◌, ◌||◌, Bool, false, List, [], ◌∷◌, ◌++◌, Option, Some, None, is_none, nat_lt, cond, slice_index_or}
use Rattle.std.specs.List.{list_any}
use Rattle.shogi_core.specs.Below.{some_below, all_below}
use Rattle.shogi_core.specs.Bits.{HasBits}
use Rattle.shogi_core.specs.declared.piece.Color.{Color}
use Rattle.shogi_core.specs.declared.piece.Color.TheVariants.{Black, White}
use Rattle.shogi_core.specs.declared.piece.Role.{Role}
use Rattle.shogi_core.specs.declared.piece.Role.TheVariants.{King, Pawn, Lance, Knight, Silver, Gold, Bishop, Rook, PromotedPawn, PromotedLance, PromotedKnight, PromotedSilver, Horse, Dragon}
use Rattle.shogi_core.specs.declared.piece.Piece.{Piece}
use Rattle.shogi_core.specs.declared.offset.Offset.{Offset}

-- `some_below n f`: f is true of some number less than n; `all_below n f`: of each number less than n

-- the cells of some squares, on a board by index, file by file: 1a is 0, 1b is 1, 2a is 9
abbrev pub Cells : Type 0
Cells = List (Option Piece)

-- an offset by its changes of file and rank
abbrev pub offset_by : ℤ → ℤ → Offset
offset_by file rank = record { file = file; rank = rank }

-- one square, as Black sees the board: up is towards rank 1, left towards file 9 (`negsuc 0` is -1)
abbrev pub up : Offset
up = offset_by (pos 0) (negsuc 0)

abbrev pub down : Offset
down = offset_by (pos 0) (pos 1)

abbrev pub left : Offset
left = offset_by (pos 1) (pos 0)

abbrev pub right : Offset
right = offset_by (negsuc 0) (pos 0)

abbrev pub up_left : Offset
up_left = offset_by (pos 1) (negsuc 0)

abbrev pub up_right : Offset
up_right = offset_by (negsuc 0) (negsuc 0)

abbrev pub down_left : Offset
down_left = offset_by (pos 1) (pos 1)

abbrev pub down_right : Offset
down_right = offset_by (negsuc 0) (pos 1)

-- a knight's jumps: two squares up and one left or right
abbrev pub jump_left : Offset
jump_left = offset_by (pos 1) (negsuc 1)

abbrev pub jump_right : Offset
jump_right = offset_by (negsuc 0) (negsuc 1)

-- one square along a file or a rank
abbrev pub straight : List Offset
straight = up ∷ down ∷ left ∷ right ∷ []

-- one square along a diagonal
abbrev pub diagonal : List Offset
diagonal = up_left ∷ up_right ∷ down_left ∷ down_right ∷ []

-- one square towards rank 1, which is forward for Black
abbrev pub forward : List Offset
forward = up ∷ []

-- the steps of a gold: straight, or diagonally forward
abbrev pub gold_steps : List Offset
gold_steps = up ∷ up_left ∷ up_right ∷ left ∷ right ∷ down ∷ []

-- the steps and jumps of a role
abbrev pub steps_of : Role → List Offset
steps_of King = straight ++ diagonal
steps_of Pawn = forward
steps_of Lance = []
steps_of Knight = jump_left ∷ jump_right ∷ []
steps_of Silver = forward ++ diagonal
steps_of Gold = gold_steps
steps_of Bishop = []
steps_of Rook = []
steps_of PromotedPawn = gold_steps
steps_of PromotedLance = gold_steps
steps_of PromotedKnight = gold_steps
steps_of PromotedSilver = gold_steps
steps_of Horse = straight
steps_of Dragon = diagonal

-- the directions in which a role slides, each as a step of one square
abbrev pub slides_of : Role → List Offset
slides_of Lance = forward
slides_of Bishop = diagonal
slides_of Horse = diagonal
slides_of Rook = straight
slides_of Dragon = straight
slides_of _ = []

-- the square at a file and a rank, each counted from 0, if any
abbrev pub square_at : ℤ → ℤ → Option ℕ
square_at (pos file) (pos rank) =
    cond (nat_lt file 9 && nat_lt rank 9) (Some (file * 9 + rank)) None
square_at (pos file) (negsuc rank) = None
square_at (negsuc file) rank = None

-- an offset of Black's, turned for the side: for White the rank is reversed; the file stays, since all pieces move
-- alike to the left and to the right
abbrev pub for_side : Color → Offset → Offset
for_side Black offset = offset
for_side White offset = offset_by offset.file (pos 0 -ℤ offset.rank)

-- the square n steps by the offset from a square, if it is on the board
unfoldable pub away : ℕ → Offset → ℕ → Option ℕ
away n offset from =
    square_at (pos (from / 9) +ℤ pos n *ℤ offset.file) (pos (from % 9) +ℤ pos n *ℤ offset.rank)

-- the option is this square
abbrev pub is_same_square : Option ℕ → ℕ → Bool
is_same_square None to = false
is_same_square (Some square) to = square == to

-- n steps by the offset lead from `from` to `to`
abbrev pub leads : ℕ → Offset → ℕ → ℕ → Bool
leads n offset from to = is_same_square (away n offset from) to

-- what stands on the square
abbrev pub piece_at : Cells → ℕ → Option Piece
piece_at cells square = slice_index_or cells square None

-- the option is a square, and it is empty
abbrev pub is_empty : Cells → Option ℕ → Bool
is_empty cells (Some square) = is_none (piece_at cells square)
is_empty cells None = false

-- the square k + 1 steps away is empty; from k = 0 on, these are the squares of a slide
abbrev pub is_step_empty : Cells → Offset → ℕ → ℕ → Bool
is_step_empty cells offset from k = is_empty cells (away (k + 1) offset from)

-- a slide of n + 1 steps in the direction leads from `from` to `to` over n empty squares
abbrev pub slides_across : Cells → Offset → ℕ → ℕ → ℕ → Bool
slides_across cells offset from to n =
    leads (n + 1) offset from to && all_below n (is_step_empty cells offset from)

-- a slide in the direction leads from `from` to `to` over 0 to 7 empty squares, whatever stands on the ends
abbrev pub slides : Cells → Offset → ℕ → ℕ → Bool
slides cells offset from to = some_below 8 (slides_across cells offset from to)

-- a step or a jump of the piece leads from `from` to `to`
abbrev pub has_step : Piece → ℕ → ℕ → Bool
has_step piece from to =
    list_any (λ offset. leads 1 (for_side piece.color offset) from to) (steps_of piece.role)

-- a free slide by one of the offsets, turned for the side, leads from `from` to `to`
abbrev pub is_slide : Cells → Color → List Offset → ℕ → ℕ → Bool
is_slide cells color offsets from to =
    list_any (λ offset. slides cells (for_side color offset) from to) offsets

-- the mask has exactly the squares that a free slide of either side reaches in the directions
abbrev pub HasSlides : ℕ → Cells → List Offset → ℕ → Type 0
HasSlides m cells offsets from = (color : Color) → HasBits m (is_slide cells color offsets from)

-- a free slide of the piece leads from `from` to `to`
abbrev pub has_slide : Cells → Piece → ℕ → ℕ → Bool
has_slide cells piece from to = is_slide cells piece.color (slides_of piece.role) from to

-- what stands in the cell, put on `from`, has a step, a jump or a free slide to `to`
abbrev pub cell_reaches : Cells → Option Piece → ℕ → ℕ → Bool
cell_reaches cells None from to = false
cell_reaches cells (Some piece) from to = has_step piece from to || has_slide cells piece from to

-- the piece on `from` has a step, a jump or a free slide to `to`: it attacks `to`, whatever stands there
unfoldable pub reaches : Cells → ℕ → ℕ → Bool
reaches cells from to = cell_reaches cells (piece_at cells from) from to
