-- How a move text is read, byte by byte: as the move, of all moves, with this text.
use Rattle.std.specs.Prelude.{ℕ, ◌+◌, ◌-◌, ◌*◌, ◌==◌, ◌&&◌, Bool, true, false, List, Option, Some, None, cond, nat_lt, length, slice_index}
use Rattle.shogi_core.specs.declared.piece.Kind.{Kind}
use Rattle.shogi_core.specs.declared.moves.Move.{Move}
use Rattle.shogi_core.specs.declared.moves.Move.TheVariants.{Board, Drop}
use Rattle.shogi_sfen.specs.declared.byte.TheConstants.{FIRST_FILE, FIRST_RANK, PLUS, STAR}
use Rattle.shogi_sfen.specs.Letters.{kind_named}

-- the square of a file digit and a rank letter
abbrev pub square_read : ℕ → ℕ → Option ℕ
square_read file rank =
    cond (nat_lt (FIRST_FILE - 1) file && nat_lt file (FIRST_FILE + 9)
    && nat_lt (FIRST_RANK - 1) rank && nat_lt rank (FIRST_RANK + 9))
    (Some ((file - FIRST_FILE) * 9 + (rank - FIRST_RANK))) None

-- the move between two squares, if both were read
abbrev pub board_read : Option ℕ → Option ℕ → Bool → Option Move
board_read (Some from) (Some to) promote = Some (Board from to promote)
board_read _ _ promote = None

-- the drop of a kind on a square, if both were read
abbrev pub drop_read : Option Kind → Option ℕ → Option Move
drop_read (Some kind) (Some to) = Some (Drop kind to)
drop_read _ _ = None

-- the move of four bytes: a drop if the second is a star, else a board move
abbrev pub short_read : List ℕ → Option Move
short_read text =
    let to = square_read (slice_index text 2) (slice_index text 3) in
    cond (slice_index text 1 == STAR) (drop_read (kind_named (slice_index text 0)) to)
    (board_read (square_read (slice_index text 0) (slice_index text 1)) to false)

-- the move of five bytes: a promotion, which ends with a plus
abbrev pub long_read : List ℕ → Option Move
long_read text =
    let from = square_read (slice_index text 0) (slice_index text 1) in
    let to = square_read (slice_index text 2) (slice_index text 3) in
    cond (slice_index text 4 == PLUS) (board_read from to true) None

-- the move that a text writes
unfoldable pub move_read : List ℕ → Option Move
move_read text =
    cond (length text == 4) (short_read text) (cond (length text == 5) (long_read text) None)
