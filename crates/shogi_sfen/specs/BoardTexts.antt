-- A board as text (SFEN, board): nine ranks from a to i with a slash between, each from file 9 to file 1.
use Rattle.std.specs.Prelude.{ℕ, ◌+◌, ◌-◌, ◌*◌, ◌/◌, ◌%◌, ◌==◌, ◌&&◌, Bool, true, false, not, List, [], ◌∷◌, ◌++◌, Option, Some, None, cond, nat_lt, length, map}
use Rattle.std.specs.List.{flat_map, slice_split, range_with_len}
use Rattle.std.specs.Option.{option_map}
use Rattle.shogi_core.specs.Movement.{Cells, piece_at}
use Rattle.shogi_sfen.specs.declared.byte.TheConstants.{ZERO, PLUS, SLASH}
use Rattle.shogi_sfen.specs.declared.board_text.RankItem.{RankItem}
use Rattle.shogi_sfen.specs.declared.board_text.RankItem.TheVariants.{Empty, Occupied}
use Rattle.shogi_sfen.specs.declared.board_text.TheConstants.{RANK_SQUARES, BOARD_SQUARES}
use Rattle.shogi_sfen.specs.Letters.{piece_named}
use Rattle.shogi_sfen.specs.Items.{item_cells}

-- the item that a byte writes, with a plus right before it or not: a number of empty squares, or a piece
abbrev pub item_named : Bool → ℕ → Option RankItem
item_named plus byte =
    cond (not plus && (nat_lt ZERO byte && nat_lt byte (ZERO + 10)))
    (Some (Empty (byte - ZERO)))
    (option_map (λ piece. Occupied piece) (piece_named plus byte))

-- an item before other items
abbrev pub onto_items : Option RankItem → Option (List RankItem) → Option (List RankItem)
onto_items (Some item) (Some items) = Some (item ∷ items)
onto_items _ _ = None

-- a plus that begins an item
abbrev pub is_first_plus : Bool → ℕ → Bool
is_first_plus plus byte = not plus && byte == PLUS

-- the items that the bytes write, with a plus right before them or not
abbrev pub items_from : Bool → List ℕ → Option (List RankItem)
items_from plus [] = cond plus None (Some [])
items_from plus (byte ∷ bytes) =
    cond (is_first_plus plus byte) (items_from true bytes)
    (onto_items (item_named plus byte) (items_from false bytes))

-- the cells of the items
abbrev pub squares_in : Option (List RankItem) → Option Cells
squares_in items = option_map (flat_map item_cells) items

-- the cells, if they are nine
abbrev pub only_nine : Option Cells → Option Cells
only_nine None = None
only_nine (Some cells) = cond (length cells == RANK_SQUARES) (Some cells) None

-- the nine cells of a rank, from file 9 to file 1
unfoldable pub rank_of : List ℕ → Option Cells
rank_of part = only_nine (squares_in (items_from false part))

-- cells before further cells
abbrev pub joined : Cells → Option Cells → Option Cells
joined cells None = None
joined cells (Some more) = Some (cells ++ more)

-- cells before further cells, if both are there
abbrev pub both_joined : Option Cells → Option Cells → Option Cells
both_joined None more = None
both_joined (Some cells) more = joined cells more

-- the cells of ranks, one after another
abbrev pub ranks_of : List (List ℕ) → Option Cells
ranks_of [] = Some []
ranks_of (part ∷ parts) = both_joined (rank_of part) (ranks_of parts)

-- the byte is a slash
abbrev pub is_slash : ℕ → Bool
is_slash byte = byte == SLASH

-- the index of a square in a text: rank by rank, each from file 9 on
abbrev pub place_in_text : ℕ → ℕ
place_in_text square = square % 9 * 9 + (8 - square / 9)

-- the board of cells in the order of a text
abbrev pub board_from : Cells → Cells
board_from squares =
    map (λ square. piece_at squares (place_in_text square)) (range_with_len 0 BOARD_SQUARES)

-- the cells of exactly nine ranks
abbrev pub squares_of : List (List ℕ) → Option Cells
squares_of parts = cond (length parts == 9) (ranks_of parts) None

-- the board that a word writes, if any
unfoldable pub board_of : List ℕ → Option Cells
board_of word = option_map board_from (squares_of (slice_split is_slash word))
