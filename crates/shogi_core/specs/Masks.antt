-- Sets of squares as masks of 81 bits: bit n is the square of index n (own choice).
use Rattle.std.specs.Prelude.{◌≡◌, ℕ, Bool, false, List, length, Option, Some, None}
use Rattle.shogi_core.specs.declared.piece.Color.{Color}
use Rattle.shogi_core.specs.declared.piece.Color.TheVariants.{Black, White}
use Rattle.shogi_core.specs.Bits.{mask_below}
use Rattle.shogi_core.specs.Cell.{is_piece_of, is_king_role, is_slider}
use Rattle.shogi_core.specs.Movement.{Cells, piece_at}
use Rattle.shogi_core.specs.declared.piece.Piece.{Piece}
use Rattle.shogi_core.specs.Words.{board_words}

-- what stands on the square passes the test
abbrev pub passes : (Option Piece → Bool) → Cells → ℕ → Bool
passes test cells square = test (piece_at cells square)

-- the mask of the squares whose cells pass the test
unfoldable pub places_of : (Option Piece → Bool) → Cells → ℕ
places_of test cells = mask_below 81 (passes test cells)

-- the mask has exactly the squares whose cells pass each test that agrees with the call
abbrev pub HasPassing : (Option Piece → Bool → Type 0) → Cells → ℕ → Type 0
HasPassing post cells mask = (test : Option Piece → Bool)
    → ((cell : Option Piece) (passed : Bool) → post cell passed → passed ≡ test cell)
    → mask ≡ places_of test cells

-- the mask of the squares with a piece of the side
abbrev pub own_of : Cells → Color → ℕ
own_of cells color = places_of (is_piece_of color) cells

-- a king of either side stands in the cell
abbrev pub is_any_king : Option Piece → Bool
is_any_king None = false
is_any_king (Some piece) = is_king_role piece.role

-- the mask of the squares with a king of either side
abbrev pub kings_of : Cells → ℕ
kings_of cells = places_of is_any_king cells

-- the mask of the squares with a slider of either side
abbrev pub sliders_of : Cells → ℕ
sliders_of cells = places_of is_slider cells

-- the fields of a board: 81 cells, with the masks and the words that follow from them
abbrev pub IsBoard : Cells → ℕ → ℕ → ℕ → ℕ → List ℕ → Type 0
IsBoard cells black white kings sliders words =
    (length cells ≡ 81) × (black ≡ own_of cells Black) × (white ≡ own_of cells White)
    × (kings ≡ kings_of cells) × (sliders ≡ sliders_of cells) × (words ≡ board_words cells)
