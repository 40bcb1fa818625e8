-- A position: what stands on the board, what each side holds, and whose turn it is.
use Rattle.std.specs.Prelude.{ℕ, List, ◌+◌, Option, None, slice_index, slice_set}
use Rattle.shogi_core.specs.declared.piece.Color.{Color}
use Rattle.shogi_core.specs.declared.piece.Color.TheVariants.{Black, White}
use Rattle.shogi_core.specs.declared.piece.Kind.{Kind}
use Rattle.shogi_core.specs.declared.piece.Piece.{Piece}
use Rattle.shogi_core.specs.Movement.{Cells}
use Rattle.shogi_core.specs.Pieces.{kind_number, opponent_of}

-- the pieces in hand: Black's count of each kind by number, then White's
abbrev pub HandCounts : Type 0
HandCounts = List ℕ

-- the index of a count in the list
abbrev pub place_of : Color → Kind → ℕ
place_of Black kind = kind_number kind
place_of White kind = kind_number kind + 7

-- the side's count of the kind in hand
abbrev pub count_in_hand : HandCounts → Color → Kind → ℕ
count_in_hand hands color kind = slice_index hands (place_of color kind)

-- the parts of a position, valid or not
pub record Shogi : Type 0 where
  pub cells : Cells
  pub hands : HandCounts
  pub side : Color

-- the position after a board move: `from` is empty, `piece` is on `to`, the hands are `hands`, the turn has passed
abbrev pub with_piece_moved : Shogi → ℕ → ℕ → Option Piece → HandCounts → Shogi
with_piece_moved p from to piece hands = record {
  cells = slice_set (slice_set p.cells from None) to piece;
  hands = hands;
  side = opponent_of p.side;
}

-- the position after a drop: `piece` is on `to`, the hands are `hands`, the turn has passed
abbrev pub with_piece_dropped : Shogi → ℕ → Option Piece → HandCounts → Shogi
with_piece_dropped p to piece hands = record {
  cells = slice_set p.cells to piece;
  hands = hands;
  side = opponent_of p.side;
}
