-- Squares to which the king of the side not to move may go if a move gives it check (own choice).
use Rattle.std.specs.Prelude.{ℕ, ◌≡◌, ◌≢◌, ◌<◌, true, false, None, slice_set}
use Rattle.shogi_core.specs.declared.piece.Color.{Color}
use Rattle.shogi_core.specs.Attack.{is_attacked}
use Rattle.shogi_core.specs.Bits.{has_bit}
use Rattle.shogi_core.specs.Cell.{is_king, is_piece_of, HasNoOtherKing}
use Rattle.shogi_core.specs.Movement.{Cells, piece_at, reaches}
use Rattle.shogi_core.specs.Pieces.{opponent_of}
use Rattle.shogi_core.specs.Position.{Shogi}

-- the side attacks none of the squares
abbrev pub AreSafeFrom : Cells → Color → ℕ → Type 0
AreSafeFrom cells side squares = (n : ℕ) → n < 81 → has_bit squares n ≡ true
    → is_attacked cells side n ≡ false

-- the king of the side on k is its only one and steps to e, which has no piece of its side
pub record IsKingStep (cells : Cells) (side : Color) (k e : ℕ) : Type 0 where
  pub lone : HasNoOtherKing cells side k
  pub reached : reaches cells k e ≡ true
  pub open_end : is_piece_of side (piece_at cells e) ≡ false

-- the king on k steps to e, which the other side does not attack once the king has left k
pub record IsEscape (cells : Cells) (side : Color) (k e : ℕ) : Type 0 where
  pub step : IsKingStep cells side k e
  pub safe : is_attacked (slice_set cells k None) (opponent_of side) e ≡ false

-- the king of the side not to move steps to each of the squares
abbrev pub AreKingSteps : Shogi → ℕ → Type 0
AreKingSteps p squares = (k e : ℕ) → k < 81
    → is_king (opponent_of p.side) (piece_at p.cells k) ≡ true
    → e < 81 → has_bit squares e ≡ true → IsKingStep p.cells (opponent_of p.side) k e

-- the squares are escapes of the king of the side not to move
abbrev pub AreEscapes : Shogi → ℕ → Type 0
AreEscapes p squares = (k e : ℕ) → k < 81
    → is_king (opponent_of p.side) (piece_at p.cells k) ≡ true
    → e < 81 → has_bit squares e ≡ true → IsEscape p.cells (opponent_of p.side) k e

-- the king of the side not to move has an escape outside the closed squares and other than `to`, and a move to `to` does not capture it
pub record HasOpenEscape (p : Shogi) (closed to : ℕ) : Type 0 where
  pub king_on : ℕ
  pub end : ℕ
  pub on_board : (king_on < 81) × (end < 81)
  pub king : is_king (opponent_of p.side) (piece_at p.cells king_on) ≡ true
  pub escape : IsEscape p.cells (opponent_of p.side) king_on end
  pub open_end : has_bit closed end ≡ false
  pub elsewhere : (king_on ≢ to) × (end ≢ to)
