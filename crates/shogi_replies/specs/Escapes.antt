-- Escapes that a move leaves to a king: out of a piece's reach once the king has gone, and off the lines that open (own choice).
use Rattle.std.specs.Prelude.{ℕ, ◌≡◌, ◌<◌, ◌&&◌, ⊤, not, true, false, Option, None, slice_set}
use Rattle.shogi_core.specs.declared.piece.Color.{Color}
use Rattle.shogi_core.specs.declared.piece.Piece.{Piece}
use Rattle.shogi_core.specs.Attack.{is_attacked, is_sniper}
use Rattle.shogi_core.specs.Bits.{HasBits, has_bit}
use Rattle.shogi_core.specs.Cell.{is_king, HasNoOtherKing}
use Rattle.shogi_core.specs.Lines.{are_aligned}
use Rattle.shogi_core.specs.Movement.{Cells, piece_at, cell_reaches}
use Rattle.shogi_core.specs.Pieces.{opponent_of}
use Rattle.shogi_core.specs.Position.{Shogi}
use Rattle.shogi_core.specs.Rays.{direction_at, is_on_ray}
use Rattle.shogi_moves.specs.declared.origin.Origin.{Origin}
use Rattle.shogi_moves.specs.declared.origin.Origin.TheVariants.{Board, Drop}

-- the set has all squares to which the direction leads from both squares
abbrev pub HasRaysBehind : ℕ → ℕ → ℕ → ℕ → Type 0
HasRaysBehind d from over set = (n : ℕ) → n < 81 → is_on_ray (direction_at d) from n ≡ true
    → is_on_ray (direction_at d) over n ≡ true → has_bit set n ≡ true

-- the set has the squares behind the opponent's only king, as seen from `from`
abbrev pub HasKingsRays : Shogi → ℕ → ℕ → Type 0
HasKingsRays p from set = (k d : ℕ) → k < 81 → d < 8
    → is_king (opponent_of p.side) (piece_at p.cells k) ≡ true
    → HasNoOtherKing p.cells (opponent_of p.side) k → HasRaysBehind d from k set

-- the set has all that the piece reaches from `to` once the opponent's only king has left its square
abbrev pub ReachesWithin : Shogi → Option Piece → ℕ → ℕ → Type 0
ReachesWithin p cell to set = (k n : ℕ) → k < 81 → n < 81
    → is_king (opponent_of p.side) (piece_at p.cells k) ≡ true
    → HasNoOtherKing p.cells (opponent_of p.side) k → has_bit set n ≡ false
    → cell_reaches (slice_set p.cells k None) cell to n ≡ false

-- the set has exactly the squares on lines with the one that a move leaves; a drop leaves none
abbrev pub OpensWithin : Origin → ℕ → Type 0
OpensWithin (Board from promote) set = (from < 81) × HasBits set (are_aligned from)
OpensWithin (Drop kind) set = ⊤

-- no slider of the side is on a line with the square, whatever stands between
abbrev pub HasNoSniper : Cells → Color → ℕ → Type 0
HasNoSniper cells side square = (a : ℕ) → a < 81 → is_sniper cells side square a ≡ false

-- the set has some of the squares, none of them attacked by the side
abbrev pub AreUnattacked : Cells → Color → ℕ → ℕ → Type 0
AreUnattacked cells side squares set = (n : ℕ) → n < 81 → has_bit set n ≡ true
    → (has_bit squares n ≡ true) × (is_attacked cells side n ≡ false)

-- the set has exactly those of the squares that the side does not attack
abbrev pub AreAllUnattacked : Cells → Color → ℕ → ℕ → Type 0
AreAllUnattacked cells side squares set =
    HasBits set (λ n. has_bit squares n && not (is_attacked cells side n))

-- the board with both squares cleared
abbrev pub without_both : Cells → ℕ → ℕ → Cells
without_both cells from king = slice_set (slice_set cells from None) king None

-- the side to move does not attack `to` once `from` and `king` are cleared
abbrev pub IsSafeWithoutBoth : Shogi → ℕ → ℕ → ℕ → Type 0
IsSafeWithoutBoth p from king to =
    is_attacked (without_both p.cells from king) p.side to ≡ false
