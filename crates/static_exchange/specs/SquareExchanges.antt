-- An exchange on one square, as far as it has come.
use Rattle.std.specs.Prelude.{ℕ, ◌≡◌, ◌<◌, ◌==◌, ◌&&◌, true, not}
use Rattle.shogi_core.specs.Bits.{has_bit, HasBits}
use Rattle.shogi_core.specs.Cell.{is_piece_of}
use Rattle.shogi_core.specs.Movement.{piece_at}
use Rattle.shogi_core.specs.Pieces.{opponent_of}
use Rattle.shogi_core.specs.Position.{Shogi}
use Rattle.shogi_core.specs.Validity.{IsValid}
use Rattle.shogi_moves.specs.Destinations.{is_own}
use Rattle.static_exchange.specs.declared.square_exchange.SquareExchange.{SquareExchange}

-- the exchange of a position: an enemy piece stands on the square, and the pieces that are left elsewhere stand as on the board
pub record HasExchange (p : Shogi) (x : SquareExchange) : Type 0 where
  pub valid : IsValid p
  pub side : x.side ≡ p.side
  pub stands : piece_at p.cells x.square ≡ x.stands
  pub foe : is_piece_of (opponent_of p.side) x.stands ≡ true
  pub mine : HasBits x.mine.bits (is_own p)
  pub theirs : HasBits x.theirs.bits
      (λ n. is_piece_of (opponent_of p.side) (piece_at p.cells n) && not (n == x.square))
  pub same_mine : (n : ℕ) → n < 81 → has_bit x.mine.bits n ≡ true
      → piece_at p.cells n ≡ piece_at x.board.now n
  pub same_theirs : (n : ℕ) → n < 81 → has_bit x.theirs.bits n ≡ true
      → piece_at p.cells n ≡ piece_at x.board.now n
