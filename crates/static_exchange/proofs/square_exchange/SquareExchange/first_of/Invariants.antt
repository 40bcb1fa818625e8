use Rattle.std.proofs.Common.{◌≡◌, ℕ, true}
use Rattle.shogi_core.specs.Bits.{has_bit}
use Rattle.static_exchange.specs.Takers.{rank_on, IsFirstBefore}
use Rattle.static_exchange.proofs.square_exchange.SquareExchange.first_of.Given as goal

abbrev pub invariant-pieces : goal.invariant-pieces
invariant-pieces l = record {
  among : has_bit l.fn.pieces.bits l.first ≡ true;
  rank : l.rank ≡ rank_on l.self.board.now l.self.square l.first;
  within : (n : ℕ) → has_bit l.left n ≡ true → has_bit l.fn.pieces.bits n ≡ true;
  before : IsFirstBefore l.self.board.now l.self.square l.fn.pieces.bits l.left l.first;
}

abbrev pub decreases-pieces : goal.decreases-pieces
decreases-pieces l = l.left
