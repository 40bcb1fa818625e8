use Rattle.std.proofs.Common.{◌≡◌, ◌<◌, ◌^◌, ℕ, true}
use Rattle.std.specs.Prelude.{◌&&◌}
use Rattle.shogi_core.specs.Bits.{has_bit}
use Rattle.shogi_core.specs.Movement.{reaches}
use Rattle.shogi_core.specs.Position.{Shogi}
use Rattle.shogi_moves.specs.Destinations.{is_own}
use Rattle.static_exchange.specs.SquareExchanges.{HasExchange}
use Rattle.static_exchange.specs.Takers.{OthersTakeNot}
use Rattle.static_exchange.proofs.square_exchange.SquareExchange.first_taker.Given as goal

abbrev pub invariant-pieces : goal.invariant-pieces
invariant-pieces l = record {
  fits : l.left < 2 ^ 81;
  reach : (p : Shogi) → HasExchange p l.self → (n : ℕ) → n < 81 → has_bit l.left n ≡ true → (is_own p n && reaches p.cells n l.self.square) ≡ true;
  others : (p : Shogi) → HasExchange p l.self → OthersTakeNot p l.self.square l.left;
}

abbrev pub decreases-pieces : goal.decreases-pieces
decreases-pieces l = l.left
