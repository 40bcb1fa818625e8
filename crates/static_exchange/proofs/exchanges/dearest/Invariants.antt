use Rattle.std.proofs.Common.{◌≡◌, ℕ, true}
use Rattle.shogi_core.specs.Bits.{has_bit}
use Rattle.static_exchange.proofs.exchanges.dearest.Given as goal

abbrev pub invariant-squares : goal.invariant-squares
invariant-squares l = record {
  among : has_bit l.fn.squares.bits l.best ≡ true;
  within : (n : ℕ) → has_bit l.left n ≡ true → has_bit l.fn.squares.bits n ≡ true;
}

abbrev pub decreases-squares : goal.decreases-squares
decreases-squares l = l.left
