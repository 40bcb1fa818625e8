use Rattle.std.proofs.Common.{◌≡◌, ◌<◌, ℕ, true}
use Rattle.shogi_core.specs.Bits.{has_bit}
use Rattle.shogi_core.specs.Cell.{is_king}
use Rattle.shogi_core.specs.Movement.{piece_at}
use Rattle.shogi_core.proofs.Snipers.{Snipes}
use Rattle.shogi_core.proofs.board.Board.snipers.Given as goal

abbrev pub invariant-kings : goal.invariant-kings
invariant-kings l = record {
  all : Snipes l.self l.fn.side l.left l.found.bits;
  kings : (n : ℕ) → n < 81 → has_bit l.left n ≡ true → is_king l.fn.side (piece_at l.self n) ≡ true;
}

abbrev pub decreases-kings : goal.decreases-kings
decreases-kings l = l.left
