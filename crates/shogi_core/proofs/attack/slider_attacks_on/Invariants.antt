use Rattle.std.proofs.Common.{◌≡◌, ◌<◌, ℕ, true}
use Rattle.shogi_core.specs.Attack.{slider_attacks_from}
use Rattle.shogi_core.specs.Bits.{has_bit}
use Rattle.shogi_core.specs.Cell.{is_piece_of}
use Rattle.shogi_core.specs.Movement.{piece_at, slides}
use Rattle.shogi_core.specs.Rays.{direction_at}
use Rattle.shogi_core.proofs.SeenLaws.{Covers}
use Rattle.shogi_core.proofs.attack.slider_attacks_on.Given as goal

abbrev pub invariant-squares : goal.invariant-squares
invariant-squares l = record {
  covers : Covers l.left (slider_attacks_from l.board l.fn.by l.fn.square (direction_at l.direction));
  clear : (n : ℕ) → n < 81 → has_bit l.left n ≡ true → (is_piece_of l.fn.by (piece_at l.board n) ≡ true) × (slides l.board (direction_at l.direction) l.fn.square n ≡ true);
}

abbrev pub decreases-squares : goal.decreases-squares
decreases-squares l = l.left
