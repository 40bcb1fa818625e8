use Rattle.std.proofs.Common.{◌≡◌, ◌<◌, ℕ, true}
use Rattle.shogi_core.specs.Attack.{is_step_among}
use Rattle.shogi_core.specs.Bits.{has_bit}
use Rattle.shogi_core.proofs.SeenLaws.{Covers}
use Rattle.shogi_core.proofs.attack.first_stepper.Given as goal

abbrev pub invariant-squares : goal.invariant-squares
invariant-squares l = record {
  covers : Covers l.left (is_step_among l.board l.fn.among.bits l.square);
  among : (n : ℕ) → n < 81 → has_bit l.left n ≡ true → has_bit l.fn.among.bits n ≡ true;
}

abbrev pub decreases-squares : goal.decreases-squares
decreases-squares l = l.left
