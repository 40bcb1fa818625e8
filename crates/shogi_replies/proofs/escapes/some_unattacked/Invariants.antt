use Rattle.std.proofs.Common.{◌≡◌, ◌<◌, false}
use Rattle.shogi_core.specs.Attack.{is_attacked}
use Rattle.shogi_replies.proofs.EscapeLaws.{Gathers}
use Rattle.shogi_replies.proofs.escapes.some_unattacked.Given as goal

abbrev pub invariant-squares : goal.invariant-squares
invariant-squares l = record {
  gathers : Gathers l.fn.squares.bits l.left l.kept.bits (λ n. is_attacked l.board l.by n ≡ false);
  few : l.found < 3;
}

abbrev pub decreases-squares : goal.decreases-squares
decreases-squares l = l.left
