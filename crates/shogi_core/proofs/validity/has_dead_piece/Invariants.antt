use Rattle.std.proofs.Common.{◌≡◌, false}
use Rattle.shogi_core.specs.Below.{some_below}
use Rattle.shogi_core.specs.Cell.{is_immobile_on}
use Rattle.shogi_core.proofs.validity.has_dead_piece.Given as goal

abbrev pub invariant-loop-square : goal.invariant-loop-square
invariant-loop-square l = some_below l.square (is_immobile_on l.cells) ≡ false
