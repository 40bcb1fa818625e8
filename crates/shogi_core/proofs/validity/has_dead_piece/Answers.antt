use Rattle.std.proofs.Common.{rules, arith}
use Rattle.shogi_core.specs.Cell.{is_immobile_on}
use Rattle.shogi_core.proofs.Below.{some_below_found}
use Rattle.shogi_core.proofs.validity.has_dead_piece.Goals as goal

pub returns-then-is_immobile : goal.returns-then-is_immobile
returns-then-is_immobile c = some_below_found 81 (is_immobile_on c.args.cells.now) c.loop-square.square (omega arith) (search rules)
