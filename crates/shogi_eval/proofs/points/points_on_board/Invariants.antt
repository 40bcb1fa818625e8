use Rattle.std.proofs.Common.{◌≡◌, ◌*◌, ◌≤◌, take, sum_by}
use Rattle.shogi_eval.specs.declared.points.TheConstants.{PIECE_VALUE_MAX}
use Rattle.shogi_eval.specs.Material.{points_at}
use Rattle.shogi_eval.proofs.points.points_on_board.Given as goal

abbrev pub invariant-loop-cell : goal.invariant-loop-cell
invariant-loop-cell l = (l.points ≡ sum_by (points_at l.color) (take l.cell-index l.cells)) × (l.points ≤ l.cell-index * PIECE_VALUE_MAX)
