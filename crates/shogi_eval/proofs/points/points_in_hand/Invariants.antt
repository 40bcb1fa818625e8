use Rattle.std.proofs.Common.{◌≡◌, ◌*◌, ◌≤◌, take, sum_by}
use Rattle.shogi_eval.specs.declared.points.TheConstants.{PIECE_VALUE_MAX}
use Rattle.shogi_eval.specs.Material.{points_of_kind}
use Rattle.shogi_core.specs.Pieces.{all_kinds}
use Rattle.shogi_eval.proofs.points.points_in_hand.Given as goal

abbrev pub invariant-loop-kind : goal.invariant-loop-kind
invariant-loop-kind l = (l.points ≡ sum_by (points_of_kind l.p.hands l.e l.color) (take l.kind-index all_kinds)) × (l.points ≤ l.kind-index * (255 * PIECE_VALUE_MAX))
