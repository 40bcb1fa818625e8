use Rattle.std.proofs.Common.{◌≡◌, length, false}
use Rattle.shogi_moves.specs.Sweeps.{IsDropSweep, matching_from}
use Rattle.search_nodes.specs.Order.{codes_of, matching_others_from}
use Rattle.search_nodes.proofs.move_picker.next_drop.Given as goal

abbrev pub invariant-moves : goal.invariant-moves
invariant-moves l = record {
  kept : IsDropSweep l.p l.sweep;
  same : matching_others_from l.p (codes_of l.priority_moves) false l.fn.sweep.code ≡ matching_others_from l.p (codes_of l.priority_moves) false l.sweep.code;
}

abbrev pub decreases-moves : goal.decreases-moves
decreases-moves l = length (matching_from l.p false l.sweep.code)
