use Rattle.std.proofs.Common.{◌≡◌, length}
use Rattle.shogi_moves.specs.Sweeps.{IsBoardSweep, matching_from}
use Rattle.search_nodes.specs.Order.{codes_of, matching_others_from}
use Rattle.search_nodes.proofs.move_picker.next_board.Given as goal

abbrev pub invariant-moves : goal.invariant-moves
invariant-moves l = record {
  kept : IsBoardSweep l.p l.capture l.sweep;
  same : matching_others_from l.p (codes_of l.priority_moves) l.capture l.fn.sweep.code ≡ matching_others_from l.p (codes_of l.priority_moves) l.capture l.sweep.code;
}

abbrev pub decreases-moves : goal.decreases-moves
decreases-moves l = length (matching_from l.p l.capture l.sweep.code)
