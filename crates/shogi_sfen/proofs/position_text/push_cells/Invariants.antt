use Rattle.std.proofs.Common.{◌≡◌, ◌≤◌, ◌+◌, ◌*◌, ◌++◌, drop, length}
use Rattle.shogi_sfen.specs.Written.{cells_text}
use Rattle.shogi_sfen.proofs.position_text.push_cells.Given as goal

-- the text so far, then that of the other cells, is the rank's
abbrev pub invariant-loop-cell : goal.invariant-loop-cell
invariant-loop-cell l = record {
  value : l.text.items ++ cells_text l.run (drop l.cell-index l.cell-items) ≡ l.fn.text.items ++ cells_text 0 l.cell-items;
  len : length l.text.items + l.run ≤ length l.fn.text.items + 2 * l.cell-index;
  run : l.run ≤ l.cell-index;
}
