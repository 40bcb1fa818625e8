use Rattle.std.proofs.Common.{◌≡◌}
use Rattle.shogi_core.proofs.Opening.{files_set}
use Rattle.shogi_core.proofs.start.start_cells.Given as goal

abbrev pub invariant-loop-file : goal.invariant-loop-file
invariant-loop-file l = l.cells ≡ files_set l.file
