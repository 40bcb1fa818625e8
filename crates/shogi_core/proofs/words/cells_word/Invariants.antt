use Rattle.std.proofs.Common.{◌≡◌, ◌≤◌, length, map, drop}
use Rattle.shogi_core.specs.Words.{cell_number, number_in_base_32}
use Rattle.shogi_core.proofs.words.cells_word.Given as goal

-- the word so far is that of the cells from `at` on
abbrev pub invariant-loop-at : goal.invariant-loop-at
invariant-loop-at l = record { word : l.word ≡ number_in_base_32 (map cell_number (drop l.at l.cells)); at : l.at ≤ length l.cells }

abbrev pub decreases-loop-at : goal.decreases-loop-at
decreases-loop-at l = l.at
