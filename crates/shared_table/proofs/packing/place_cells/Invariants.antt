use Rattle.std.proofs.Common.{◌≡◌, ◌++◌, ◌-◌, length, take}
use Rattle.shared_table.specs.Packed.{cells_in}
use Rattle.shared_table.proofs.packing.place_cells.Given as goal

-- the squares so far, followed by the rest of the word
abbrev pub invariant-loop-at : goal.invariant-loop-at
invariant-loop-at l = record {
  made : take l.at l.cells ++ cells_in (l.end - l.at) l.rest ≡ take l.fn.from l.fn.cells ++ cells_in (l.end - l.fn.from) l.fn.word;
  all : length l.cells ≡ 81;
}
