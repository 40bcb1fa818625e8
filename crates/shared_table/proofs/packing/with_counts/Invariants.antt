use Rattle.std.proofs.Common.{◌≡◌, ◌++◌, ◌+◌, ◌-◌, length, take}
use Rattle.shogi_core.specs.Position.{place_of}
use Rattle.shogi_core.specs.declared.piece.Kind.TheVariants.{Pawn}
use Rattle.shared_table.specs.Packed.{digits_in_base_32}
use Rattle.shared_table.proofs.packing.with_counts.Given as goal

-- the counts so far, followed by the rest of the word
abbrev pub invariant-loop-number : goal.invariant-loop-number
invariant-loop-number l = record {
  made : take (place_of l.color Pawn + l.number) l.counted ++ digits_in_base_32 (7 - l.number) l.rest ≡ take (place_of l.color Pawn) l.fn.hands ++ digits_in_base_32 7 l.fn.word;
  all : length l.counted ≡ 14;
}
