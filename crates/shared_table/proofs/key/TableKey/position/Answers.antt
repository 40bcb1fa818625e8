use Rattle.std.proofs.Common.{◌≡◌, ◌∙◌, [], ap}
use Rattle.shogi_core.specs.Movement.{Cells}
use Rattle.shogi_core.specs.Validity.{fault_of}
use Rattle.shared_table.specs.Keys.{Key}
use Rattle.shared_table.specs.Packed.{position_in}
use Rattle.shared_table.proofs.PlaceLaws.{position_made}
use Rattle.shared_table.proofs.PackedLaws.{position_of}
use Rattle.shared_table.proofs.key.TableKey.position.Goals as goal

-- the unpacked parts make the position of the words
made : (c : goal.After-side_of) → position_of c.of.result c.with_counts-hands.result c.side_of.result ≡ position_in c.self.inside.words
made c =
    ap (λ (cells : Cells). position_of cells c.with_counts-hands.result c.side_of.result) c.of.ensures
    ∙ position_made c.self.inside.words [] c.place_cells.new.cells c.place_cells-2.new.cells c.place_cells-3.new.cells c.place_cells-4.new.cells
    c.place_cells-5.new.cells c.place_cells-6.new.cells c.place_cells-7.new.cells [] c.with_counts-black.result c.with_counts-hands.result c.side_of.result
    c.place_cells.ensures c.place_cells-2.ensures c.place_cells-3.ensures c.place_cells-4.ensures c.place_cells-5.ensures c.place_cells-6.ensures
    c.place_cells-7.ensures c.place_cells-7.array_long c.with_counts-black.ensures.counts c.with_counts-hands.ensures.counts c.with_counts-hands.ensures.length
    c.side_of.ensures

pub of_valid-requires : goal.of_valid-requires
of_valid-requires c = ap fault_of (made c) ∙ c.self.invariant.valid.no_fault

pub returns : goal.returns
returns c = c.of_valid.ensures ∙ made c.before ∙ ap (λ (k : Key). k.position) c.self.view_is
