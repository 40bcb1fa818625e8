use Rattle.std.proofs.Common.{◌≡◌, ◌∙◌, ◌++◌, ◌-◌, arith, sym, take}
use Rattle.std.proofs.lemmas.List.{length-set}
use Rattle.shared_table.specs.Packed.{cells_in}
use Rattle.shared_table.proofs.PlaceLaws.{cells_end, cells_step}
use Rattle.shared_table.proofs.packing.place_cells.Goals as goal

pub loop-at-preserved : goal.loop-at-preserved
loop-at-preserved c = record {
  made = rw c.cell_of_number.ensures (cells_step c.loop-at.cells c.loop-at.at c.args.end c.loop-at.rest
      (take c.args.from c.args.cells.now ++ cells_in (c.args.end - c.args.from) c.args.word) c.loop-at-test.true (omega arith) c.loop-at.invariant.made);
  all = length-set c.loop-at.cells c.loop-at.at c.cell_of_number.result ∙ c.loop-at.invariant.all;
}

pub returns : goal.returns
returns c =
    let same : c.loop-at.at ≡ c.args.end = omega (arith, c.loop-at.auto.at-end c.requires.order) in
    sym (cells_end c.loop-at.cells c.args.end c.loop-at.rest) ∙ (rw same at c.loop-at.invariant.made)
