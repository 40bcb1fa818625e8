use Rattle.std.proofs.Common.{◌≡◌, refl, arith, add-one}
use Rattle.shogi_core.proofs.Opening.{files_set, opening_cells}
use Rattle.shogi_core.proofs.start.start_cells.Goals as goal

pub loop-file-init : goal.loop-file-init
unfolding files_set
loop-file-init c = refl

pub loop-file-preserved : goal.loop-file-preserved
unfolding files_set
loop-file-preserved c =
    rw (c.cell_with.ensures, c.cell_with-in-loop-file.ensures, c.cell_with-in-loop-file-2.ensures, c.cell_with-in-loop-file-3.ensures, c.loop-file.invariant, add-one) refl

pub returns : goal.returns
returns c =
    let end : c.loop-file.file ≡ 9 = omega arith in
    rw (c.cell_with-2.ensures, c.cell_with-3.ensures, c.cell_with-4.ensures, c.cell_with-5.ensures, c.loop-file.invariant, end) opening_cells
