use Rattle.std.proofs.Common.{None, sym}
use Rattle.std.proofs.lemmas.List.{get_or_past}
use Rattle.shared_table.specs.declared.packing.TheConstants.{CELLS}
use Rattle.shared_table.proofs.packing.cell_of_number.Goals as goal

pub returns-else-number-lt29 : goal.returns-else-number-lt29
returns-else-number-lt29 c = sym (get_or_past CELLS c.args.number None c.if-number-lt29.false)
