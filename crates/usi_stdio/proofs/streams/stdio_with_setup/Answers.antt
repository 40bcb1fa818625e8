use Rattle.usi_stdio.proofs.Between.{left_start}
use Rattle.usi_stdio.proofs.Remembering.{told_table}
use Rattle.usi_stdio.proofs.Working.{on_err}
use Rattle.usi_stdio.proofs.streams.stdio_with_setup.Goals as goal

-- there is no table, and nothing was read
pub returns-in_err-table-clause-err : goal.returns-in_err-table-clause-err
returns-in_err-table-clause-err g c = on_err _ (left_start c.args.setup (g.T.FrontEnd.report c.args.front_end.now))

pub returns-clause-table : goal.returns-clause-table
returns-clause-table g c =
    told_table c.stdio_on.result c.args.setup c.args.entries (g.T.FrontEnd.report c.args.front_end.now) (g.T.FrontEnd.report c.stdio_on.new.front_end) c.in_ok-table.table c.stdio_on.new.memo c.in_ok-table.ensures c.stdio_on.ensures.capacity c.stdio_on.ensures.told
