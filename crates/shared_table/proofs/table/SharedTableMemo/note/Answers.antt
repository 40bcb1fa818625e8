use Rattle.shared_table.proofs.RecentLaws.{noted_capacity, table_noted}
use Rattle.minimax.specs.Minimax.{IsTrueEntry}
use Rattle.shared_table.proofs.table.SharedTableMemo.note.Goals as goal

pub invariant_of-self : goal.invariant_of-self
invariant_of-self g c =
    let truth : IsTrueEntry c.of-key.result.position c.of-key.result.eval c.of-key.result.depth c.args.entry = rw c.of-key.ensures c.requires.truth in
    table_noted c.of-key.result c.args.entry c.self.inside.cache c.remember.new.cache c.self.inside.refused c.remember.new.refused c.self.inside.probes c.self.inside.hits
    c.self.invariant truth (c.remember.ensures c.self.inside.probes c.self.inside.hits)

pub returns-clause-noted : goal.returns-clause-noted
returns-clause-noted g c =
    let noted = rw c.of-key.ensures at (c.remember.ensures c.self.inside.probes c.self.inside.hits) in
    rw (← c.self.view_is) noted

pub returns-clause-capacity : goal.returns-clause-capacity
returns-clause-capacity g c = noted_capacity _ _ _ _ (returns-clause-noted g c)
