use Rattle.std.proofs.Common.{List, ap}
use Rattle.shared_table.specs.Keys.{key_of}
use Rattle.shared_table.specs.Recent.{Pair, Table, entry_of, hit_of, plus}
use Rattle.shared_table.proofs.RecentLaws.{found_true, promoted_is, table_probed}
use Rattle.shared_table.proofs.table.SharedTableMemo.probe.Goals as goal

pub invariant_of-self : goal.invariant_of-self
invariant_of-self g c =
    rw c.recall-answer.ensures.cache
    (table_probed c.of-key.result c.self.inside.cache.entries c.self.inside.cache.cap c.self.invariant)

pub returns-clause-truth : goal.returns-clause-truth
returns-clause-truth g c =
    rw c.of-key.ensures at (found_true c.self.inside.cache.entries c.of-key.result c.recall-answer.result c.self.invariant.truth c.recall-answer.ensures.value)

pub returns-clause-used : goal.returns-clause-used
returns-clause-used g c =
    let table : List Pair → Table = λ l. record {
      pairs = l;
      capacity = c.self.inside.cache.cap;
      refused = c.self.inside.refused;
      probes = plus c.self.inside.probes 1;
      hits = plus c.self.inside.hits (hit_of (entry_of c.self.inside.cache.entries (key_of c.args.p.now c.args.e c.args.d)));
    } in
    rw (c.count.ensures, c.count-2.ensures, c.hit_of.ensures, c.recall-answer.ensures.value, c.recall-answer.ensures.cache, c.of-key.ensures, ← c.self.view_is)
    (ap table (promoted_is (key_of c.args.p.now c.args.e c.args.d) c.self.inside.cache.entries))
