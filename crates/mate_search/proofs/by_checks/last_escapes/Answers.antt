use Rattle.mate_search.proofs.OrderLaws.{no_escapes}
use Rattle.mate_search.proofs.by_checks.last_escapes.Goals as goal

pub returns-else-after-eq0-clause-escapes : goal.returns-else-after-eq0-clause-escapes
returns-else-after-eq0-clause-escapes c = no_escapes c.args.p.now c.none.result.bits c.none.ensures
