use Rattle.mate_search.proofs.BoundLaws.{nothing_known}
use Rattle.mate_search.proofs.memo.Known.nothing.Goals as goal

pub invariant_of-result : goal.invariant_of-result
invariant_of-result c = record { bounds = nothing_known c.args.p.now }
