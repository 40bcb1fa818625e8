use Rattle.shogi_search.proofs.Known.{nodes_known, nodes_path}
use Rattle.shogi_search.proofs.sliced_search.Search.reveal_invariant.Goals as goal

pub returns-clause-path : goal.returns-clause-path
returns-clause-path c = rw (← c.self.view_is) (nodes_path c.self.inside c.self.invariant)

pub returns-clause-known : goal.returns-clause-known
returns-clause-known c = rw (← c.self.view_is) (nodes_known c.self.inside.found c.self.inside.started _)
