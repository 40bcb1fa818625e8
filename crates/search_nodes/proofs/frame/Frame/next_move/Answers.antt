use Rattle.std.proofs.Common.{◌≡◌, arith}
use Rattle.search_nodes.proofs.frame.Frame.next_move.Goals as goal

pub next_unpruned-requires-clause-at : goal.next_unpruned-requires-clause-at
next_unpruned-requires-clause-at c =
    let two : c.args.self.now.depth ≡ 2 = omega (arith, c.if-self-eq2.true) in
    (two, c.requires.found two)
