use Rattle.std.proofs.Common.{◌≤ℤ◌, arith}
use Rattle.std.proofs.lemmas.Int.{ints}
use Rattle.minimax.specs.declared.bounds.TheConstants.{MATE}
use Rattle.minimax.specs.Minimax.{value}
use Rattle.last_ply.proofs.Composing.{mate_at_least, at_most_mate, mate_found}
use Rattle.last_ply.proofs.answer.WindowedNode.mate_entry.Goals as goal

pub returns-then-self-le-MATE-clause-truth : goal.returns-then-self-le-MATE-clause-truth
returns-then-self-le-MATE-clause-truth c = mate_at_least c.args.self.now.frontier.now.node.now.position c.args.self.now.frontier.now.node.now.eval (c.has_mate.ensures.some c.if-not-has_mate.false)

pub returns-then-self-ge-MATE-clause-truth : goal.returns-then-self-ge-MATE-clause-truth
returns-then-self-ge-MATE-clause-truth c =
    let most : value c.args.self.now.frontier.now.node.now.position c.args.self.now.frontier.now.node.now.eval 1 ≤ℤ MATE = at_most_mate c.args.self.now.frontier.now.node.now.position c.args.self.now.frontier.now.node.now.eval c.args.self.now.frontier.now.valid in
    omega (arith, ints, most, c.if-self-ge-MATE.true)

pub returns-in-Some-clause-truth : goal.returns-in-Some-clause-truth
returns-in-Some-clause-truth c =
    let f : _ = mate_found c.args.self.now.frontier.now.node.now.position c.args.self.now.frontier.now.node.now.eval c.in-Some.m c.args.self.now.frontier.now.valid c.reveal_invariant.ensures.back c.in-Some.ensures.some in
    (f.value_is, f.best_is)
