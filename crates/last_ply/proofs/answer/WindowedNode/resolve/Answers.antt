use Rattle.std.proofs.Common.{arith, ◌≤ℤ◌, ◌<ℤ◌, subst, sym, refl, w32}
use Rattle.std.proofs.lemmas.Int.{ints, to_z-of_z}
use Rattle.minimax.specs.Minimax.{value}
use Rattle.last_ply.proofs.Composing.{at_least, at_most, score_found}
use Rattle.last_ply.specs.LastPly.{ScoresAtMost}
use Rattle.last_ply.proofs.answer.WindowedNode.resolve.Goals as goal

pub returns-then-most-self-clause-truth : goal.returns-then-most-self-clause-truth
returns-then-most-self-clause-truth c =
    let node = c.args.self.now.frontier.now.node.now in
    let h : c.args.most ≤ℤ value node.position node.eval 1 = at_least node.position node.eval c.args.most c.args.self.now.frontier.now.valid (c.requires.some (omega (arith, ints, c.args.self.now.wide, c.if-most-self.true))) in
    omega (arith, ints, h)

pub returns-then-most-self-2-clause-truth : goal.returns-then-most-self-2-clause-truth
returns-then-most-self-2-clause-truth c =
    let node = c.args.self.now.frontier.now.node.now in
    let low : c.args.most <ℤ c.args.self.now.beta = omega (arith, ints, c.if-most-self.false) in
    let h : value node.position node.eval 1 ≤ℤ c.args.most = at_most node.position node.eval c.args.most (c.in_default.ensures.if_none refl) (c.requires.all low) c.requires.lost in
    omega (arith, ints, h)

pub returns-clause-truth : goal.returns-clause-truth
returns-clause-truth c =
    let node = c.args.self.now.frontier.now.node.now in
    let low : c.args.most <ℤ c.args.self.now.beta = omega (arith, ints, c.if-most-self.false) in
    let all = subst (ScoresAtMost node.position node.eval) (sym (to_z-of_z w32 c.args.most c.ranges.most)) (c.requires.all low) in
    let f : _ = score_found node.position node.eval _ c.in-Some-first_with.m c.args.self.now.frontier.now.valid c.reveal_invariant.ensures.back (c.in_default.ensures.if_none refl) all c.in-Some-first_with.ensures.some in
    (f.value_is, f.best_is)
