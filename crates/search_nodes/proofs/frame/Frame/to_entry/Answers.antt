use Rattle.std.proofs.Common.{arith, ◌<◌, ◌∙◌, sym, None, Some}
use Rattle.std.proofs.lemmas.Int.{ints}
use Rattle.std.proofs.lemmas.Bool.{iff_false}
use Rattle.shogi_moves.proofs.LegalLaws.{legal_rising}
use Rattle.minimax.specs.Minimax.{lost_value}
use Rattle.minimax.proofs.MinimaxLaws.{best-leaf}
use Rattle.minimax.proofs.Left.{IsFound, found_best, found_low, found_lost}
use Rattle.search_nodes.proofs.Nodes.{gone, gone_through}
use Rattle.search_nodes.proofs.frame.Frame.to_entry.Goals as goal

pub returns-then-self-eq0-clause-truth : goal.returns-then-self-eq0-clause-truth
returns-then-self-eq0-clause-truth c = rw c.if-self-eq0.true (omega (arith, ints), best-leaf c.args.self.now.node.position c.args.self.now.node.eval)

pub returns-in-Some-clause-truth : goal.returns-in-Some-clause-truth
returns-in-Some-clause-truth c =
    let deep : 0 < c.args.self.now.depth = omega arith in
    let g : _ = gone _ _ _ _ _ _ _ _ _ c.requires.over c.in_default.not-CutOff c.args.self.now.known in
    let r : IsFound c.args.self.now.node.position c.args.self.now.node.eval c.args.self.now.depth _ (Some c.in-Some.m) = found_best _ _ _ _ _ _ _ _ deep (legal_rising c.args.self.now.node.position 0) c.reveal_invariant.ensures.back g.none c.in-Some.is (gone_through _ _ _ _ _ _ _ deep g.covered) in
    (omega (arith, ints, r.value_is), r.best_is ∙ sym c.in-Some.is)

pub returns-then-can_move-clause-truth : goal.returns-then-can_move-clause-truth
returns-then-can_move-clause-truth c =
    let deep : 0 < c.args.self.now.depth = omega arith in
    let g : _ = gone _ _ _ _ _ _ _ _ _ c.requires.over c.in_default.not-CutOff c.args.self.now.known in
    let r : _ = found_low _ _ _ _ _ _ _ deep g.none c.in-None.is (c.can_move.ensures.0 c.if-can_move.true) (gone_through _ _ _ _ _ _ _ deep g.covered) in
    omega (arith, ints, r.0)

pub returns-then-can_move-clause-conclusive : goal.returns-then-can_move-clause-conclusive
returns-then-can_move-clause-conclusive c =
    let deep : 0 < c.args.self.now.depth = omega arith in
    let g : _ = gone _ _ _ _ _ _ _ _ _ c.requires.over c.in_default.not-CutOff c.args.self.now.known in
    let r : _ = found_low _ _ _ _ _ _ _ deep g.none c.in-None.is (c.can_move.ensures.0 c.if-can_move.true) (gone_through _ _ _ _ _ _ _ deep g.covered) in
    omega (arith, ints, r.1)

pub returns-else-can_move-clause-truth : goal.returns-else-can_move-clause-truth
returns-else-can_move-clause-truth c =
    let deep : 0 < c.args.self.now.depth = omega arith in
    let g : _ = gone _ _ _ _ _ _ _ _ _ c.requires.over c.in_default.not-CutOff c.args.self.now.known in
    let r : IsFound c.args.self.now.node.position c.args.self.now.node.eval c.args.self.now.depth (lost_value c.args.self.now.depth) None = found_lost _ _ _ deep (iff_false c.can_move.ensures c.if-can_move.false) in
    (omega (arith, ints, r.value_is, c.args.self.now.shallow), r.best_is)
