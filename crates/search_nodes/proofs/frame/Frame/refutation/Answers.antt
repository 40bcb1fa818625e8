use Rattle.std.proofs.Common.{rules, ◌≡◌, Some, w32, to_z, of_z, ℤ, sym, subst}
use Rattle.minimax.specs.Minimax.{negated}
use Rattle.search_nodes.specs.Refuted.{Refutes}
use Rattle.search_nodes.specs.declared.frame.NodeState.TheVariants.{CutOff}
use Rattle.search_nodes.proofs.RefutedMoves.{refutes}
use Rattle.search_nodes.proofs.frame.Frame.refutation.Goals as goal

pub returns : goal.returns
returns c =
    let cut : c.args.self.now.state ≡ CutOff c.in-CutOff.value = c.in-CutOff.is in
    let best : c.args.self.now.best_move ≡ Some c.in_ok-reply.reply = search rules in
    let bound : to_z w32 (of_z w32 c.in_ok-bound.bound) ≡ negated c.in-CutOff.value = search rules in
    subst (λ (b : ℤ). Refutes c.args.self.now (record { reply = c.in_ok-reply.reply; bound = b })) (sym bound)
    (refutes c.args.self.now c.in-CutOff.value c.in_ok-reply.reply c.requires.deep cut best c.reveal_invariant.ensures.back)
