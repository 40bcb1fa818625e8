use Rattle.std.proofs.Common.{FitsSigned, rules, subst, sym, w32}
use Rattle.std.proofs.lemmas.Int.{to_z-of_z}
use Rattle.search_nodes.specs.declared.frame.Frame.{Frame}
use Rattle.search_nodes.specs.Frames.{MovesLeave}
use Rattle.search_nodes.proofs.Rows.{material_leaves}
use Rattle.search_nodes.proofs.pre_frontier.PreFrontier.futile_quiets.Goals as goal

pub returns-then-is_some-clause-lost : goal.returns-then-is_some-clause-lost
returns-then-is_some-clause-lost c =
    let f : Frame = c.args.self.now.frame.now in
    let fits : FitsSigned w32 c.loss_after-loss.result = search rules in
    c.futile_filter-filter.ensures
    (subst (λ x. MovesLeave f x c.all-all.result.bits c.all-all.result.bits c.known_escapes-escapes.result.bits) (sym (to_z-of_z w32 c.loss_after-loss.result fits))
    (material_leaves f c.loss_after-loss.result c.all-all.result.bits c.all-all.result.bits c.known_escapes-escapes.result.bits c.loss_after-loss.ensures.least c.loss_after-loss.ensures.loss))
    (c.known_escapes-escapes.ensures f.node c.args.self.now.found)
