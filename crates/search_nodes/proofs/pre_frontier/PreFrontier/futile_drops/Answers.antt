use Rattle.std.proofs.Common.{FitsSigned, bit_or, rules, subst, w32}
use Rattle.std.proofs.lemmas.Int.{to_z-of_z}
use Rattle.search_nodes.specs.declared.frame.Frame.{Frame}
use Rattle.search_nodes.specs.Frames.{DropsFailLow, DropFailsLow}
use Rattle.search_nodes.proofs.Rows.{drops_of_either, material_drops}
use Rattle.search_nodes.proofs.pre_frontier.PreFrontier.futile_drops.Goals as goal

pub returns-then-drop_fails_low-clause-lost : goal.returns-then-drop_fails_low-clause-lost
returns-then-drop_fails_low-clause-lost c =
    let f : Frame = c.args.self.now.frame.now in
    let fits : FitsSigned w32 c.loss_after-loss.result = search rules in
    material_drops f c.args.kind _ _ c.args.code c.loss_after-loss.result c.args.self.now.last c.loss_after-loss.ensures.least c.loss_after-loss.ensures.loss
    (subst (DropFailsLow f c.args.kind c.args.code) (to_z-of_z w32 c.loss_after-loss.result fits) (c.drop_fails_low.ensures c.if-drop_fails_low.true))

pub returns-then-drop_fails_low-clause-escapes : goal.returns-then-drop_fails_low-clause-escapes
returns-then-drop_fails_low-clause-escapes c = c.known_escapes.ensures c.args.self.now.frame.now.node c.args.self.now.found

pub returns-clause-lost : goal.returns-clause-lost
returns-clause-lost c =
    let g : Frame = c.look_for_threats.new.self.frame.now in
    let either : DropsFailLow g c.args.kind (bit_or c.futile_squares_if_taken-taken.result.bits c.futile_squares_under_threat.result.bits) 0 c.args.code = drops_of_either g c.args.kind c.futile_squares_if_taken-taken.result.bits c.futile_squares_under_threat.result.bits 0 c.args.code c.futile_squares_if_taken-taken.ensures c.futile_squares_under_threat.ensures in
    subst (λ (x : Frame). DropsFailLow x c.args.kind c.bitor.result.bits c.none.result.bits c.args.code) c.look_for_threats.ensures.1 (rw c.bitor.ensures (rw c.none.ensures either))
