use Rattle.std.proofs.Common.{◌∙◌, ap, arith, false, subst, sym}
use Rattle.shogi_core.specs.Position.{Shogi}
use Rattle.shogi_moves.specs.Escapes.{AreEscapes}
use Rattle.shogi_replies.specs.Passes.{IsGuaranteedMove, IsSkipped}
use Rattle.search_nodes.specs.declared.frame.Frame.{Frame}
use Rattle.search_nodes.specs.Changes.{left_of_frame}
use Rattle.search_nodes.specs.Frames.{AreFutileQuiets}
use Rattle.search_nodes.specs.Order.{IsAtQuiets, todo}
use Rattle.search_nodes.proofs.Passed.{left_passed, skipped_known}
use Rattle.search_nodes.proofs.pre_frontier.PreFrontier.prune_quiets.Goals as goal

pub at-known-requires-clause-escapes : goal.at-known-requires-clause-escapes
at-known-requires-clause-escapes c =
    subst (λ (q : Shogi). AreEscapes q c.in-Some-futile_quiets.escapes.bits) (sym (c.as_position.ensures ∙ ap (λ (f : Frame). f.node.position) c.futile_quiets.ensures.unchanged.1)) c.in-Some-futile_quiets.ensures.lost.are_escapes

pub invariant_of-frame-clause-known : goal.invariant_of-frame-clause-known
invariant_of-frame-clause-known c =
    let f : Frame = c.futile_quiets.new.self.frame.now in
    let at : IsAtQuiets f.picker c.in-Some.code = subst (λ (g : Frame). IsAtQuiets g.picker c.in-Some.code) (sym c.futile_quiets.ensures.unchanged.1) c.in-Some.ensures in
    let futile : AreFutileQuiets f c.in-Some-futile_quiets.filter c.in-Some-futile_quiets.escapes.bits c.in-Some.code = subst (λ (g : Frame). AreFutileQuiets g c.in-Some-futile_quiets.filter c.in-Some-futile_quiets.escapes.bits c.in-Some.code) (sym c.futile_quiets.ensures.unchanged.1) c.in-Some-futile_quiets.ensures.lost in
    let passed : IsSkipped (IsGuaranteedMove f.node.position false c.in-Some-futile_quiets.filter c.in-Some-futile_quiets.escapes.bits c.in-Some.code) (todo f.node.position f.picker) (todo f.node.position c.skip_quiets.new.self) = rw (c.at-known.ensures.position, c.at-known.ensures.escapes, c.as_position.ensures) at (c.skip_quiets.ensures.passed c.in-Some.code at) in
    skipped_known f (IsGuaranteedMove f.node.position false c.in-Some-futile_quiets.filter c.in-Some-futile_quiets.escapes.bits c.in-Some.code) c.skip_quiets.new.self c.futile_quiets.new.self.next futile.lost passed

pub returns-clause-pruned : goal.returns-clause-pruned
returns-clause-pruned c =
    let f : Frame = c.futile_quiets.new.self.frame.now in
    let same : _ = c.futile_quiets.ensures.unchanged.1 in
    let at : IsAtQuiets f.picker c.in-Some.code = subst (λ (g : Frame). IsAtQuiets g.picker c.in-Some.code) (sym same) c.in-Some.ensures in
    let passed : IsSkipped (IsGuaranteedMove f.node.position false c.in-Some-futile_quiets.filter c.in-Some-futile_quiets.escapes.bits c.in-Some.code) (todo f.node.position f.picker) (todo f.node.position c.skip_quiets.new.self) = rw (c.at-known.ensures.position, c.at-known.ensures.escapes, c.as_position.ensures) at (c.skip_quiets.ensures.passed c.in-Some.code at) in (
      (ap (λ (g : Frame). g.node) same, (ap (λ (g : Frame). g.depth) same, (ap (λ (g : Frame). g.alpha) same, ap (λ (g : Frame). g.beta) same))),
      (ap (λ (g : Frame). g.state) same, omega (arith, left_passed f c.skip_quiets.new.self (IsGuaranteedMove f.node.position false c.in-Some-futile_quiets.filter c.in-Some-futile_quiets.escapes.bits c.in-Some.code) passed, ap left_of_frame same)),
    )
