use Rattle.std.proofs.Common.{◌≡◌, ◌∙◌, ap, arith, subst, sym}
use Rattle.shogi_core.specs.Position.{Shogi}
use Rattle.shogi_moves.specs.Escapes.{AreEscapes}
use Rattle.shogi_replies.specs.Passes.{IsGuaranteedDrop, IsSkipped}
use Rattle.search_nodes.specs.declared.frame.Frame.{Frame}
use Rattle.search_nodes.specs.Changes.{left_of_frame}
use Rattle.search_nodes.specs.Frames.{DropsFailLow}
use Rattle.search_nodes.specs.Order.{IsAtDrops, todo}
use Rattle.search_nodes.proofs.Passed.{left_passed, skipped_known}
use Rattle.search_nodes.proofs.pre_frontier.PreFrontier.prune_kind.Goals as goal

pub at-known-requires-clause-escapes : goal.at-known-requires-clause-escapes
at-known-requires-clause-escapes c =
    subst (λ (q : Shogi). AreEscapes q c.futile_drops.result.1.bits) (sym (c.as_position.ensures ∙ ap (λ (f : Frame). f.node.position) c.futile_drops.ensures.unchanged.1)) c.futile_drops.ensures.escapes

pub invariant_of-frame-clause-known : goal.invariant_of-frame-clause-known
invariant_of-frame-clause-known c =
    let f : Frame = c.futile_drops.new.self.frame.now in
    let at : IsAtDrops f.picker c.in-Some.kind c.in-Some.code = subst (λ (g : Frame). IsAtDrops g.picker c.in-Some.kind c.in-Some.code) (sym c.futile_drops.ensures.unchanged.1) c.in-Some.ensures in
    let lost : DropsFailLow f c.in-Some.kind c.futile_drops.result.0.bits c.futile_drops.result.1.bits c.in-Some.code = subst (λ (g : Frame). DropsFailLow g c.in-Some.kind c.futile_drops.result.0.bits c.futile_drops.result.1.bits c.in-Some.code) (sym c.futile_drops.ensures.unchanged.1) c.futile_drops.ensures.lost in
    let passed : IsSkipped (IsGuaranteedDrop f.node.position c.in-Some.kind c.futile_drops.result.0.bits c.futile_drops.result.1.bits c.in-Some.code) (todo f.node.position f.picker) (todo f.node.position c.skip_drops.new.self) = rw (c.at-known.ensures.position, c.at-known.ensures.escapes, c.as_position.ensures) at (c.skip_drops.ensures.passed c.in-Some.kind c.in-Some.code at) in
    let turned : todo f.node.position c.turn_to_kind.new.self ≡ todo f.node.position c.skip_drops.new.self = rw c.as_position-2.ensures at c.turn_to_kind.ensures.unchanged in
    rw turned (skipped_known f (IsGuaranteedDrop f.node.position c.in-Some.kind c.futile_drops.result.0.bits c.futile_drops.result.1.bits c.in-Some.code) c.skip_drops.new.self c.futile_drops.new.self.next lost passed)

pub returns-clause-pruned : goal.returns-clause-pruned
returns-clause-pruned c =
    let f : Frame = c.futile_drops.new.self.frame.now in
    let same : _ = c.futile_drops.ensures.unchanged.1 in
    let at : IsAtDrops f.picker c.in-Some.kind c.in-Some.code = subst (λ (g : Frame). IsAtDrops g.picker c.in-Some.kind c.in-Some.code) (sym same) c.in-Some.ensures in
    let passed : IsSkipped (IsGuaranteedDrop f.node.position c.in-Some.kind c.futile_drops.result.0.bits c.futile_drops.result.1.bits c.in-Some.code) (todo f.node.position f.picker) (todo f.node.position c.skip_drops.new.self) = rw (c.at-known.ensures.position, c.at-known.ensures.escapes, c.as_position.ensures) at (c.skip_drops.ensures.passed c.in-Some.kind c.in-Some.code at) in
    let turned : todo f.node.position c.turn_to_kind.new.self ≡ todo f.node.position c.skip_drops.new.self = rw c.as_position-2.ensures at c.turn_to_kind.ensures.unchanged in
    rw turned (
      (ap (λ (g : Frame). g.node) same, (ap (λ (g : Frame). g.depth) same, (ap (λ (g : Frame). g.alpha) same, ap (λ (g : Frame). g.beta) same))),
      (ap (λ (g : Frame). g.state) same, omega (arith, left_passed f c.skip_drops.new.self (IsGuaranteedDrop f.node.position c.in-Some.kind c.futile_drops.result.0.bits c.futile_drops.result.1.bits c.in-Some.code) passed, ap left_of_frame same)),
    )
