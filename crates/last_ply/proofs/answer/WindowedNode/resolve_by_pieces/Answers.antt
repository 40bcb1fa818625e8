use Rattle.std.proofs.Common.{arith, subst, ℤ, ◌<ℤ◌, FitsSigned, inl, rules, w32}
use Rattle.std.proofs.lemmas.Int.{ints}
use Rattle.last_ply.specs.LastPly.{NodeHasScore, IsNoLoss}
use Rattle.last_ply.proofs.Held.{as_held}
use Rattle.last_ply.proofs.answer.WindowedNode.resolve_by_pieces.Goals as goal
use Rattle.last_ply.proofs.answer.WindowedNode.resolve_by_pieces.Goals.{else-base-self-via-then-base-self+then-most-base+else-not-has_quiet_move, else-base-self-via-then-base-self+else-most-base, else-base-self-via-else-base-self}

pub resolve-requires-clause-lost : goal.resolve-requires-clause-lost
resolve-requires-clause-lost c =
    let fits : FitsSigned w32 c.best_score-most.result = search rules in
    as_held (IsNoLoss c.args.self.now.frontier.now.node.now.position) c.best_score-most.result fits (inl (omega (arith, ints, c.best_score-most.ensures.base, c.score-base.ensures)))

pub resolve-requires-clause-some : goal.resolve-requires-clause-some
resolve-requires-clause-some c =
    let node = c.args.self.now.frontier.now.node.now in
    let fits : FitsSigned w32 c.best_score-most.result = search rules in
    as_held (λ (v : ℤ). c.args.self.now.alpha <ℤ v → NodeHasScore node v) c.best_score-most.result fits (λ above. elim c.else-base-self.branch [
      | else-base-self-via-then-base-self+then-most-base+else-not-has_quiet_move w ↦ subst (NodeHasScore node) (omega (arith, ints, c.score-base.ensures.value, c.best_score-most.ensures.base, w.if-most-base.true)) (w.has_quiet_move.ensures w.if-not-has_quiet_move.false)
      | else-base-self-via-then-base-self+else-most-base w ↦ c.best_score-most.ensures.some (omega (arith, ints, above)) (omega (arith, ints, c.score-base.ensures.value, w.if-most-base.false))
      | else-base-self-via-else-base-self w ↦ c.best_score-most.ensures.some (omega (arith, ints, above)) (omega (arith, ints, c.score-base.ensures.value, w.if-base-self.false, above))
    ])
