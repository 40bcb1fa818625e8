use Rattle.std.proofs.Common.{arith, refl, subst, ap, ◌≡◌, ◌∙◌}
use Rattle.std.proofs.lemmas.Int.{ints}
use Rattle.shogi_core.specs.declared.moves.Move.TheVariants as moves
use Rattle.shogi_core.specs.Validity.{IsValid}
use Rattle.shogi_eval.specs.declared.eval.Eval.{Eval}
use Rattle.shogi_eval.specs.Material.{drop_gain}
use Rattle.shogi_eval.proofs.Bounds.{material_bounds}
use Rattle.shogi_eval.proofs.Gains.{material_at_drop}
use Rattle.shogi_eval.proofs.node.Node.score_after_drop.Goals as goal

pub returns : goal.returns
returns c to fits legal =
    let valid : IsValid c.args.self.now.position = subst IsValid c.as_position-p.ensures c.reveal_invariant.ensures in
    let b : _ = material_bounds c.args.self.now.position c.args.self.now.eval valid in
    let law : _ = material_at_drop c.args.self.now.position c.args.self.now.eval (moves.Drop c.args.kind to) c.args.kind to refl valid fits legal in
    let gain : c.drop_gain.result ≡ drop_gain c.args.self.now.eval c.args.kind = c.drop_gain.ensures.value ∙ ap (λ (e : Eval). drop_gain e c.args.kind) c.eval.ensures in
    omega (arith, ints, b.0, b.1, c.score.ensures.value, law, gain)
