use Rattle.std.proofs.Common.{pos, arith}
use Rattle.std.proofs.lemmas.Int.{ints}
use Rattle.shogi_eval.specs.declared.eval.Eval.TheVariants.{Hand}
use Rattle.shogi_eval.specs.Losses.{KindLosesAtMost}
use Rattle.shogi_eval.proofs.ByKind.{by_kind}
use Rattle.shogi_eval.proofs.losses.loss_of_hand.Goals as goal

-- each later step keeps the loss of the kinds before
pub returns-clause-loss : goal.returns-clause-loss
returns-clause-loss c = by_kind (KindLosesAtMost c.args.p.now.hands c.args.side Hand (pos c.with_loss_of_kind.result))
    (λ held. omega (arith, ints, c.with_loss_of_kind-loss.ensures.loss held, c.with_loss_of_kind-loss-2.ensures.kept, c.with_loss_of_kind-loss-3.ensures.kept, c.with_loss_of_kind-loss-4.ensures.kept, c.with_loss_of_kind-loss-5.ensures.kept, c.with_loss_of_kind-loss-6.ensures.kept, c.with_loss_of_kind.ensures.kept))
    (λ held. omega (arith, ints, c.with_loss_of_kind-loss-2.ensures.loss held, c.with_loss_of_kind-loss-3.ensures.kept, c.with_loss_of_kind-loss-4.ensures.kept, c.with_loss_of_kind-loss-5.ensures.kept, c.with_loss_of_kind-loss-6.ensures.kept, c.with_loss_of_kind.ensures.kept))
    (λ held. omega (arith, ints, c.with_loss_of_kind-loss-3.ensures.loss held, c.with_loss_of_kind-loss-4.ensures.kept, c.with_loss_of_kind-loss-5.ensures.kept, c.with_loss_of_kind-loss-6.ensures.kept, c.with_loss_of_kind.ensures.kept))
    (λ held. omega (arith, ints, c.with_loss_of_kind-loss-4.ensures.loss held, c.with_loss_of_kind-loss-5.ensures.kept, c.with_loss_of_kind-loss-6.ensures.kept, c.with_loss_of_kind.ensures.kept))
    (λ held. omega (arith, ints, c.with_loss_of_kind-loss-5.ensures.loss held, c.with_loss_of_kind-loss-6.ensures.kept, c.with_loss_of_kind.ensures.kept))
    (λ held. omega (arith, ints, c.with_loss_of_kind-loss-6.ensures.loss held, c.with_loss_of_kind.ensures.kept))
    (λ held. omega (arith, ints, c.with_loss_of_kind.ensures.loss held))
