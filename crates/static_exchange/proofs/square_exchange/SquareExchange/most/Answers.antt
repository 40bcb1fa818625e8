use Rattle.std.proofs.Common.{◌∙◌, ◌+◌, ℕ, ap, sym, subst}
use Rattle.shogi_eval.specs.declared.eval.Eval.TheVariants.{Exchange}
use Rattle.shogi_eval.specs.declared.gain.TheConstants.{PROMOTION_GAIN_MAX}
use Rattle.shogi_eval.specs.Material.{taken_gain}
use Rattle.static_exchange.specs.Reprisals.{WinsAtMostOn}
use Rattle.static_exchange.proofs.Won.{won_most}
use Rattle.static_exchange.proofs.square_exchange.SquareExchange.most.Goals as goal

pub returns-clause-most : goal.returns-clause-most
returns-clause-most c = λ p n e.
    subst (λ (v : ℕ). WinsAtMostOn p c.args.self.now.square n (v + PROMOTION_GAIN_MAX)) (sym (c.taken_gain.ensures.value ∙ ap (taken_gain Exchange) (sym e.stands)))
    (won_most p c.args.self.now.square n e.valid c.reveal_invariant.ensures)
