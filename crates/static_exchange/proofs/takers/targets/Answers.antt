use Rattle.std.proofs.Common.{rules, ℕ, sym, ap, ◌∙◌}
use Rattle.shogi_core.specs.Bits.{has_bit}
use Rattle.static_exchange.proofs.Cheapest.{untaken}
use Rattle.static_exchange.proofs.takers.targets.Goals as goal

pub returns : goal.returns
returns c = λ s h out.
    untaken c.args.p.now c.own.result.bits c.takers-movers.result.bits c.own-2.result.bits c.union-reached.result.bits s _ c.reveal_invariant.ensures h
    (rw (c.as_board-board.ensures, c.side.ensures) at c.own.ensures.squares) c.takers-movers.ensures.if_none (rw (c.as_board-board.ensures, c.opponent.ensures, c.side-2.ensures) at c.own-2.ensures.squares)
    (λ k led low q. search rules) c.union-reached.ensures.union
    (sym (ap (λ (m : ℕ). has_bit m s) c.bitand.ensures) ∙ out)
