use Rattle.std.proofs.Common.{sym, subst}
use Rattle.shogi_core.specs.declared.moves.Move.TheVariants.{Board}
use Rattle.shogi_core.specs.Position.{Shogi}
use Rattle.shogi_moves.specs.After.{after}
use Rattle.static_exchange.specs.Reprisals.{IsWonAtLeast}
use Rattle.static_exchange.proofs.Won.{wins_nothing, won_less}
use Rattle.static_exchange.proofs.exchanges.best_won.Goals as goal

pub returns-then-enough-eq0-clause-enough : goal.returns-then-enough-eq0-clause-enough
returns-then-enough-eq0-clause-enough c =
    let q : Shogi = after c.args.p.now (Board c.args.from c.args.to c.args.promote) in
    λ h. won_less q c.args.enough 0 h (wins_nothing q)

pub returns-then-there-enough-clause-enough : goal.returns-then-there-enough-clause-enough
returns-then-there-enough-clause-enough c =
    let q : Shogi = after c.args.p.now (Board c.args.from c.args.to c.args.promote) in
    λ h. won_less q c.args.enough c.more_by-there.result h (c.more_by-there.ensures.won q c.after_move.ensures.exchange (wins_nothing q))

pub won_elsewhere-requires-clause-won : goal.won_elsewhere-requires-clause-won
won_elsewhere-requires-clause-won c =
    let q : Shogi = after c.args.p.now (Board c.args.from c.args.to c.args.promote) in
    subst (λ (r : Shogi). IsWonAtLeast r c.more_by-there.result) (sym c.apply-next.ensures.after) (c.more_by-there.ensures.won q c.after_move.ensures.exchange (wins_nothing q))
