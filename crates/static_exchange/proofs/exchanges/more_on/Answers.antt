use Rattle.std.proofs.Common.{ℕ, refl, subst, arith}
use Rattle.shogi_eval.specs.Exchange.{captures_max}
use Rattle.static_exchange.specs.Reprisals.{WinsAtMostOn}
use Rattle.static_exchange.proofs.Won.{wins_more, wins_so_much, won_stands}
use Rattle.static_exchange.proofs.exchanges.more_on.Goals as goal

pub returns-in-None-clause-most : goal.returns-in-None-clause-most
returns-in-None-clause-most c = λ _.
    wins_more c.args.p.now c.args.square captures_max 0 c.args.floor (omega arith) (wins_so_much c.args.p.now c.args.square captures_max 0 (won_stands c.args.p.now c.args.square captures_max (c.in-None.ensures.if_none refl)))

pub returns-in-Some-clause-most : goal.returns-in-Some-clause-most
returns-in-Some-clause-most c = λ below.
    subst (λ (s : ℕ). WinsAtMostOn c.args.p.now s captures_max c.more_by.result) c.in-Some.ensures.square (c.more_by.ensures.most below c.args.p.now c.in-Some.ensures.some)

pub returns-in-Some-clause-won : goal.returns-in-Some-clause-won
returns-in-Some-clause-won c = c.more_by.ensures.won c.args.p.now c.in-Some.ensures.some c.requires.won
