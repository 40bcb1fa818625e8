use Rattle.std.proofs.Common.{arith}
use Rattle.shogi_eval.specs.Exchange.{captures_max}
use Rattle.static_exchange.proofs.Won.{wins_more, won_so_much}
use Rattle.static_exchange.proofs.exchanges.more_by.Goals as goal

pub returns-then-most-floor-clause-most : goal.returns-then-most-floor-clause-most
returns-then-most-floor-clause-most c = λ _ p e.
    wins_more p c.args.x.now.square captures_max c.most.result c.args.floor c.if-most-floor.true (c.most.ensures.most p captures_max e)

pub returns-then-won-floor-clause-most : goal.returns-then-won-floor-clause-most
returns-then-won-floor-clause-most c = λ _ p e.
    wins_more p c.args.x.now.square captures_max c.won_on-won.result c.args.floor c.if-won-floor.true (c.won_on-won.ensures.most (omega (arith, c.if-won-floor.true, c.requires.window)) p e)

pub returns-clause-won : goal.returns-clause-won
returns-clause-won c = λ p e _.
    won_so_much p c.args.x.now.square c.won_on-won.result c.reveal_invariant.ensures (c.won_on-won.ensures.least c.if-won-floor.false p e)
