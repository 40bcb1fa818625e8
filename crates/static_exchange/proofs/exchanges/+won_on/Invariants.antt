use Rattle.static_exchange.proofs.exchanges.+won_on.Given as goal

abbrev pub decreases-won_on : goal.decreases-won_on
decreases-won_on l = l.n
