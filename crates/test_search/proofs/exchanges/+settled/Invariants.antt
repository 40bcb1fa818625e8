use Rattle.test_search.proofs.exchanges.+settled.Given as goal

abbrev pub decreases-settled : goal.decreases-settled
decreases-settled l = l.captures
