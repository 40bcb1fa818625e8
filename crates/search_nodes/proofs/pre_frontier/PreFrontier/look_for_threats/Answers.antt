use Rattle.search_nodes.proofs.pre_frontier.PreFrontier.look_for_threats.Goals as goal

pub invariant_of-self-clause-found : goal.invariant_of-self-clause-found
invariant_of-self-clause-found c = c.look_ahead.ensures (c.look_for_threats.ensures c.args.self.now.found)

pub invariant_of-self-else-is_some-clause-found : goal.invariant_of-self-else-is_some-clause-found
invariant_of-self-else-is_some-clause-found c = c.look_for_threats.ensures c.args.self.now.found
