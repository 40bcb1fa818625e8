use Rattle.search_nodes.proofs.Nodes.{known_under}
use Rattle.search_nodes.proofs.frame.Frame.end_at.Goals as goal

pub invariant_of-self-clause-known : goal.invariant_of-self-clause-known
invariant_of-self-clause-known c = known_under _ _ _ _ _ _ _ _ _ c.args.self.now.state c.requires.asked c.args.self.now.known
