use Rattle.minimax.proofs.Cover.{IsCovered-skip}
use Rattle.search_nodes.proofs.Nodes.{has_current, waits, at_depth}
use Rattle.search_nodes.proofs.frame.Frame.fail_low.Goals as goal

pub invariant_of-self-clause-known : goal.invariant_of-self-clause-known
invariant_of-self-clause-known c =
    let k : _ = has_current c.args.self.now.state _ c.requires in
    let w : _ = waits _ _ _ _ _ _ _ _ _ _ k.is c.args.self.now.known in
    at_depth _ _ _ _ _ _ _ w.deep (IsCovered-skip _ _ _ _ _ _ _ w.covered k.has)
