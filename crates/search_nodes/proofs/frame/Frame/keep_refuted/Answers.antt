use Rattle.std.proofs.Common.{◌-◌}
use Rattle.search_nodes.specs.declared.frame.Frame.{Frame}
use Rattle.search_nodes.proofs.frame.Frame.keep_refuted.Goals as goal

pub invariant_of-self-clause-refuted : goal.invariant_of-self-clause-refuted
invariant_of-self-clause-refuted c =
    let f : Frame = c.args.self.now in
    c.keep.ensures f.node.position f.node.eval (f.depth - 2) (c.kept_of-kept.ensures f.node.position f.node.eval f.depth f.refuted) c.requires
