use Rattle.search_nodes.proofs.Nodes.{waits}
use Rattle.search_nodes.proofs.frame.Frame.move_alpha.Goals as goal

pub move_alpha_at-requires : goal.move_alpha_at-requires
move_alpha_at-requires c = record {
  deep = (waits _ _ _ _ _ _ _ _ _ _ c.requires.current c.args.self.now.known).deep;
  «open» = λ v e. rw e at c.requires.current;
}
