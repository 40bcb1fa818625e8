use Rattle.minimax.proofs.Cover.{IsCovered-start}
use Rattle.search_nodes.proofs.frame.FrameDefault.default.Goals as goal

pub invariant_of-result-clause-known : goal.invariant_of-result-clause-known
invariant_of-result-clause-known c = IsCovered-start _ _ _
