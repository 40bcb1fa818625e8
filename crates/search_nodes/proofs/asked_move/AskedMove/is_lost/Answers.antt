use Rattle.std.proofs.Common.{subst}
use Rattle.search_nodes.specs.declared.frame.Frame.{Frame}
use Rattle.search_nodes.specs.ReplyCache.{IsReplyCacheOf}
use Rattle.search_nodes.proofs.asked_move.AskedMove.is_lost.Goals as goal

pub returns-then-most_after-move_alpha-clause-found : goal.returns-then-most_after-move_alpha-clause-found
returns-then-most_after-move_alpha-clause-found c = subst (λ (f : Frame). IsReplyCacheOf f.node c.is_lost_under_threat.new.self.cache.now) c.is_lost_under_threat.ensures.unchanged.1.0 c.is_lost_under_threat.new.self.found

pub returns-clause-found : goal.returns-clause-found
returns-clause-found c = subst (λ (f : Frame). IsReplyCacheOf f.node c.has_reply.new.self.cache.now) c.has_reply.ensures.unchanged.1.0 c.has_reply.new.self.found
