use Rattle.std.proofs.Common.{◌∙◌, subst, sym}
use Rattle.shogi_eval.specs.Evaluated.{Evaluated}
use Rattle.search_nodes.specs.ReplyCache.{IsReplyCacheOf}
use Rattle.search_nodes.proofs.pre_frontier.PreFrontier.prune_in_bulk.Goals as goal

pub invariant_of-self-2 : goal.invariant_of-self-2
invariant_of-self-2 c = record {
  last = c.turn_from.ensures.0.1.0 ∙ c.args.self.now.last;
  next = c.turn_from.ensures.1.0 ∙ c.args.self.now.next;
  found = subst (λ (n : Evaluated). IsReplyCacheOf n c.args.self.now.cache.now) (sym c.turn_from.ensures.0.0) c.args.self.now.found;
}

pub invariant_of-self-3 : goal.invariant_of-self-3
invariant_of-self-3 c = record {
  last = c.turn_from-2.ensures.0.1.0 ∙ c.prune_quiets.new.self.last;
  next = c.turn_from-2.ensures.1.0 ∙ c.prune_quiets.new.self.next;
  found = subst (λ (n : Evaluated). IsReplyCacheOf n c.prune_quiets.new.self.cache.now) (sym c.turn_from-2.ensures.0.0) c.prune_quiets.new.self.found;
}
