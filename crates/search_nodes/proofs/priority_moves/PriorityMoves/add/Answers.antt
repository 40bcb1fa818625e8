use Rattle.std.proofs.Common.{arith, ◌∙◌, sym}
use Rattle.search_nodes.proofs.FirstLaws.{added}
use Rattle.search_nodes.proofs.priority_moves.PriorityMoves.add.Goals as goal

pub invariant_of-self : goal.invariant_of-self
invariant_of-self c = record {
  fits = omega arith;
  distinct = added c.args.self.now.codes c.args.self.now.len c.args.code (omega arith) c.args.self.now.distinct (sym c.has.ensures ∙ c.if-has.false);
}
