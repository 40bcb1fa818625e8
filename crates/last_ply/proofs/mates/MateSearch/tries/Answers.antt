use Rattle.std.proofs.Common.{◌∙◌}
use Rattle.shogi_core.specs.Codes.{code_of}
use Rattle.shogi_moves.proofs.LegalLaws.{is_legal_code_of}
use Rattle.last_ply.proofs.MateLaws.{answered_code}
use Rattle.last_ply.proofs.mates.MateSearch.tries.Goals as goal

pub returns-then-leaves_way-clause-if_none : goal.returns-then-leaves_way-clause-if_none
returns-then-leaves_way-clause-if_none c = λ _. answered_code c.args.self.now.frontier.node.now.position c.args.m.now c.reveal_invariant.ensures.back (is_legal_code_of c.args.self.now.frontier.node.now.position (code_of c.args.m.now) c.args.m.now c.reveal_invariant.ensures.back ∙ c.requires) (c.leaves_way.ensures c.if-leaves_way.true)
