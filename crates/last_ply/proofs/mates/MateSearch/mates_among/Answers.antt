use Rattle.std.proofs.Common.{sym, ◌∙◌}
use Rattle.shogi_core.specs.Codes.{code_of}
use Rattle.shogi_moves.proofs.LegalLaws.{is_legal_code_of}
use Rattle.last_ply.proofs.mates.MateSearch.mates_among.Goals as goal

pub tries-requires : goal.tries-requires
tries-requires c = sym (is_legal_code_of c.args.self.now.frontier.node.now.position (code_of c.to-m.result) c.to-m.result c.reveal_invariant.ensures.back) ∙ rw c.to-m.ensures (c.requires c.in-Some.to c.in-Some.ensures.some.range (c.ends.invariant.within _ c.in-Some.ensures.some.set))
