use Rattle.std.proofs.Common.{◌∙◌}
use Rattle.shogi_core.specs.Codes.{code_of}
use Rattle.shogi_moves.proofs.LegalLaws.{is_legal_code_of}
use Rattle.shogi_moves.specs.After.{after}
use Rattle.shogi_replies.proofs.ReplyLaws.{quiet_legal}
use Rattle.last_ply.proofs.MateLaws.{answered_code}
use Rattle.last_ply.proofs.mates.MateSearch.mates_past.Goals as goal

pub returns-else-not-guarantees_reply-clause-if_none : goal.returns-else-not-guarantees_reply-clause-if_none
returns-else-not-guarantees_reply-clause-if_none c = λ _. answered_code c.args.self.now.frontier.node.now.position c.args.m.now c.reveal_invariant.ensures.back (is_legal_code_of c.args.self.now.frontier.node.now.position (code_of c.args.m.now) c.args.m.now c.reveal_invariant.ensures.back ∙ c.requires) (λ _. quiet_legal (after c.args.self.now.frontier.node.now.position c.args.m.now) (rw c.args.self.now.same at (c.guarantees_reply.ensures.replied c.if-not-guarantees_reply.false)))
