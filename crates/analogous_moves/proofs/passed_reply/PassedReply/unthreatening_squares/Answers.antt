use Rattle.std.proofs.Common.{rules, Some}
use Rattle.analogous_moves.specs.PassedReplies.{IsUnthreateningIn}
use Rattle.analogous_moves.proofs.Sets.{sifted_among, sifted_fact}
use Rattle.analogous_moves.proofs.passed_reply.PassedReply.unthreatening_squares.Goals as goal

pub returns-clause-among : goal.returns-clause-among
returns-clause-among c = sifted_among _ c.args.squares.bits c.sift.result.bits c.sift.result.fits c.sift.ensures.sifted

pub returns-clause-unthreatening : goal.returns-clause-unthreatening
returns-clause-unthreatening c = sifted_fact _ c.args.squares.bits c.sift.result.bits (IsUnthreateningIn c.args.self.now (Some c.args.piece)) c.sift.ensures.sifted (λ n p. search rules)
