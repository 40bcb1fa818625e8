use Rattle.std.proofs.Common.{rules}
use Rattle.analogous_moves.specs.PassedReplies.{place_in}
use Rattle.analogous_moves.proofs.PassedReplyLaws.{all_seen}
use Rattle.analogous_moves.proofs.passed_reply.PassedReply.open_lines.Goals as goal

pub returns : goal.returns
returns c = rw c.bitor.ensures (all_seen (place_in c.args.self.now) c.args.self.now.kingless c.args.self.now.king c.args.self.now.squares.bits c.union-seen.result.bits c.open_lines.result.bits _ c.args.self.now.is_kingless (λ k led low p. search rules) c.union-seen.ensures.union c.open_lines.ensures.squares)
