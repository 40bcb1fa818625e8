use Rattle.std.proofs.Common.{rules}
use Rattle.analogous_moves.proofs.PassedReplyLaws.{captures_above_sifted}
use Rattle.analogous_moves.proofs.passed_reply.captures_above.Goals as goal

pub returns : goal.returns
returns c = captures_above_sifted c.args.board.now c.args.side c.args.eval c.args.most c.own-foes.result.bits c.sift.result.bits _ (rw c.opponent.ensures at c.own-foes.ensures.squares) (λ n b low p. search rules) c.sift.ensures.sifted
