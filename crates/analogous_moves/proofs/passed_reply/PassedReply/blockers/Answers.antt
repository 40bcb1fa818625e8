use Rattle.std.proofs.Common.{rules, ap, ◌∙◌}
use Rattle.std.proofs.lemmas.Bool.{and_from}
use Rattle.shogi_core.specs.Bits.{has_bit}
use Rattle.shogi_core.proofs.BitLaws.{has_bit-and}
use Rattle.analogous_moves.specs.PassedReplies.{IsOwnIn, PieceGetsNoThreatIn}
use Rattle.analogous_moves.proofs.Sets.{sifted_rest}
use Rattle.analogous_moves.proofs.passed_reply.PassedReply.blockers.Goals as goal

pub returns : goal.returns
returns c = λ a h led out mine.
    sifted_rest _ c.bitand.result.bits c.sift.result.bits (λ n. IsOwnIn c.args.self.now n → PieceGetsNoThreatIn c.args.self.now c.args.from n) c.sift.ensures.sifted (λ n p. search rules) a h
    (ap (λ m. has_bit m a) c.bitand.ensures ∙ (has_bit-and c.args.targets.bits c.own-own.result.bits a ∙ and_from _ _ led ((rw c.side.ensures at c.own-own.ensures.squares) a h ∙ mine))) out mine
