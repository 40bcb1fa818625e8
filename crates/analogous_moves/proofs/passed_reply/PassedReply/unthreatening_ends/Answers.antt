use Rattle.std.proofs.Common.{◌≡◌, true, ◌∙◌}
use Rattle.shogi_core.specs.Bits.{has_bit}
use Rattle.shogi_core.proofs.Sifting.{still_left}
use Rattle.analogous_moves.proofs.PassedReplyLaws.{AreUnthreateningEndsFrom}
use Rattle.analogous_moves.proofs.Sets.{one_more}
use Rattle.analogous_moves.proofs.passed_reply.PassedReply.unthreatening_ends.Goals as goal

pub pieces-preserved : goal.pieces-preserved
pieces-preserved c = record {
  fine = one_more (λ n. has_bit c.args.pieces.bits n ≡ true) c.pieces.left c.next.new.self c.in-Some.from (AreUnthreateningEndsFrom c.args.self.now c.args.before.now.cells c.pieces.kept.bits) (AreUnthreateningEndsFrom c.args.self.now c.args.before.now.cells c.unthreatening_ends_of-kept.result.bits)
      c.pieces.invariant.fine c.in-Some.ensures.some.rest (λ n unthreatening to h on led. unthreatening to h (c.unthreatening_ends_of-kept.ensures.among to on) led)
      (λ to h on led. c.unthreatening_ends_of-kept.ensures.unthreatening to h on ((rw c.as_board.ensures at c.targets.ensures.squares) to h ∙ led));
  among = λ n on. c.pieces.invariant.among n (c.unthreatening_ends_of-kept.ensures.among n on);
  within = λ n on. c.pieces.invariant.within n (still_left c.pieces.left c.next.new.self c.in-Some.from n c.in-Some.ensures.some.rest on);
}
