use Rattle.std.proofs.Common.{◌≡◌, true, bit_or}
use Rattle.shogi_core.specs.Bits.{has_bit}
use Rattle.analogous_moves.specs.Analogies.{ExposesOwnKing}
use Rattle.analogous_moves.specs.PassedReplies.{place_in}
use Rattle.analogous_moves.proofs.PassedReplyLaws.{exposes_next}
use Rattle.analogous_moves.proofs.Sets.{one_more}
use Rattle.analogous_moves.proofs.passed_reply.PassedReply.attacker_paths.Goals as goal

pub ends-preserved : goal.ends-preserved
ends-preserved c =
    let more = exposes_next (place_in c.args.self.now) c.args.from c.ends.kept_empty.bits c.in_ok-attacker_path.field-0.bits in
    rw c.bitor-kept_empty.ensures (one_more (λ n. has_bit c.args.ends.bits n ≡ true) c.ends.left c.next.new.self c.in-Some.to
    (ExposesOwnKing (place_in c.args.self.now) c.ends.kept_empty.bits c.args.from) (ExposesOwnKing (place_in c.args.self.now) (bit_or c.ends.kept_empty.bits c.in_ok-attacker_path.field-0.bits) c.args.from)
    c.ends.invariant c.in-Some.ensures.some.rest more.0 (more.1 c.in-Some.to c.in_ok-attacker_path.ensures))
