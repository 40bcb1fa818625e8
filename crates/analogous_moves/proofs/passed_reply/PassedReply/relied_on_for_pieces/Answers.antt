use Rattle.std.proofs.Common.{bit_or}
use Rattle.analogous_moves.specs.PassedReplies.{IsOwnIn, PieceHasNoThreatIn, PieceGetsNoThreatsIn, place_in}
use Rattle.analogous_moves.proofs.PassedReplyLaws.{no_threat_next, off_left, off_right}
use Rattle.analogous_moves.proofs.Sets.{one_more}
use Rattle.analogous_moves.proofs.passed_reply.PassedReply.relied_on_for_pieces.Goals as goal

pub pieces-preserved : goal.pieces-preserved
pieces-preserved c =
    let more = no_threat_next c.args.self.now.quiet_only (place_in c.args.self.now) c.args.self.now.node.eval c.args.self.now.gains c.args.self.now.king c.args.self.now.squares.bits c.pieces.kept_empty.bits c.in_ok-relied.relied.empty.bits in
    rw (c.bitor-pieces.ensures, c.bitor-kept_empty.ensures) (record {
      no_threat = one_more (IsOwnIn c.args.self.now) c.pieces.left c.next.new.self c.in-Some.from (PieceHasNoThreatIn c.args.self.now c.pieces.kept_empty.bits) (PieceHasNoThreatIn c.args.self.now (bit_or c.pieces.kept_empty.bits c.in_ok-relied.relied.empty.bits))
          c.pieces.invariant.no_threat c.in-Some.ensures.some.rest more.0 (more.1 c.in-Some.from c.in_ok-relied.ensures.no_threat);
      relied = one_more (IsOwnIn c.args.self.now) c.pieces.left c.next.new.self c.in-Some.from (λ n. PieceGetsNoThreatsIn c.args.self.now n c.pieces.pieces.bits) (λ n. PieceGetsNoThreatsIn c.args.self.now n (bit_or c.pieces.pieces.bits c.in_ok-relied.relied.pieces.bits))
          c.pieces.invariant.relied c.in-Some.ensures.some.rest (λ n lets a h out. lets a h (off_left c.pieces.pieces.bits c.in_ok-relied.relied.pieces.bits a out)) (λ a h out. c.in_ok-relied.ensures.relied a h (off_right c.pieces.pieces.bits c.in_ok-relied.relied.pieces.bits a out));
    })
