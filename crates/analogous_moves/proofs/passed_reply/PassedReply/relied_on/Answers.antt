use Rattle.std.proofs.Common.{◌≡◌, ℕ, false}
use Rattle.shogi_core.specs.Bits.{has_bit}
use Rattle.analogous_moves.specs.Analogies.{HasNoThreats}
use Rattle.analogous_moves.specs.PassedReplies.{place_in}
use Rattle.analogous_moves.proofs.Lifting.{lift_no_threats}
use Rattle.analogous_moves.proofs.PassedReplyLaws.{off_left, off_right}
use Rattle.analogous_moves.proofs.passed_reply.PassedReply.relied_on.Goals as goal

pub returns-clause-no_threats : goal.returns-clause-no_threats
returns-clause-no_threats c = record {
  king_replies = c.args.self.now.has_replies;
  pieces = c.in_ok-relied.ensures.no_threat;
  kinds = c.in_ok-kinds.ensures.no_threat;
}

pub returns-clause-relied : goal.returns-clause-relied
returns-clause-relied c =
    let no_threats : HasNoThreats c.args.self.now.quiet_only (place_in c.args.self.now) c.args.self.now.node.eval c.args.self.now.gains c.args.self.now.king c.args.self.now.squares.bits c.in_ok-relied.relied.empty.bits = record {
      king_replies = c.args.self.now.has_replies;
      pieces = c.in_ok-relied.ensures.no_threat;
      kinds = c.in_ok-kinds.ensures.no_threat;
    } in
    let three : (a : ℕ) → has_bit c.bitor-3.result.bits a ≡ false → has_bit c.bitor-2.result.bits a ≡ false = λ a out. off_left c.bitor-2.result.bits c.open_lines.result.bits a (rw c.bitor-3.ensures at out) in
    let two : (a : ℕ) → has_bit c.bitor-3.result.bits a ≡ false → has_bit c.bitor.result.bits a ≡ false = λ a out. off_left c.bitor.result.bits c.in_ok-kinds.kinds.bits a (rw c.bitor-2.ensures at (three a out)) in
    let seen : (a : ℕ) → has_bit c.bitor-3.result.bits a ≡ false → has_bit c.open_lines.result.bits a ≡ false = λ a out. off_right c.bitor-2.result.bits c.open_lines.result.bits a (rw c.bitor-3.ensures at out) in
    record {
      no_threats = λ a h own out. lift_no_threats c.args.self.now.quiet_only (place_in c.args.self.now) c.args.self.now.node.eval c.args.self.now.gains c.args.self.now.king c.args.self.now.squares.bits c.in_ok-relied.relied.empty.bits a h own
          (off_right c.in_ok-relied.relied.pieces.bits c.in_ok-relied.relied.empty.bits a (rw c.bitor.ensures at (two a out))) no_threats (c.open_lines.ensures a h (seen a out))
          (λ from hf mine. c.in_ok-relied.ensures.relied from hf mine a h (off_left c.in_ok-relied.relied.pieces.bits c.in_ok-relied.relied.empty.bits a (rw c.bitor.ensures at (two a out))) own)
          (λ kind relied. c.in_ok-kinds.ensures.relied kind relied a h (off_right c.bitor.result.bits c.in_ok-kinds.kinds.bits a (rw c.bitor-2.ensures at (three a out))));
      off_open_lines = λ a h out. c.open_lines.ensures a h (seen a out);
    }
