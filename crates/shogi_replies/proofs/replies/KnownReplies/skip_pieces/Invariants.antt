use Rattle.std.proofs.Common.{◌≡◌, ◌<◌, ℕ, true, false}
use Rattle.shogi_core.specs.Bits.{has_bit}
use Rattle.shogi_core.specs.Cell.{is_piece_of}
use Rattle.shogi_core.specs.Movement.{piece_at}
use Rattle.shogi_replies.specs.ReplyInfo.{GuaranteesReplies}
use Rattle.shogi_moves.proofs.CaptureLaws.{HasMatchingOn}
use Rattle.shogi_replies.proofs.replies.KnownReplies.skip_pieces.Given as goal

abbrev pub invariant-squares : goal.invariant-squares
invariant-squares l = record {
  moving : ℕ;
  same : l.sweep ≡ l.fn.sweep;
  matching : HasMatchingOn l.self.position.now l.capture l.fn.sweep.code moving;
  mine : (n : ℕ) → n < 81 → has_bit moving n ≡ true → (l.fn.sweep.from < n) × (is_piece_of l.self.position.now.side (piece_at l.self.position.now.cells n) ≡ true);
  guaranteed : (n : ℕ) → n < 81 → has_bit moving n ≡ true → has_bit l.left n ≡ false → GuaranteesReplies l.self.position.now l.capture l.move_filter l.self.escapes.bits n;
  within : (n : ℕ) → has_bit l.left n ≡ true → has_bit moving n ≡ true;
}

abbrev pub decreases-squares : goal.decreases-squares
decreases-squares l = l.left
