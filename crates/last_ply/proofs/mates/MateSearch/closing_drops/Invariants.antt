use Rattle.std.proofs.Common.{◌≡◌, ◌<◌, true, false, ℕ}
use Rattle.shogi_core.specs.Bits.{has_bit}
use Rattle.shogi_moves.specs.Destinations.{IsWithin}
use Rattle.last_ply.specs.LastPly.{AreDropsAnsweredOff}
use Rattle.last_ply.proofs.mates.MateSearch.closing_drops.Given as goal

abbrev pub invariant-escapes : goal.invariant-escapes
invariant-escapes l = record {
  all : AreDropsAnsweredOff l.self.frontier.node.now.position l.fn.kind l.fn.squares.bits l.kept.bits;
  among : IsWithin l.kept.bits l.fn.squares.bits;
  off : (n : ℕ) → has_bit l.kept.bits n ≡ true → n < 81 → has_bit l.self.replies.escapes.bits n ≡ false;
  within : IsWithin l.left l.self.replies.escapes.bits;
}

abbrev pub decreases-escapes : goal.decreases-escapes
decreases-escapes l = l.left
