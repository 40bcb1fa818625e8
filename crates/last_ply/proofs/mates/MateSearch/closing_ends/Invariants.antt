use Rattle.std.proofs.Common.{◌≡◌, false}
use Rattle.shogi_core.specs.Lines.{are_aligned}
use Rattle.shogi_moves.specs.Destinations.{IsWithin}
use Rattle.last_ply.specs.LastPly.{AreAnsweredOff, OnEach}
use Rattle.last_ply.proofs.mates.MateSearch.closing_ends.Given as goal

abbrev pub invariant-escapes : goal.invariant-escapes
invariant-escapes l = record {
  all : AreAnsweredOff l.self.frontier.node.now.position l.fn.from l.fn.promote l.fn.ends.bits l.kept.bits;
  within : IsWithin l.left l.self.replies.escapes.bits;
  apart : OnEach l.left (λ n. are_aligned l.fn.from n ≡ false);
  among : IsWithin l.kept.bits l.fn.ends.bits;
}

abbrev pub decreases-escapes : goal.decreases-escapes
decreases-escapes l = l.left
