use Rattle.std.proofs.Common.{◌≡◌, ◌<◌, ℕ, true}
use Rattle.shogi_core.specs.Bits.{has_bit}
use Rattle.shogi_replies.specs.Threats.{IsUnpinnable}
use Rattle.search_nodes.specs.Threats.{AreAttacked, IsCandidateIn}
use Rattle.search_nodes.proofs.threat.threats_of.Given as goal

abbrev pub invariant-attackers : goal.invariant-attackers
invariant-attackers l = record {
  unpinnable : (a : ℕ) → a < 81 → has_bit l.left a ≡ true → IsUnpinnable l.p a;
  takes : AreAttacked l.p l.takes.bits;
  greatest : IsCandidateIn l.p l.e l.greatest;
}

abbrev pub decreases-attackers : goal.decreases-attackers
decreases-attackers l = l.left
