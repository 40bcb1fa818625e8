use Rattle.std.proofs.Common.{◌≡◌, ◌<◌, ℕ, true}
use Rattle.shogi_core.specs.Bits.{has_bit}
use Rattle.shogi_replies.specs.Threats.{IsThreat}
use Rattle.search_nodes.specs.Threats.{IsCandidateIn}
use Rattle.search_nodes.proofs.threat.ThreatCandidate.with_ends.Given as goal

abbrev pub invariant-targets : goal.invariant-targets
invariant-targets l = record {
  threats : (t : ℕ) → t < 81 → has_bit l.left t ≡ true → IsThreat l.p l.from t l.promote;
  greatest : IsCandidateIn l.p l.e l.greatest;
}

abbrev pub decreases-targets : goal.decreases-targets
decreases-targets l = l.left
