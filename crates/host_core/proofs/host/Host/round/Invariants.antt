use Rattle.std.proofs.Common.{◌≤◌, ◌+◌, ◌-◌, ◌^◌}
use Rattle.host_core.specs.Rounds.{RoundTo}
use Rattle.host_core.proofs.host.Host.round.Given as goal

-- the round has come to this slot, with at most one `Work` for each slot before it
abbrev pub invariant-loop-id : goal.invariant-loop-id
invariant-loop-id g l = record {
  so_far : RoundTo l.fn.self l.budget l.from l.round l.self;
  few : l.round.worked + l.round.refused ≤ l.from;
}

abbrev pub decreases-loop-id : goal.decreases-loop-id
decreases-loop-id g l = 2 ^ 64 - l.from
