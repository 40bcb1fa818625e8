use Rattle.std.proofs.Common.{◌≡◌, ◌≤◌, length, take}
use Rattle.std.specs.Prelude.{vec_capacity}
use Rattle.host_core.specs.Seen.{answered}
use Rattle.host_core.specs.Runs.{IsRun}
use Rattle.host_core.proofs.host.Host.run.Given as goal

-- the events so far with their outcomes lead here, and there is room for the outcomes to come
abbrev pub invariant-loop-event : goal.invariant-loop-event
invariant-loop-event g l = record {
  chain : IsRun l.fn.self (answered (take l.event-index l.events) l.outcomes.items) l.self;
  count : length l.outcomes.items ≡ l.event-index;
  room : length l.events ≤ vec_capacity l.outcomes;
}
