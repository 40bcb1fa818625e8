use Rattle.std.proofs.Common.{◌≤◌, ◌-◌, length}
use Rattle.host_core.specs.Notes.{AreSettled}
use Rattle.host_core.proofs.host.Host.past_settled.Given as goal

-- no session between the first slot and this one is pending
abbrev pub invariant-loop-slot : goal.invariant-loop-slot
invariant-loop-slot g l = record {
  on : l.from ≤ l.slot;
  passed : AreSettled l.from l.slot l.self.slots.slots;
}

abbrev pub decreases-loop-slot : goal.decreases-loop-slot
decreases-loop-slot g l = length l.self-inside.notes.items - l.slot
