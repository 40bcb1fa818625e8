use Rattle.session_slots.specs.Slots.{find}
use Rattle.usi_replay.specs.Sessions.{KeepsRepliesDue, RunsBy, works_left}
use Rattle.usi_replay.proofs.sessions.settle.Given as goal

-- sessions went on
abbrev pub invariant-rounds : goal.invariant-rounds
invariant-rounds g l = record { due : KeepsRepliesDue l.fn.host l.host; run : RunsBy l.slice l.fn.host l.host }

-- each round brings the session nearer to its end
abbrev pub decreases-rounds : goal.decreases-rounds
decreases-rounds g l = works_left (find l.host.slots l.id)
