use Rattle.std.proofs.Common.{◌≡◌, ◌≤◌, take}
use Rattle.socket_loop.specs.Links.{links_of}
use Rattle.socket_loop.specs.Tallies.{pending_count}
use Rattle.socket_loop.proofs.turn.Loop.count_pending.Given as goal

-- the pending sessions so far
abbrev pub invariant-loop-connection : goal.invariant-loop-connection
invariant-loop-connection g l = record {
  count : l.count ≡ pending_count l.host (links_of (take l.connection-index l.connection-items));
  few : l.count ≤ l.connection-index;
}
