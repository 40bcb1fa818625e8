-- The numbers of a status (own choice).
use Rattle.std.specs.Prelude.{ℕ, length}
use Rattle.shared_table.specs.Recent.{plus}
use Rattle.host_core.specs.Steps.{HostState}
use Rattle.socket_loop.specs.Links.{links_of}
use Rattle.socket_loop.specs.Turns.{LoopState}
use Rattle.socket_loop.specs.Tallies.{pending_count}
use Rattle.socket_loop.specs.declared.tally.Tally.{Tally}
use Rattle.stream_transport.specs.declared.wire.StreamWire.{StreamWire}
use Rattle.socket_loop.specs.declared.status.Process.{Process}
use Rattle.socket_loop.specs.declared.status.Limits.{Limits}
use Rattle.socket_loop.specs.declared.status.Totals.{Totals}
use Rattle.socket_loop.specs.declared.status.Status.{Status}

-- all zero
abbrev pub no_totals : Totals
no_totals = record {
  turns = 0;
  accepted = 0;
  full = 0;
  unopened = 0;
  ended_reading = 0;
  ended_writing = 0;
  finished = 0;
  refused_work = 0;
  steps = 0;
  bestmoves = 0;
}

-- the sums after one more turn with this tally
abbrev pub counted : Totals → Tally → Totals
counted totals tally = record {
  turns = plus totals.turns 1;
  accepted = plus totals.accepted tally.accepted;
  full = plus totals.full tally.full;
  unopened = plus totals.unopened tally.unopened;
  ended_reading = plus totals.ended_reading tally.ended_reading;
  ended_writing = plus totals.ended_writing tally.ended_writing;
  finished = plus totals.finished tally.finished;
  refused_work = plus totals.refused_work tally.refused;
  steps = plus totals.steps tally.steps;
  bestmoves = plus totals.bestmoves tally.bestmoves;
}

-- the numbers of a host, its connections and its wire; `faults` counts the failed calls beside the wire's
abbrev pub status_from : {L A S : Type 0} → Process → Limits → Totals → ℕ → HostState → LoopState
    → StreamWire L A S → Status
status_from process limits totals faults host connections wire = record {
  process = process;
  limits = limits;
  setup = host.setup;
  totals = totals;
  used = length connections.held;
  searching = pending_count host (links_of connections.held);
  filled = length host.table.pairs;
  refused_notes = host.table.refused;
  probes = host.table.probes;
  hits = host.table.hits;
  received = wire.traffic.received;
  sent = wire.traffic.sent;
  faults = plus wire.failed faults;
}
