use Rattle.std.proofs.Common.{◌≡◌, ◌≤◌, ◌+◌, ◌++◌, length}
use Rattle.std.specs.Prelude.{vec_capacity, vec_len}
use Rattle.std.specs.Slice.Iter.{iter_rest}
use Rattle.mio.specs.Events.{items}
use Rattle.stream_transport.specs.System.{names_of}
use Rattle.stream_transport.proofs.sockets.name_all.Given as goal

-- the events so far are named, and there is room for the others
abbrev pub invariant-loop-event : goal.invariant-loop-event
invariant-loop-event g l = record {
  names : l.ready.items ++ names_of (iter_rest l.event-iterator) ≡ names_of (items l.fn.events);
  room : vec_len l.ready + length (iter_rest l.event-iterator) ≤ vec_capacity l.ready;
  capacity : vec_capacity l.fn.ready ≤ vec_capacity l.ready;
}
