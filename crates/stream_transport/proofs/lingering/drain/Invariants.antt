use Rattle.std.proofs.Common.{◌≡◌}
use Rattle.stream_transport.proofs.Draining.{HasDrained}
use Rattle.stream_transport.proofs.lingering.drain.Given as goal

-- the writing side is as before, and `counter` reads were made
abbrev pub invariant-loop : goal.invariant-loop
invariant-loop g l = record {
  shut : g.S.ByteStream.is_shut l.stream ≡ g.S.ByteStream.is_shut l.fn.stream;
  reads : HasDrained (g.S.ByteStream.calls l.fn.stream) (g.S.ByteStream.calls l.stream) l.counter;
}
