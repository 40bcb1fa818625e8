use Rattle.std.proofs.Common.{◌≡◌, drop}
use Rattle.stream_transport.specs.Lingering.{are_drained}
use Rattle.stream_transport.proofs.lingering.are_drained.Given as goal

-- the streams so far are drained
abbrev pub invariant-loop-place : goal.invariant-loop-place
invariant-loop-place g l = are_drained l.fn.streams ≡ are_drained (drop l.place l.fn.streams)
