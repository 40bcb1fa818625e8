-- The calls of a wire, from the record of each (own choice).
use Rattle.std.specs.Prelude.{List, map, ℕ}
use Rattle.byte_logs.specs.declared.log.Bytes.{Bytes}
use Rattle.transport.specs.Asked.{Accept, Call, Read, Shut, Wait, Write}
use Rattle.stream_transport.specs.declared.wire.WireCall.{WireCall}
use Rattle.stream_transport.specs.declared.wire.WireCall.TheVariants as noted

-- a recorded call, with the bytes of a write
abbrev pub call_of : WireCall → List ℕ → Call
call_of (noted.Accept answer) bytes = Accept answer
call_of (noted.Read number most) bytes = Read number most
call_of (noted.Write number) bytes = Write number bytes
call_of (noted.Shut number) bytes = Shut number
call_of (noted.Wait idle answer) bytes = Wait idle answer

abbrev pub calls_of : List (WireCall × Bytes) → List Call
calls_of pairs = map (λ pair. call_of pair.0 pair.1.items) pairs
