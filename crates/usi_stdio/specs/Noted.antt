-- The calls of a reader and a writer, by what was noted of each (own choice).
use Rattle.std.specs.Prelude.{ℕ, List, map}
use Rattle.byte_logs.specs.declared.log.Bytes.{Bytes}
use Rattle.usi_stdio.specs.Calls.{StdioCall, Read, Write, Flush, FailedRead, FailedWrite, FailedFlush}
use Rattle.usi_stdio.specs.declared.front_end.CallKind.{CallKind}
use Rattle.usi_stdio.specs.declared.front_end.CallKind.TheVariants as kind

-- a call of this kind, which moved these bytes
abbrev pub call_by : CallKind → List ℕ → StdioCall
call_by kind.Read bytes = Read bytes
call_by kind.Write bytes = Write bytes
call_by kind.Flush bytes = Flush
call_by kind.FailedRead bytes = FailedRead
call_by kind.FailedWrite bytes = FailedWrite
call_by kind.FailedFlush bytes = FailedFlush

-- the calls noted
abbrev pub calls_noted : List (CallKind × Bytes) → List StdioCall
calls_noted noted = map (λ pair. call_by pair.0 pair.1.items) noted
