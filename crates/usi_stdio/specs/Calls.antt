-- What a front end reports of its bytes and its calls, and how each call changes the report (own choice).
use Rattle.std.specs.Prelude.{◌≡◌, ◌≤◌, ℕ, List, [], ◌∷◌, ◌++◌, flat_map, length, take, ⊤, Option, None, Some, Result, Ok, Err, IfOk}
use Rattle.std.specs.Io.KnownBytes.{Appends, Keeps, ReadConsumes, WriteAppends}

-- a call and its outcome: a read that gave these bytes, none at the end of the input; a write that took these bytes; a flush; or a failed one of each
pub data StdioCall : Type 0 where
  Read : (bytes : List ℕ) → StdioCall
  Write : (bytes : List ℕ) → StdioCall
  Flush : StdioCall
  FailedRead : StdioCall
  FailedWrite : StdioCall
  FailedFlush : StdioCall

-- the report of a front end: the bytes still to be read, the bytes written, and the calls so far; `None` for each that is not reported
pub record StdioReport : Type 0 where
  pub unread : Option (List ℕ)
  pub written : Option (List ℕ)
  pub calls : Option (List StdioCall)

-- the report of a front end that reports nothing
abbrev pub no_stdio_report : StdioReport
no_stdio_report = record { unread = None; written = None; calls = None }

-- these calls were made since, if calls are reported
abbrev pub Makes : Option (List StdioCall) → Option (List StdioCall) → List StdioCall → Type 0
Makes None new calls = ⊤
Makes (Some before) new calls = new ≡ Some (before ++ calls)

-- the bytes that a call gave, and those that it took
abbrev pub given_by_call : StdioCall → List ℕ
given_by_call (Read bytes) = bytes
given_by_call _ = []

abbrev pub taken_by_call : StdioCall → List ℕ
taken_by_call (Write bytes) = bytes
taken_by_call _ = []

-- the bytes of all calls so far, if calls are reported
abbrev pub of_calls : (StdioCall → List ℕ) → Option (List StdioCall) → Option (List ℕ)
of_calls bytes_of None = None
of_calls bytes_of (Some calls) = Some (flat_map bytes_of calls)

-- the calls made since gave these bytes, if calls are reported
abbrev pub CallsGive : Option (List StdioCall) → Option (List StdioCall) → List ℕ → Type 0
CallsGive old new bytes = Appends (of_calls given_by_call old) (of_calls given_by_call new) bytes

-- the calls made since took these bytes, if calls are reported
abbrev pub CallsTake : Option (List StdioCall) → Option (List StdioCall) → List ℕ → Type 0
CallsTake old new bytes = Appends (of_calls taken_by_call old) (of_calls taken_by_call new) bytes

abbrev pub read_call : {E : Type 0} → Result ℕ E → List ℕ → StdioCall
read_call (Ok n) buf = Read (take n buf)
read_call (Err error) buf = FailedRead

abbrev pub write_call : {E : Type 0} → Result ℕ E → List ℕ → StdioCall
write_call (Ok n) bytes = Write (take n bytes)
write_call (Err error) bytes = FailedWrite

abbrev pub flush_call : {E : Type 0} → Result (Unit {0}) E → StdioCall
flush_call (Ok done) = Flush
flush_call (Err error) = FailedFlush

-- a read gave the next bytes, or failed and gave none; nothing else changed
pub record ReadsInput {E : Type 0} (old new : StdioReport) (result : Result ℕ E) (buf : List ℕ)
    : Type 0 where
  pub within : IfOk result (λ n. n ≤ length buf)
  pub consumed : ReadConsumes old.unread new.unread result buf
  pub written : Keeps old.written new.written
  pub called : Makes old.calls new.calls (read_call result buf ∷ [])

-- a write took the first bytes, or failed and took none; nothing else changed
pub record WritesOutput {E : Type 0} (old new : StdioReport) (result : Result ℕ E) (bytes : List ℕ)
    : Type 0 where
  pub within : IfOk result (λ n. n ≤ length bytes)
  pub appended : WriteAppends old.written new.written result bytes
  pub unread : new.unread ≡ old.unread
  pub called : Makes old.calls new.calls (write_call result bytes ∷ [])

-- a flush was made, or failed; no byte moved
pub record Flushes {E : Type 0} (old new : StdioReport) (result : Result (Unit {0}) E)
    : Type 0 where
  pub unread : new.unread ≡ old.unread
  pub written : Keeps old.written new.written
  pub called : Makes old.calls new.calls (flush_call result ∷ [])
