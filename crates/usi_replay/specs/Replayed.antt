-- Input, output and calls of `replay` at its front end (own choice).
use Rattle.std.specs.Prelude.{◌≡◌, ◌≢◌, ◌⊎◌, ◌-◌, ◌^◌, ℕ, List, [], ◌∷◌, ◌++◌, Bool, true, length, map, flat_map, Option, None, Some, Result, Ok, Err, MatchResult, Vec}
use Rattle.std.specs.List.{All}
use Rattle.std.specs.Io.KnownBytes.{Appends, Consumes, IsAtEnd}
use Rattle.usi_texts.specs.declared.setup.Setup.{Setup}
use Rattle.usi_stdio.specs.Calls.{StdioCall, Read, FailedRead, CallsGive, Makes, StdioReport, CallsTake}
use Rattle.usi_stdio.specs.Saying.{Speaks}
use Rattle.usi_stdio.specs.declared.streams.StdioFault.{StdioFault}
use Rattle.usi_stdio.specs.declared.streams.StdioFault.TheVariants as stdio
use Rattle.usi_replay.specs.declared.fault.ReplayFault.{ReplayFault}
use Rattle.usi_replay.specs.declared.fault.ReplayFault.TheVariants.{OutOfMemory, ReadFailed, WriteFailed, BadScript}
use Rattle.host_core.specs.Steps.{HostState, new_host_under}
use Rattle.usi_replay.specs.Playback.{Transcript, IsPlayback}
use Rattle.usi_replay.specs.Script.{Opening, read_script, output}
use Rattle.usi_replay.specs.Sessions.{RunsBy}

-- the bytes are the output of a script under a setup
abbrev pub IsOutputOf : Setup → ℕ → List ℕ → List ℕ → Type 0
IsOutputOf setup slots bytes out =
    (os : List Opening) × (read_script slots bytes ≡ Ok os) × (out ≡ output setup os)

-- faults that come while a script is played
abbrev pub IsAnswerFault : ℕ → List ℕ → ReplayFault → Type 0
IsAnswerFault slots bytes OutOfMemory = Unit {0}
IsAnswerFault slots bytes ReadFailed = ⊥
IsAnswerFault slots bytes WriteFailed = ⊥
IsAnswerFault slots bytes (BadScript line) = read_script slots bytes ≡ Err line

-- a script's output from a host whose sessions played it in slices of `slice` steps
pub record IsOutputOn (slice : ℕ) (before : HostState) (bytes : List ℕ) (after : HostState)
    (out : List ℕ) : Type 0 where
  pub openings : List Opening
  pub comes : read_script before.slots.max bytes ≡ Ok openings
  pub out_is : out ≡ output before.setup openings
  pub transcripts : List Transcript
  pub played : IsPlayback before.setup before.slots.max after openings transcripts
  pub run : RunsBy slice before after

-- a script's output with the host after it, or a fault
abbrev pub IsAnswerOn : {Z : Type 0} → ℕ → HostState → List ℕ
    → Result (HostState × Vec ℕ Z) ReplayFault → Type 0
IsAnswerOn slice before bytes result =
    MatchResult result (λ answer. IsOutputOn slice before bytes answer.0 answer.1.items)
    (IsAnswerFault before.slots.max bytes)

-- ---- the calls

-- each call read some bytes, together `bytes`
pub record AreReads (calls : List StdioCall) (bytes : List ℕ) : Type 0 where
  pub chunks : List (List ℕ)
  pub each : All (λ chunk. chunk ≢ []) chunks
  pub calls_are : calls ≡ map Read chunks
  pub bytes_are : bytes ≡ flat_map (λ chunk. chunk) chunks

-- calls read `bytes`, one read found the end, and `rest` followed
pub record ReadsAll (calls : List StdioCall) (bytes : List ℕ) (rest : List StdioCall) : Type 0 where
  pub reads : List StdioCall
  pub are_reads : AreReads reads bytes
  pub split : calls ≡ reads ++ Read [] ∷ rest

-- a read failed, or the greatest number of reads was made
pub record FailsToRead (calls : List StdioCall) : Type 0 where
  pub reads : List StdioCall
  pub bytes : List ℕ
  pub are_reads : AreReads reads bytes
  pub failed : (calls ≡ reads ++ FailedRead ∷ []) ⊎ ((calls ≡ reads) × (length reads ≡ 2 ^ 64 - 1))

-- the calls of a reading that ended early with the fault
abbrev pub EndsReading : List StdioCall → ReplayFault → Type 0
EndsReading calls OutOfMemory = (bytes : List ℕ) × AreReads calls bytes
EndsReading calls ReadFailed = FailsToRead calls
EndsReading calls WriteFailed = ⊥
EndsReading calls (BadScript line) = ⊥

-- if calls are reported, the new ones are a reading with this result
pub record ReadsBy {Z : Type 0} (old new : Option (List StdioCall))
    (result : Result (Vec ℕ Z) ReplayFault) : Type 0 where
  pub calls : List StdioCall
  pub called : Makes old new calls
  pub ended : MatchResult result (λ bytes. ReadsAll calls bytes.items []) (EndsReading calls)

-- all input was read, and then the script's output was written except `left`
pub record SaysOutput (setup : Setup) (slots : ℕ) (calls : List StdioCall) (is_flushed : Bool)
    (outcome : Option (Result (Unit {0}) StdioFault)) (left : List ℕ) : Type 0 where
  pub bytes : List ℕ
  pub out : List ℕ
  pub is_output : IsOutputOf setup slots bytes out
  pub said : List StdioCall
  pub read : ReadsAll calls bytes said
  pub done : List ℕ
  pub split : out ≡ done ++ left
  pub spoken : Speaks said done is_flushed outcome

-- the calls of a replay that ended early; a fault of the front end is that of the last call
abbrev pub EndsEarly : Setup → ℕ → List StdioCall → ReplayFault → Type 0
EndsEarly setup slots calls OutOfMemory =
    (bytes : List ℕ) × (AreReads calls bytes ⊎ ReadsAll calls bytes [])
EndsEarly setup slots calls ReadFailed = FailsToRead calls
EndsEarly setup slots calls WriteFailed =
    (left : List ℕ) × (is_flushed : Bool)
    × SaysOutput setup slots calls is_flushed (Some (Err stdio.WriteFailed)) left
EndsEarly setup slots calls (BadScript line) =
    (bytes : List ℕ) × ReadsAll calls bytes [] × (read_script slots bytes ≡ Err line)

-- if calls are reported, the new ones are a replay with this result: all is read before anything is written, and success means that all is written and flushed
pub record Recites {X : Type 0} (setup : Setup) (slots : ℕ) (old new : Option (List StdioCall))
    (result : Result X ReplayFault) : Type 0 where
  pub calls : List StdioCall
  pub called : Makes old new calls
  pub ended :
      MatchResult result (λ done. SaysOutput setup slots calls true None [])
      (EndsEarly setup slots calls)

-- ---- a front end's reports of its bytes and of the bytes that its calls gave and took

-- the front end gave these bytes, and they are all it had
pub record GivesAll (old new : StdioReport) (bytes : List ℕ) : Type 0 where
  pub consumed : Consumes old.unread new.unread bytes
  pub ended : IsAtEnd new.unread
  pub given : CallsGive old.calls new.calls bytes

-- the front end gave the bytes of the buffer, and they are all it had
abbrev pub GivesAllIn : {Z : Type 0} → StdioReport → StdioReport → Vec ℕ Z → Type 0
GivesAllIn old new bytes = GivesAll old new bytes.items

-- the front end took exactly these bytes
pub record TakesAll (old new : StdioReport) (bytes : List ℕ) : Type 0 where
  pub appended : Appends old.written new.written bytes
  pub taken : CallsTake old.calls new.calls bytes

-- the input was read to its end, and is a script with this result
pub record IsScript (slots : ℕ) (old new : StdioReport) (comes : Result (List Opening) ℕ)
    : Type 0 where
  pub bytes : List ℕ
  pub read : GivesAll old new bytes
  pub comes_to : read_script slots bytes ≡ comes

-- the script's output under a setup was written
pub record Replays (setup : Setup) (slots : ℕ) (old new : StdioReport) : Type 0 where
  pub openings : List Opening
  pub script : IsScript slots old new (Ok openings)
  pub written : TakesAll old new (output setup openings)

-- the script's output was written, and the host played it in slices of `slice` steps
pub record ReplaysOn (slice : ℕ) (before after : HostState) (old new : StdioReport) : Type 0 where
  pub replayed : Replays before.setup before.slots.max old new
  pub transcripts : List Transcript
  pub played : IsPlayback before.setup before.slots.max after replayed.openings transcripts
  pub run : RunsBy slice before after

-- a new host of these sizes played the script
abbrev pub ReplaysAsked : Setup → (slots entries slice : ℕ) → StdioReport → StdioReport → Type 0
ReplaysAsked setup slots entries slice old new =
    (after : HostState) × ReplaysOn slice (new_host_under setup slots entries) after old new

-- a prefix of the script's output was written
pub record ReplaysInPart (setup : Setup) (slots : ℕ) (old new : StdioReport) : Type 0 where
  pub openings : List Opening
  pub script : IsScript slots old new (Ok openings)
  pub done : List ℕ
  pub left : List ℕ
  pub split : output setup openings ≡ done ++ left
  pub written : TakesAll old new done

-- the first bad line has this number, and nothing was written
pub record IsBadAt (slots : ℕ) (old new : StdioReport) (line : ℕ) : Type 0 where
  pub script : IsScript slots old new (Err line)
  pub written : TakesAll old new []

-- the state after a fault: only a failed write leaves bytes written
abbrev pub Leaves : Setup → ℕ → StdioReport → StdioReport → ReplayFault → Type 0
Leaves setup slots old new OutOfMemory = TakesAll old new []
Leaves setup slots old new ReadFailed = TakesAll old new []
Leaves setup slots old new WriteFailed = ReplaysInPart setup slots old new
Leaves setup slots old new (BadScript line) = IsBadAt slots old new line
