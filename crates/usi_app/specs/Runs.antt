-- The runs over a front end, with their exit status (own choice).
use Rattle.std.specs.Prelude.{◌≡◌, ℕ, List, Result, Ok, Err, IfErr, OnErr, OnOk}
use Rattle.usi_replay.specs.declared.fault.ReplayFault.{ReplayFault}
use Rattle.usi_replay.specs.declared.fault.ReplayFault.TheVariants.{OutOfMemory, ReadFailed, WriteFailed, BadScript}
use Rattle.usi_replay.specs.Replayed.{Leaves, Recites, Replays, ReplaysAsked}
use Rattle.usi_stdio.specs.declared.streams.StdioFault.{StdioFault}
use Rattle.usi_stdio.specs.Calls.{StdioReport}
use Rattle.usi_stdio.specs.Dialogue.{Talks}
use Rattle.usi_stdio.specs.Remembered.{TellsNewTable}
use Rattle.usi_stdio.specs.Saying.{SaysFlushed, SaysPrefix}
use Rattle.usi_stdio.specs.Stdio.{IsFrontEndLeft, IsFrontEndServed}
use Rattle.usi_texts.specs.declared.setup.Setup.{Setup}

-- 0 for success, 1 after a fault
abbrev pub ended_status : Result (Unit {0}) StdioFault → ℕ
ended_status (Ok done) = 0
ended_status (Err fault) = 1

-- 3 for a bad script, 1 for any other fault
abbrev pub replay_status : ReplayFault → ℕ
replay_status (BadScript line) = 3
replay_status OutOfMemory = 1
replay_status ReadFailed = 1
replay_status WriteFailed = 1

-- 0 for a replayed script, otherwise the status of its fault
abbrev pub replayed_status : Result (Unit {0}) ReplayFault → ℕ
replayed_status (Ok done) = 0
replayed_status (Err fault) = replay_status fault

-- one session was served under the setup: all replies to the input were written, or a prefix of them after a fault;
-- the calls are a dialogue, and a new table with `entries` entries was told each search
pub record IsSession (setup : Setup) (entries : ℕ) (old new : StdioReport) (status : ℕ)
    : Type 0 where
  pub ended : Result (Unit {0}) StdioFault
  pub ok : OnOk ended (IsFrontEndServed setup old new)
  pub err : OnErr ended (IsFrontEndLeft setup old new)
  pub calls : Talks setup old.calls new.calls ended
  pub table : OnOk ended (TellsNewTable setup entries old new)
  pub status_is : status ≡ ended_status ended

-- a script was read, and its output under the setup written and flushed; or it was bad, or a fault came; the calls
-- are a replay
pub record IsReplay (setup : Setup) (slots : ℕ) (old new : StdioReport) (status : ℕ) : Type 0 where
  pub ended : Result (Unit {0}) ReplayFault
  pub ok : OnOk ended (Replays setup slots old new)
  pub err : IfErr ended (Leaves setup slots old new)
  pub calls : Recites setup slots old.calls new.calls ended
  pub status_is : status ≡ replayed_status ended

-- with status 0, a new host with these slots, entries and slice played the script
abbrev pub IsReplayOn : Setup → (slots entries slice : ℕ) → StdioReport → StdioReport → ℕ → Type 0
IsReplayOn setup slots entries slice old new status =
    status ≡ 0 → ReplaysAsked setup slots entries slice old new

-- a text was written and flushed, or a prefix of it after a fault; nothing was read
pub record IsPrint (text : List ℕ) (old new : StdioReport) (status : ℕ) : Type 0 where
  pub ended : Result (Unit {0}) StdioFault
  pub ok : OnOk ended (SaysFlushed old new text)
  pub err : IfErr ended (SaysPrefix old new text)
  pub status_is : status ≡ ended_status ended
