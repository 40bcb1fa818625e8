-- Writes between two reads (own choice).
use Rattle.std.specs.Prelude.{◌≡◌, ◌+◌, ◌*◌, ℕ, List, [], ◌++◌, Bool, true, false, cond, Option, None, Some, Result, Err, IfErr}
use Rattle.std.specs.Io.KnownBytes.{Appends}
use Rattle.usi_texts.specs.declared.setup.Setup.{Setup}
use Rattle.usi_session.specs.Due.{SessionView, due, state_due, load, is_pending}
use Rattle.usi_stdio.specs.Calls.{StdioCall, StdioReport, Makes}
use Rattle.usi_stdio.specs.Dialogue.{Talk, after_calls, IsDialogue}
use Rattle.usi_stdio.specs.declared.streams.StdioFault.{StdioFault}
use Rattle.usi_stdio.specs.declared.streams.StdioFault.TheVariants.{OutOfMemory, ReadFailed, WriteFailed}

-- all written bytes are flushed, and no result is asked for
abbrev pub quiet : (read : List ℕ) (reads : ℕ) (written : List ℕ) → Talk
quiet read reads written = record {
  read = read;
  reads = reads;
  written = written;
  is_flushed = true;
  outcome = None;
}

-- under any setup, once all is flushed, these calls may follow: they read nothing, write these bytes, leave them flushed or not, and ask for this result
pub record Speaks (calls : List StdioCall) (bytes : List ℕ) (is_flushed : Bool)
    (outcome : Option (Result (Unit {0}) StdioFault)) : Type 0 where
  pub dialogue : (setup : Setup) (read : List ℕ) (reads : ℕ) (written : List ℕ)
      → IsDialogue setup (quiet read reads written) calls
  pub after : (read : List ℕ) (reads : ℕ) (written : List ℕ)
      → after_calls (quiet read reads written) calls
      ≡ record {
        read = read;
        reads = reads;
        written = written ++ bytes;
        is_flushed = is_flushed;
        outcome = outcome;
      }

-- the front end took these bytes, and gave none
pub record SaysTo (is_flushed : Bool) (outcome : Option (Result (Unit {0}) StdioFault))
    (old new : StdioReport) (bytes : List ℕ) : Type 0 where
  pub unread : new.unread ≡ old.unread
  pub written : Appends old.written new.written bytes
  pub calls : List StdioCall
  pub called : Makes old.calls new.calls calls
  pub spoken : Speaks calls bytes is_flushed outcome

-- the front end took these bytes, and all is flushed
abbrev pub SaysFlushed : StdioReport → StdioReport → List ℕ → Type 0
SaysFlushed old new bytes = SaysTo true None old new bytes

-- the front end took the bytes except the last ones, `left`
pub record SaysBut (outcome : Option (Result (Unit {0}) StdioFault)) (old new : StdioReport)
    (bytes left : List ℕ) : Type 0 where
  pub done : List ℕ
  pub is_flushed : Bool
  pub said : SaysTo is_flushed outcome old new done
  pub split : bytes ≡ done ++ left

-- the result that the last call asks for if a run ends with this fault
abbrev pub asked_by : StdioFault → Option (Result (Unit {0}) StdioFault)
asked_by OutOfMemory = None
asked_by ReadFailed = Some (Err ReadFailed)
asked_by WriteFailed = Some (Err WriteFailed)

-- the front end took a prefix of the bytes, and the last call asked for this fault
abbrev pub SaysPrefix : StdioReport → StdioReport → List ℕ → StdioFault → Type 0
SaysPrefix old new bytes fault = (left : List ℕ) × SaysBut (asked_by fault) old new bytes left

-- the front end took a prefix of the replies due, for any bytes after these, and the last call asked for this fault
abbrev pub SaysPrefixOfDue : StdioReport → StdioReport → SessionView → List ℕ → StdioFault → Type 0
SaysPrefixOfDue old new session bytes fault =
    (x : List ℕ) → SaysPrefix old new (due session (bytes ++ x)) fault

-- all queued bytes were written and taken, and nothing else changed
pub record IsQueueWritten (before after : SessionView) (old new : StdioReport) : Type 0 where
  pub written : SaysFlushed old new before.queued
  pub rest : after ≡ record before { queued = [] }

-- the replies made were written at once: none is queued, and the rest is due
pub record IsWorkedOn (before after : SessionView) (old new : StdioReport) : Type 0 where
  pub made : List ℕ
  pub written : SaysFlushed old new made
  pub owed : (x : List ℕ) → due before x ≡ made ++ due after x
  pub left : (x : List ℕ) → state_due after x ≡ state_due before x
  pub empty : after.queued ≡ []

-- a bound that falls with each slice, since a slice makes a step if something is pending after it
abbrev pub slices_of : SessionView → ℕ
slices_of s = 2 * load s + cond (is_pending s) 1 0

-- these bytes were fed and answered in full, and the answers were written
pub record AnswersChunk (before after : SessionView) (chunk : List ℕ) (old new : StdioReport)
    : Type 0 where
  pub made : List ℕ
  pub written : SaysFlushed old new made
  pub owed : (x : List ℕ) → due before (chunk ++ x) ≡ made ++ due after x
  pub left : (x : List ℕ) → state_due after x ≡ state_due before (chunk ++ x)
  pub empty : after.queued ≡ []
  pub settled : is_pending after ≡ false

-- ---- the definitions above for a front end of the code, by its report

module _ {F : Type 0} (report : F → StdioReport) where
  abbrev pub Wrote : SessionView → SessionView → (old new : F) → Type 0
  Wrote before after old new = IsQueueWritten before after (report old) (report new)

  abbrev pub Worked : SessionView → SessionView → (old new : F) → Type 0
  Worked before after old new = IsWorkedOn before after (report old) (report new)

  abbrev pub Answered : SessionView → SessionView → List ℕ → (old new : F) → Type 0
  Answered before after chunk old new = AnswersChunk before after chunk (report old) (report new)

  abbrev pub WrotePrefix : (old new : F) → List ℕ → StdioFault → Type 0
  WrotePrefix old new bytes fault = SaysPrefix (report old) (report new) bytes fault

  abbrev pub WrotePrefixOfDue : (old new : F) → SessionView → List ℕ → StdioFault → Type 0
  WrotePrefixOfDue old new session bytes fault =
      SaysPrefixOfDue (report old) (report new) session bytes fault

  -- on failure, the front end took a prefix of the bytes
  abbrev pub CutShort : Result (Unit {0}) StdioFault → (old new : F) → List ℕ → Type 0
  CutShort result old new bytes = IfErr result (WrotePrefix old new bytes)

  -- on failure, the front end took a prefix of the replies due, for any bytes after these
  abbrev pub CutShortDue : Result (Unit {0}) StdioFault → (old new : F) → SessionView → List ℕ
      → Type 0
  CutShortDue result old new session bytes =
      IfErr result (WrotePrefixOfDue old new session bytes)
