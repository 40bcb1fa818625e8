-- One session over a front end: the bytes written are the session's replies to the bytes read (own choice).
use Rattle.std.specs.Prelude.{◌≡◌, ℕ, ◌≤◌, length, List, ◌++◌, Option, ◌⊎◌, true, false}
use Rattle.std.specs.Io.KnownBytes.{Appends, Consumes, IsAtEnd}
use Rattle.usi_texts.specs.declared.setup.Setup.{Setup}
use Rattle.usi_session.specs.WholeStream.{replies_under, is_over_after_under}
use Rattle.usi_session.specs.declared.limits.TheConstants.{CHUNK_MAX}
use Rattle.usi_stdio.specs.Calls.{StdioReport, CallsGive, CallsTake}

-- the writer took the bytes except the last ones, `left`
pub record WritesBut (old new : Option (List ℕ)) (bytes left : List ℕ) : Type 0 where
  pub done : List ℕ
  pub appended : Appends old new done
  pub split : bytes ≡ done ++ left

-- the writer took a prefix of the bytes
abbrev pub TakesPrefix : Option (List ℕ) → Option (List ℕ) → List ℕ → Type 0
TakesPrefix old new bytes = (left : List ℕ) × WritesBut old new bytes left

-- the session was not over before the last chunk: once it is over, nothing further is read
pub record StopsInTime (setup : Setup) (read : List ℕ) : Type 0 where
  pub prefix : List ℕ
  pub chunk : List ℕ
  pub split : read ≡ prefix ++ chunk
  pub most : length chunk ≤ CHUNK_MAX
  pub alive : is_over_after_under setup prefix ≡ false

-- all replies to the bytes read, under a setup, were written, and the input ended or the session is over
pub record AnswersInput (setup : Setup) (before after old new : Option (List ℕ)) : Type 0 where
  pub read : List ℕ
  pub consumed : Consumes before after read
  pub written : Appends old new (replies_under setup read)
  pub ended : IsAtEnd after ⊎ (is_over_after_under setup read ≡ true)
  pub stops : StopsInTime setup read

-- a prefix of the replies to the bytes read was written
pub record IsCutShort (setup : Setup) (before after old new : Option (List ℕ)) : Type 0 where
  pub read : List ℕ
  pub consumed : Consumes before after read
  pub written : TakesPrefix old new (replies_under setup read)
  pub stops : StopsInTime setup read

-- a front end was served, or left early, by its report: its bytes, and those that its calls gave and took
pub record IsFrontEndServed (setup : Setup) (old new : StdioReport) : Type 0 where
  pub answered : AnswersInput setup old.unread new.unread old.written new.written
  pub given : CallsGive old.calls new.calls answered.read
  pub taken : CallsTake old.calls new.calls (replies_under setup answered.read)

pub record IsFrontEndLeft (setup : Setup) (old new : StdioReport) : Type 0 where
  pub cut_short : IsCutShort setup old.unread new.unread old.written new.written
  pub given : CallsGive old.calls new.calls cut_short.read
  pub taken : CallsTake old.calls new.calls cut_short.written.1.done
