-- Reports of a wire on its connections, and the effect of each call on them (own choice).
use Rattle.std.specs.Prelude.{◌≡◌, ◌≢◌, ◌-◌, ◌≤◌, ◌<◌, ◌^◌, ◌⊎◌, ℕ, List, [], length, take, ⊤, Bool, true, false, Option, None, Some, Result, Ok, Err, IfOk, IsErrOf}
use Rattle.std.specs.Io.KnownBytes.{Keeps, Appends, Consumes, IsAtEnd}
use Rattle.transport.specs.declared.wire.Got.{Got}
use Rattle.transport.specs.declared.wire.Got.TheVariants.{Bytes, Nothing, Ended}
use Rattle.transport.specs.declared.wire.WireFault.{WireFault}
use Rattle.transport.specs.declared.wire.WireFault.TheVariants.{Device}

-- by a connection's number: the bytes that reads will still give, those given, those written, whether it was shut, and whether a read or write failed;
-- `None` if the wire does not report it
pub record Report : Type 0 where
  pub unread : ℕ → Option (List ℕ)
  pub given : ℕ → Option (List ℕ)
  pub written : ℕ → Option (List ℕ)
  pub is_shut : ℕ → Option Bool
  pub has_failed : ℕ → Option Bool

-- a wire that reports nothing
abbrev pub nothing_reported : Report
nothing_reported = record {
  unread = λ _. None;
  given = λ _. None;
  written = λ _. None;
  is_shut = λ _. None;
  has_failed = λ _. None;
}

-- a reported flag is unchanged
abbrev pub Stays : Option Bool → Option Bool → Type 0
Stays None new = ⊤
Stays (Some flag) new = new ≡ Some flag

-- a reported flag is true now
abbrev pub IsRaised : Option Bool → Option Bool → Type 0
IsRaised None new = ⊤
IsRaised (Some flag) new = new ≡ Some true

-- a reported flag stays reported, and stays true once it is
abbrev pub OnlyRises : Option Bool → Option Bool → Type 0
OnlyRises None new = ⊤
OnlyRises (Some flag) None = ⊥
OnlyRises (Some true) (Some now) = now ≡ true
OnlyRises (Some false) (Some now) = ⊤

-- the report of a connection is unchanged
pub record KeepsConnection (old new : Report) (number : ℕ) : Type 0 where
  pub unread : Keeps (old.unread number) (new.unread number)
  pub given : Keeps (old.given number) (new.given number)
  pub written : Keeps (old.written number) (new.written number)
  pub shut : Stays (old.is_shut number) (new.is_shut number)
  pub failed : Stays (old.has_failed number) (new.has_failed number)

-- the reports of all connections are unchanged; then those of all but one
abbrev pub KeepsAll : Report → Report → Type 0
KeepsAll old new = (number : ℕ) → KeepsConnection old new number

abbrev pub KeepsOthers : Report → Report → ℕ → Type 0
KeepsOthers old new number = (other : ℕ) → other ≢ number → KeepsConnection old new other

-- a failed call raises the failure flag of its connection
abbrev pub ReportsFailure : {T : Type 0} → Result T WireFault → Option Bool → Option Bool → Type 0
ReportsFailure (Ok value) old new = Stays old new
ReportsFailure (Err fault) old new = IsRaised old new

-- the bytes that a read gave, from those lent after it
abbrev pub bytes_read : Result Got WireFault → List ℕ → List ℕ
bytes_read (Ok Bytes) lent = lent
bytes_read (Ok Nothing) lent = []
bytes_read (Ok Ended) lent = []
bytes_read (Err fault) lent = []

-- a read that gave bytes gave at least one and at most `most`
abbrev pub IsWithin : Result Got WireFault → ℕ → List ℕ → Type 0
IsWithin (Ok Bytes) most lent = (1 ≤ length lent) × (length lent ≤ most)
IsWithin (Ok Nothing) most lent = ⊤
IsWithin (Ok Ended) most lent = ⊤
IsWithin (Err fault) most lent = ⊤

-- a read that found the end leaves no byte
abbrev pub EndsAt : Result Got WireFault → Option (List ℕ) → Type 0
EndsAt (Ok Ended) left = IsAtEnd left
EndsAt (Ok Bytes) left = ⊤
EndsAt (Ok Nothing) left = ⊤
EndsAt (Err fault) left = ⊤

-- a read gave the next bytes of its connection, or failed and gave none; nothing else changed
pub record Reads (old new : Report) (number : ℕ) (result : Result Got WireFault) (lent : List ℕ)
    : Type 0 where
  pub consumed : Consumes (old.unread number) (new.unread number) (bytes_read result lent)
  pub given : Appends (old.given number) (new.given number) (bytes_read result lent)
  pub ended : EndsAt result (new.unread number)
  pub written : Keeps (old.written number) (new.written number)
  pub shut : Stays (old.is_shut number) (new.is_shut number)
  pub failed : ReportsFailure result (old.has_failed number) (new.has_failed number)
  pub others : KeepsOthers old new number

-- the bytes that a write took
abbrev pub bytes_written : Result ℕ WireFault → List ℕ → List ℕ
bytes_written (Ok n) buf = take n buf
bytes_written (Err fault) buf = []

-- a write took a prefix of the bytes, or failed and took none; nothing else changed
pub record Writes (old new : Report) (number : ℕ) (result : Result ℕ WireFault) (buf : List ℕ)
    : Type 0 where
  pub within : IfOk result (λ n. n ≤ length buf)
  pub appended : Appends (old.written number) (new.written number) (bytes_written result buf)
  pub unread : Keeps (old.unread number) (new.unread number)
  pub given : Keeps (old.given number) (new.given number)
  pub shut : Stays (old.is_shut number) (new.is_shut number)
  pub failed : ReportsFailure result (old.has_failed number) (new.has_failed number)
  pub others : KeepsOthers old new number

-- a connection with a number below the bound is shut, with the bytes written unchanged; nothing else changed
pub record Shuts (bound : ℕ) (old new : Report) (number : ℕ) : Type 0 where
  pub shut : number < bound → IsRaised (old.is_shut number) (new.is_shut number)
  pub only_rises : OnlyRises (old.is_shut number) (new.is_shut number)
  pub written : Keeps (old.written number) (new.written number)
  pub unread : Keeps (old.unread number) (new.unread number)
  pub given : Keeps (old.given number) (new.given number)
  pub failed : Stays (old.has_failed number) (new.has_failed number)
  pub others : KeepsOthers old new number

-- a count of faults rose, or stood at its greatest
abbrev pub HasRisen : ℕ → ℕ → Type 0
HasRisen before now = (before < now) ⊎ (before ≡ 2 ^ 64 - 1)

-- a count of faults never falls, and `Device` is returned only if the count rose or stood at its greatest
abbrev pub HasCause : {T : Type 0} → ℕ → ℕ → Result T WireFault → Type 0
HasCause before now result = (before ≤ now) × (IsErrOf result Device → HasRisen before now)

-- a number given is at least the old bound and below the new one; the bound stays if none was given
abbrev pub GivesNumber : ℕ → ℕ → Result (Option ℕ) WireFault → Type 0
GivesNumber old new (Ok (Some number)) = (old ≤ number) × (number < new)
GivesNumber old new (Ok None) = new ≡ old
GivesNumber old new (Err fault) = new ≡ old
