-- What a listener tells of connections that a wire does not hold, how its calls change that, and the calls of it and
-- its streams (own choice).
use Rattle.std.specs.Prelude.{◌≡◌, ⊤, ℕ, List, map, Option, Some, Result, Ok, Err, slice_get}
use Rattle.std.specs.Io.KnownBytes.{Keeps, ReadConsumes, WriteAppends, prepend_known}
use Rattle.transport.specs.declared.wire.WireFault.{WireFault}
use Rattle.transport.specs.Report.{Report, IsRaised, KeepsOthers, ReportsFailure, Stays}
use Rattle.stream_transport.specs.declared.listener.Ready.{Ready}
use Rattle.stream_transport.specs.declared.listener.Ready.TheVariants.{Listener}
use Rattle.stream_transport.specs.declared.listener.StreamFault.{StreamFault}
use Rattle.stream_transport.specs.declared.listener.StreamFault.TheVariants.{WouldBlock, Interrupted, Failed}
use Rattle.std.specs.declared.io.ErrorKind.{ErrorKind}
use Rattle.std.specs.declared.io.ErrorKind.TheVariants as kind

-- the stream fault of each kind of system error
abbrev pub fault_by : ErrorKind → StreamFault
fault_by kind.WouldBlock = WouldBlock
fault_by kind.Interrupted = Interrupted
fault_by _ = Failed

-- the first components of a list of pairs
abbrev pub firsts : {A B : Type 0} → List (A × B) → List A
firsts pairs = map (λ pair. pair.0) pairs

-- the result of an accept without its stream
abbrev pub answer_of : {S : Type 0} → Result S StreamFault → Result (Unit {0}) StreamFault
answer_of (Ok stream) = Ok tt
answer_of (Err fault) = Err fault

-- a look or a wait named the listener: a client may wait to be accepted
abbrev pub NamesListener : List Ready → Type 0
NamesListener named = (place : ℕ) × (slice_get named place ≡ Some Listener)

-- everything told stays, except for the bytes of this number
pub record KeepsElse (old new : Report) (number : ℕ) : Type 0 where
  pub shut : Stays (old.is_shut number) (new.is_shut number)
  pub failed : Stays (old.has_failed number) (new.has_failed number)
  pub others : KeepsOthers old new number

-- a read of a stream gave the next of the bytes it has left
abbrev pub Receives : {S E : Type 0} → (S → Option (List ℕ)) → (old new : S)
    → Result ℕ E → List ℕ → Type 0
Receives remaining old new result buf = ReadConsumes (remaining old) (remaining new) result buf

-- a read of a stream added to the bytes its reads gave
abbrev pub Gave : {S E : Type 0} → (S → Option (List ℕ)) → (old new : S)
    → Result ℕ E → List ℕ → Type 0
Gave given old new result buf = WriteAppends (given old) (given new) result buf

-- a write to a stream added to the bytes it took
abbrev pub Sends : {S E : Type 0} → (S → Option (List ℕ)) → (old new : S)
    → Result ℕ E → List ℕ → Type 0
Sends contents old new result buf = WriteAppends (contents old) (contents new) result buf

module _ {S : Type 0} (unread written : S → Option (List ℕ)) where
  -- a new stream has the bytes told of its number, to be read and taken
  abbrev pub HandsOut : {E : Type 0} → Report → ℕ → Result S E → Type 0
  HandsOut told number (Ok stream) =
      Keeps (told.unread number) (unread stream) × Keeps (told.written number) (written stream)
  HandsOut told number (Err error) = ⊤

  -- the bytes of a stream are told of its number: to be read, behind the bytes kept, and taken
  pub record HasBack (told : Report) (number : ℕ) (kept : List ℕ) (stream : S) : Type 0 where
    pub left : Keeps (prepend_known kept (unread stream)) (told.unread number)
    pub taken : Keeps (written stream) (told.written number)

-- the listener tells that a call of this number failed, and nothing else is new
pub record IsToldFailed (old new : Report) (number : ℕ) : Type 0 where
  pub unread : Keeps (old.unread number) (new.unread number)
  pub given : Keeps (old.given number) (new.given number)
  pub written : Keeps (old.written number) (new.written number)
  pub shut : Stays (old.is_shut number) (new.is_shut number)
  pub failed : IsRaised (old.has_failed number) (new.has_failed number)
  pub others : KeepsOthers old new number

-- the listener tells that this number was shut, and nothing else is new
pub record IsToldShut (old new : Report) (number : ℕ) : Type 0 where
  pub unread : Keeps (old.unread number) (new.unread number)
  pub given : Keeps (old.given number) (new.given number)
  pub written : Keeps (old.written number) (new.written number)
  pub shut : IsRaised (old.is_shut number) (new.is_shut number)
  pub failed : Stays (old.has_failed number) (new.has_failed number)
  pub others : KeepsOthers old new number

-- the listener tells whether a call of this number failed, and nothing else is new
pub record Notes {T : Type 0} (old new : Report) (number : ℕ) (result : Result T WireFault)
    : Type 0 where
  pub unread : Keeps (old.unread number) (new.unread number)
  pub given : Keeps (old.given number) (new.given number)
  pub written : Keeps (old.written number) (new.written number)
  pub shut : Stays (old.is_shut number) (new.is_shut number)
  pub failed : ReportsFailure result (old.has_failed number) (new.has_failed number)
  pub others : KeepsOthers old new number
