-- The connections of a wire, and what it reports of them and of all others (own choice).
use Rattle.std.specs.Prelude.{◌≡◌, ◌≢◌, ◌==◌, ◌<◌, ◌%◌, ◌+◌, ◌-◌, ◌^◌, ◌++◌, cond, length, min, nat_eq, not, ℕ, Bool, List, [], Option, None, Some, Result, Ok, Err, ⊤, slice_index_or}
use Rattle.std.specs.Io.KnownBytes.{Appends, Consumes, prepend_known}
use Rattle.transport.specs.Report.{Report, bytes_read}
use Rattle.transport.specs.declared.wire.Got.{Got}
use Rattle.transport.specs.declared.wire.WireFault.{WireFault}
use Rattle.stream_transport.specs.ReadBuffer.{lent_by, lent_from}
use Rattle.stream_transport.specs.declared.kept.Spare.{Spare}
use Rattle.byte_logs.specs.Noted.{all_under}
use Rattle.stream_transport.specs.declared.connection.BufferedStream.{BufferedStream}
use Rattle.stream_transport.specs.declared.connection.TheConstants.{PLACES}
use Rattle.byte_logs.specs.declared.log.Bytes.{Bytes}

-- a count of bytes after some more; it stops at 18,446,744,073,709,551,615
abbrev pub counted : ℕ → List ℕ → ℕ
counted count bytes = min (count + length bytes) (2 ^ 64 - 1)

-- the bytes that reads of a number gave, by the record of each read
abbrev pub given_under : List (ℕ × Bytes) → ℕ → List ℕ
given_under noted number = all_under (λ bytes. bytes.items) noted number

-- what the listener tells, with no byte given yet
abbrev pub none_given : Report → Report
none_given told = record told { given = λ number. Some [] }

module _ {S A : Type 0} where
  -- a connection, if it has the number
  abbrev pub of_number : ℕ → Option (BufferedStream S A) → Option (BufferedStream S A)
  of_number number None = None
  of_number number (Some connection) = cond (connection.number == number) (Some connection) None

  -- the connection of this number, in the place of its remainder
  abbrev pub held : List (Option (BufferedStream S A)) → ℕ → Option (BufferedStream S A)
  held places number = of_number number (slice_index_or places (number % PLACES) None)

  -- the place of this number is free
  abbrev pub IsFree : List (Option (BufferedStream S A)) → ℕ → Type 0
  IsFree places number = slice_index_or places (number % PLACES) None ≡ None

  -- each place below this one is taken
  abbrev pub AreTakenBelow : List (Option (BufferedStream S A)) → ℕ → Type 0
  AreTakenBelow places place =
      (earlier : ℕ) → earlier < place → slice_index_or places earlier None ≢ None

  -- a number given has the first free place
  abbrev pub TakesFirst : Result (Option ℕ) WireFault → List (Option (BufferedStream S A)) → Type 0
  TakesFirst (Ok (Some number)) places = AreTakenBelow places (number % PLACES)
  TakesFirst (Ok None) places = ⊤
  TakesFirst (Err fault) places = ⊤

  -- the bytes that reads will give: the bytes kept, then the bytes left in the stream
  abbrev pub unread_of : (S → Option (List ℕ)) → BufferedStream S A → Option (List ℕ)
  unread_of remaining connection = prepend_known connection.buffer.kept (remaining connection.stream)

  -- the bytes that writes to the connection took
  abbrev pub written_of : (S → Option (List ℕ)) → BufferedStream S A → Option (List ℕ)
  written_of contents connection = contents connection.stream

  -- reads of the connection gave these bytes
  abbrev pub HasGiven : (S → Option (List ℕ)) → BufferedStream S A → BufferedStream S A → List ℕ → Type 0
  HasGiven remaining old new bytes = Consumes (unread_of remaining old) (unread_of remaining new) bytes

  -- writes to the connection took these bytes
  abbrev pub HasTaken : (S → Option (List ℕ)) → BufferedStream S A → BufferedStream S A → List ℕ → Type 0
  HasTaken contents old new bytes = Appends (written_of contents old) (written_of contents new) bytes

  -- the bytes that a read gave, given the spare room
  abbrev pub given_by : Result Got WireFault → Spare A → BufferedStream S A → List ℕ
  given_by result spare connection = bytes_read result (lent_from spare connection.buffer)

  -- the bytes that the last read gave, if it was of the connection in this place
  abbrev pub lent_under : Spare A → Option (BufferedStream S A) → List ℕ
  lent_under spare None = lent_by spare
  lent_under spare (Some connection) = lent_from spare connection.buffer

  -- the stream gave some bytes: these were given from the bytes kept and the new ones, and the rest is kept
  pub record HasPassed (given : S → Option (List ℕ)) (old new : BufferedStream S A) (bytes : List ℕ)
      : Type 0 where
    pub came : List ℕ
    pub gave : Appends (given old.stream) (given new.stream) came
    pub passed : bytes ++ new.buffer.kept ≡ old.buffer.kept ++ came

  -- the bytes of a connection that is held; otherwise what the listener tells
  abbrev pub bytes_of : (BufferedStream S A → Option (List ℕ)) → Option (List ℕ)
      → Option (BufferedStream S A) → Option (List ℕ)
  bytes_of bytes told None = told
  bytes_of bytes told (Some connection) = bytes connection

  -- the report of each number, from its stream, the bytes that reads gave, and what the listener tells
  abbrev pub reported : (remaining contents : S → Option (List ℕ)) → (given : ℕ → List ℕ) → Report
      → List (Option (BufferedStream S A)) → Report
  reported remaining contents given told places = record {
    unread = λ number. bytes_of (unread_of remaining) (told.unread number) (held places number);
    given = λ number. Some (given number);
    written = λ number. bytes_of (written_of contents) (told.written number) (held places number);
    is_shut = told.is_shut;
    has_failed = told.has_failed;
  }

  -- the bytes read under this number and not given
  abbrev pub kept_in : Option (BufferedStream S A) → List ℕ
  kept_in None = []
  kept_in (Some connection) = connection.buffer.kept

  abbrev pub kept_of : List (Option (BufferedStream S A)) → ℕ → List ℕ
  kept_of places number = kept_in (held places number)

  abbrev pub has_kept : Option (BufferedStream S A) → Bool
  has_kept connection = not (nat_eq (length (kept_in connection)) 0)

  -- ---- what calls do to what is held

  -- the connection kept its stream and its bytes; only its readiness may differ
  abbrev pub IsAlike : Option (BufferedStream S A) → Option (BufferedStream S A) → Type 0
  IsAlike None new = new ≡ None
  IsAlike (Some connection) None = ⊥
  IsAlike (Some old) (Some new) = (new.stream ≡ old.stream) × (new.buffer.kept ≡ old.buffer.kept)

  abbrev pub AreAlike : List (Option (BufferedStream S A)) → List (Option (BufferedStream S A)) → Type 0
  AreAlike old new = (number : ℕ) → IsAlike (held old number) (held new number)

  -- each number holds its connection unchanged
  abbrev pub HoldsAll : List (Option (BufferedStream S A)) → List (Option (BufferedStream S A)) → Type 0
  HoldsAll old new = (number : ℕ) → held new number ≡ held old number

  -- each other number holds its connection unchanged
  abbrev pub HoldsOthers : List (Option (BufferedStream S A)) → List (Option (BufferedStream S A)) → ℕ
      → Type 0
  HoldsOthers old new number = (other : ℕ) → other ≢ number → held new other ≡ held old other
