-- The calls of the listener and of each connection's stream, what may be ready, and what is given first (own choice).
use Rattle.std.specs.Prelude.{◌≡◌, ◌≢◌, ◌==◌, ◌<◌, ◌-◌, ◌^◌, ◌⊎◌, ⊤, ◌&&◌, ◌||◌, not, length, take, ℕ, Bool, true, false, List, [], ◌∷◌, Option, None, Some, Result, Ok, Err, IsOk, IsSome, slice_get}
use Rattle.usi_lines.specs.OneLine.{one_line}
use Rattle.transport.specs.Asked.{Asks}
use Rattle.transport.specs.Report.{bytes_read}
use Rattle.transport.specs.declared.wire.Got.{Got}
use Rattle.transport.specs.declared.wire.Got.TheVariants.{Bytes, Nothing, Ended}
use Rattle.transport.specs.declared.wire.WireFault.{WireFault}
use Rattle.transport.specs.declared.wire.WireFault.TheVariants.{Device, OutOfMemory}
use Rattle.stream_transport.specs.Streams.{NamesListener}
use Rattle.stream_transport.specs.Held.{AreAlike, IsAlike, has_kept, held}
use Rattle.stream_transport.specs.declared.listener.ListenerCall.{ListenerCall}
use Rattle.stream_transport.specs.declared.listener.ListenerCall.TheVariants.{Accept, Look, Wait}
use Rattle.stream_transport.specs.declared.listener.Ready.{Ready}
use Rattle.stream_transport.specs.declared.listener.Ready.TheVariants.{Stream}
use Rattle.stream_transport.specs.declared.listener.StreamCall.{StreamCall}
use Rattle.stream_transport.specs.declared.listener.StreamCall.TheVariants.{Receive, Send}
use Rattle.stream_transport.specs.declared.listener.StreamFault.{StreamFault}
use Rattle.stream_transport.specs.declared.listener.StreamFault.TheVariants as why
use Rattle.stream_transport.specs.declared.connection.BufferedStream.{BufferedStream}
use Rattle.stream_transport.specs.declared.connection.TheConstants.{PLACES}
use Rattle.stream_transport.specs.declared.readiness.Readiness.{Readiness}
use Rattle.stream_transport.specs.declared.wire.StreamWire.{StreamWire}

-- if bytes are kept, a read gives their first line, or as many bytes of it as asked for
abbrev pub GivesKept : List ℕ → ℕ → Result Got WireFault → List ℕ → Type 0
GivesKept kept most result lent =
    kept ≢ [] → IsOk result × (bytes_read result lent ≡ take most (one_line kept))

-- a wait asks the listener if it is to wait and no read left bytes kept
abbrev pub is_made : (idle has_buffered : Bool) → Bool
is_made idle has_buffered = idle && not has_buffered

-- a call of a wire has the result of its listener's call
abbrev pub AnswersAs : Result (Unit {0}) WireFault → Result (Unit {0}) StreamFault → Type 0
AnswersAs result (Ok done) = result ≡ Ok tt
AnswersAs result (Err fault) = result ≡ Err Device

-- the listener's call in a wait: if one is made, a single wait, bounded if a call has to be made again without an
-- event; otherwise none, and the wait returns at once
abbrev pub AsksToWait : (is_made needs_timeout : Bool) → Result (Unit {0}) WireFault
    → List ListenerCall → Type 0
AsksToWait true needs_timeout result asks =
    (answer : Result (Unit {0}) StreamFault)
    × ((asks ≡ Wait needs_timeout answer ∷ []) × AnswersAs result answer)
AsksToWait false needs_timeout result asks = (asks ≡ []) × (result ≡ Ok tt)

-- the listener was asked as a wait should
pub record IsAskedToWait (made needs_timeout : Bool) (old new : Option (List ListenerCall))
    (result : Result (Unit {0}) WireFault) : Type 0 where
  pub asks : List ListenerCall
  pub asked : Asks old new asks
  pub due : AsksToWait made needs_timeout result asks

-- why the next client was not asked for: out of memory, or all places were taken
abbrev pub LacksPlace : WireFault → (places : ℕ) → Type 0
LacksPlace OutOfMemory places = ⊤
LacksPlace Device places = PLACES < places

-- the listener's call for the next client: one accept with this result, or none without a place
abbrev pub AsksForNext : (places : ℕ) → Result (Option ℕ) WireFault → List ListenerCall → Type 0
AsksForNext places (Ok (Some number)) asks = asks ≡ Accept (Ok tt) ∷ []
AsksForNext places (Ok None) asks = asks ≡ Accept (Err why.WouldBlock) ∷ []
AsksForNext places (Err fault) asks =
    ((asks ≡ []) × LacksPlace fault places)
    ⊎ ((cause : StreamFault) × ((cause ≢ why.WouldBlock) × (asks ≡ Accept (Err cause) ∷ [])))

pub record IsAskedForNext (places : ℕ) (old new : Option (List ListenerCall))
    (result : Result (Option ℕ) WireFault) : Type 0 where
  pub asks : List ListenerCall
  pub asked : Asks old new asks
  pub due : AsksForNext places result asks

-- no number is left
abbrev pub IsSpent : ℕ → Type 0
IsSpent next = 2 ^ 64 - 1 - PLACES < next

-- after a successful look, the next client was asked for
pub record AsksBehindLook (places : ℕ) (result : Result (Option ℕ) WireFault)
    (asks : List ListenerCall) : Type 0 where
  pub rest : List ListenerCall
  pub split : asks ≡ Look (Ok tt) ∷ rest
  pub due : AsksForNext places result rest

-- the listener's calls in an accept: a look, then the next client unless none may wait; it fails if no number is
-- left, the look failed, or the next client was asked for in vain, which alone bounds the next wait
abbrev pub AsksToAccept : (acceptable : Bool) → List Ready → (places next : ℕ) → (needs_timeout : Bool)
    → Result (Option ℕ) WireFault → List ListenerCall → Type 0
AsksToAccept acceptable named places next needs_timeout (Ok (Some number)) asks =
    AsksBehindLook places (Ok (Some number)) asks
AsksToAccept acceptable named places next needs_timeout (Ok None) asks =
    AsksBehindLook places (Ok None) asks
    ⊎ ((asks ≡ Look (Ok tt) ∷ []) × ((acceptable ≡ false) × ¬ NamesListener named))
AsksToAccept acceptable named places next needs_timeout (Err fault) asks =
    ((asks ≡ []) × IsSpent next)
    ⊎ (((cause : StreamFault) × (asks ≡ Look (Err cause) ∷ []))
    ⊎ (AsksBehindLook places (Err fault) asks × (needs_timeout ≡ true)))

-- the listener was asked as an accept should
pub record IsAskedToAccept (acceptable : Bool) (named : List Ready) (places next : ℕ)
    (needs_timeout : Bool) (old new : Option (List ListenerCall)) (result : Result (Option ℕ) WireFault)
    : Type 0 where
  pub asks : List ListenerCall
  pub asked : Asks old new asks
  pub due : AsksToAccept acceptable named places next needs_timeout result asks

-- a read found nothing
abbrev pub found_nothing : Result Got WireFault → Bool
found_nothing (Ok Bytes) = false
found_nothing (Ok Nothing) = true
found_nothing (Ok Ended) = false
found_nothing (Err fault) = false

-- a write took nothing
abbrev pub took_nothing : Result ℕ WireFault → Bool
took_nothing (Ok n) = n == 0
took_nothing (Err fault) = false

-- the result of a read of the stream that gave `n` bytes: some, or the end
abbrev pub GivesSome : ℕ → Result Got WireFault → Type 0
GivesSome n result = ((n ≡ 0) × (result ≡ Ok Ended)) ⊎ ((n ≢ 0) × (result ≡ Ok Bytes))

-- the state before any call: a client may wait
abbrev pub nothing_asked : Readiness
nothing_asked = record { may_accept = true; has_buffered = false; needs_timeout = false }

-- after an accept: if it found no client, none may wait; if it failed, it has to be made again
abbrev pub after_accept : Readiness → Result (Option ℕ) WireFault → Readiness
after_accept old (Ok (Some number)) = old
after_accept old (Ok None) = record old { may_accept = false }
after_accept old (Err fault) = record old { needs_timeout = true }

-- a client may still wait after one was accepted, and after a failure if one might before
abbrev pub StaysOpen : Result (Option ℕ) WireFault → Bool → Bool → Type 0
StaysOpen (Ok (Some number)) old new = new ≡ true
StaysOpen (Ok None) old new = ⊤
StaysOpen (Err fault) old new = old ≡ true → new ≡ true

module _ {S A : Type 0} where
  -- the next read and the next write ask the stream, unless bytes are kept
  abbrev pub IsAwake : Option (BufferedStream S A) → Type 0
  IsAwake None = ⊤
  IsAwake (Some connection) = (connection.readable ≡ true) × (connection.writable ≡ true)

  -- a stream that was named is awake
  abbrev pub IsNamedAwake : Option Ready → List (Option (BufferedStream S A)) → Type 0
  IsNamedAwake found places =
      (number : ℕ) → found ≡ Some (Stream number) → IsAwake (held places number)

  -- each stream that was named is awake
  abbrev pub AreAwake : List Ready → List (Option (BufferedStream S A)) → Type 0
  AreAwake named places = (place : ℕ) → IsNamedAwake (slice_get named place) places

  -- the connection is still held, and still awake for reads and writes if it was; a new one is awake
  abbrev pub IsAwakeStill : Option (BufferedStream S A) → Option (BufferedStream S A) → Type 0
  IsAwakeStill None new = IsAwake new
  IsAwakeStill (Some old) None = ⊥
  IsAwakeStill (Some old) (Some new) =
      (old.readable ≡ true → new.readable ≡ true) × (old.writable ≡ true → new.writable ≡ true)

  abbrev pub AreAwakeStill : List (Option (BufferedStream S A)) → List (Option (BufferedStream S A))
      → Type 0
  AreAwakeStill old new = (number : ℕ) → IsAwakeStill (held old number) (held new number)

  -- the connection keeps no byte, and its stream last said that it has none
  abbrev pub IsQuiet : Option (BufferedStream S A) → Type 0
  IsQuiet None = ⊥
  IsQuiet (Some connection) = (connection.readable ≡ false) × (connection.buffer.kept ≡ [])

  -- the result of a read, and whether the connection stays readable, by the result of the stream's call
  abbrev pub GivesAs : Result ℕ StreamFault → Result Got WireFault → BufferedStream S A → Type 0
  GivesAs (Ok n) result new = GivesSome n result × (new.readable ≡ true)
  GivesAs (Err why.WouldBlock) result new = (result ≡ Ok Nothing) × (new.readable ≡ false)
  GivesAs (Err why.Interrupted) result new = (result ≡ Ok Nothing) × (new.readable ≡ true)
  GivesAs (Err why.Failed) result new = (result ≡ Err Device) × (new.readable ≡ true)

  -- the stream was asked once, for `room` bytes, and the read has its result; or memory ran out and the stream was
  -- not asked
  abbrev pub AsksStream : (S → Option (List StreamCall)) → (room : ℕ) → Result Got WireFault
      → (old new : BufferedStream S A) → Type 0
  AsksStream calls room result old new =
      ((result ≡ Err OutOfMemory) × (new.stream ≡ old.stream))
      ⊎ ((answer : Result ℕ StreamFault)
      × (Asks (calls old.stream) (calls new.stream) (Receive room answer ∷ [])
      × GivesAs answer result new))

  -- the stream's call in a read: one if the connection is awake and keeps nothing, none if it sleeps; a read that
  -- finds something leaves it awake, and no read makes it sleep for writes
  pub record AsksToGive (calls : S → Option (List StreamCall)) (room : ℕ)
      (result : Result Got WireFault) (old new : BufferedStream S A) : Type 0 where
    pub called : old.readable ≡ true → old.buffer.kept ≡ [] → 0 < room → AsksStream calls room result old new
    pub asleep : old.readable ≡ false → old.buffer.kept ≡ [] → (result ≡ Ok Nothing) × (new ≡ old)
    pub awake : old.readable ≡ true → result ≢ Ok Nothing → new.readable ≡ true
    pub takes : old.writable ≡ true → new.writable ≡ true

  -- the result of a write, and whether the connection stays writable, by the result of the stream's call
  abbrev pub TakesAs : Result ℕ StreamFault → Result ℕ WireFault → BufferedStream S A → Type 0
  TakesAs (Ok n) result new = (result ≡ Ok n) × (new.writable ≡ true)
  TakesAs (Err why.WouldBlock) result new = (result ≡ Ok 0) × (new.writable ≡ false)
  TakesAs (Err why.Interrupted) result new = (result ≡ Ok 0) × (new.writable ≡ true)
  TakesAs (Err why.Failed) result new = (result ≡ Err Device) × (new.writable ≡ true)

  -- the stream's call in a write: one with all bytes if the connection is awake, none if it sleeps; no write makes it
  -- sleep for reads
  pub record AsksToTake (calls : S → Option (List StreamCall)) (bytes : ℕ)
      (result : Result ℕ WireFault) (old new : BufferedStream S A) : Type 0 where
    pub called : old.writable ≡ true
        → (answer : Result ℕ StreamFault)
        × (Asks (calls old.stream) (calls new.stream) (Send bytes answer ∷ [])
        × TakesAs answer result new)
    pub asleep : old.writable ≡ false → (result ≡ Ok 0) × (new ≡ old)
    pub gives : old.readable ≡ true → new.readable ≡ true

  -- the connection is held and awake for reads
  abbrev pub readable : Option (BufferedStream S A) → Bool
  readable None = false
  readable (Some connection) = connection.readable

  abbrev pub writable : Option (BufferedStream S A) → Bool
  writable None = false
  writable (Some connection) = connection.writable

  -- after a read: whether bytes are kept now or were before, and whether it has to be made again, as it found nothing
  -- and the stream did not sleep
  abbrev pub after_read : Readiness → Option (BufferedStream S A) → Result Got WireFault → Readiness
  after_read old connection result = record old {
    has_buffered = old.has_buffered || has_kept connection;
    needs_timeout = old.needs_timeout || (readable connection && found_nothing result);
  }

  -- after a write: whether it has to be made again, as it took nothing and the stream did not sleep
  abbrev pub after_write : Readiness → Option (BufferedStream S A) → Result ℕ WireFault → Readiness
  after_write old connection result = record old {
    needs_timeout = old.needs_timeout || (writable connection && took_nothing result);
  }

  -- the connections held after an accept: those before, and one more if it gave a number
  abbrev pub HoldsAccepted : Result (Option ℕ) WireFault → List (Option (BufferedStream S A))
      → List (Option (BufferedStream S A)) → Type 0
  HoldsAccepted (Ok (Some number)) old new =
      IsSome (held new number)
      × ((other : ℕ) → other ≢ number → IsAlike (held old other) (held new other))
  HoldsAccepted (Ok None) old new = AreAlike old new
  HoldsAccepted (Err fault) old new = AreAlike old new

  -- a connection held before is held after, in this relation
  abbrev pub OfHeld : (BufferedStream S A → BufferedStream S A → Type 0)
      → Option (BufferedStream S A) → Option (BufferedStream S A) → Type 0
  OfHeld Relates None new = ⊤
  OfHeld Relates (Some old) None = ⊥
  OfHeld Relates (Some old) (Some new) = Relates old new

-- ---- calls of the code's wires

module _ {L A S : Type 0} where
  -- the relation holds for the connection of this number
  abbrev pub OfNumber : ℕ → (BufferedStream S A → BufferedStream S A → Type 0)
      → (old new : StreamWire L A S) → Type 0
  OfNumber number Relates old new =
      OfHeld Relates (held old.places.items number) (held new.places.items number)

  -- the stream of this number was asked as a read should
  abbrev pub AsksByRead : (S → Option (List StreamCall)) → (number most : ℕ) → Result Got WireFault
      → (old new : StreamWire L A S) → Type 0
  AsksByRead calls number most result old new =
      OfNumber number (AsksToGive calls most result) old new

  -- the listener was asked for the next client, with this result
  abbrev pub AsksNext : (L → Option (List ListenerCall)) → (old new : StreamWire L A S)
      → Result (Option ℕ) WireFault → Type 0
  AsksNext asked old new result =
      IsAskedForNext (length new.places.items) (asked old.listener) (asked new.listener) result

  -- the listener was asked as an accept should, with this result
  abbrev pub AsksByAccept : (L → List Ready) → (L → Option (List ListenerCall))
      → (old new : StreamWire L A S) → Result (Option ℕ) WireFault → Type 0
  AsksByAccept named asked old new result =
      IsAskedToAccept old.readiness.may_accept (named new.listener) (length new.places.items) old.next
      new.readiness.needs_timeout (asked old.listener) (asked new.listener) result

  -- the listener was asked as a wait should, with this result
  abbrev pub AsksByWait : (L → Option (List ListenerCall)) → Bool → (old new : StreamWire L A S)
      → Result (Unit {0}) WireFault → Type 0
  AsksByWait asked idle old new result =
      IsAskedToWait (is_made idle old.readiness.has_buffered) old.readiness.needs_timeout
      (asked old.listener) (asked new.listener) result

  -- if an accept looked, each stream named is awake
  abbrev pub WakesByAccept : (L → List Ready) → (old new : StreamWire L A S) → Type 0
  WakesByAccept named old new = ¬ IsSpent old.next → AreAwake (named new.listener) new.places.items

  -- if a wait asked the listener, each stream named is awake
  abbrev pub WakesByWait : (L → List Ready) → Bool → (old new : StreamWire L A S) → Type 0
  WakesByWait named idle old new =
      idle ≡ true → old.readiness.has_buffered ≡ false → AreAwake (named new.listener) new.places.items

  -- the readiness after a read of this number
  abbrev pub NotesByRead : ℕ → Result Got WireFault → (old new : StreamWire L A S) → Type 0
  NotesByRead number result old new =
      new.readiness ≡ after_read old.readiness (held new.places.items number) result

  -- the readiness after a write to this number
  abbrev pub NotesByWrite : ℕ → Result ℕ WireFault → (old new : StreamWire L A S) → Type 0
  NotesByWrite number result old new =
      new.readiness ≡ after_write old.readiness (held new.places.items number) result
