-- The system calls that sockets are made of, with their results (own choice).
use Rattle.std.specs.Prelude.{◌≡◌, ◌≢◌, ◌==◌, ◌*◌, ◌⊎◌, ⊤, ℕ, zero, suc, Bool, true, false, List, [], ◌∷◌, ◌++◌, All, cond, flat_map, Option, None, Some, Result, Ok, Err, OnErr, OnOk, option_map}
use Rattle.std.specs.Duration.{as_nanos}
use Rattle.std.specs.IoError.{error_kind}
use Rattle.std.specs.declared.io.Error.{Error}
use Rattle.std.specs.declared.time.Duration.{Duration}
use Rattle.mio.specs.Event.{event_token}
use Rattle.mio.specs.declared.event.event.Event.{Event}
use Rattle.mio.specs.declared.token.Token.{Token}
use Rattle.transport.specs.Asked.{Asks}
use Rattle.transport.specs.declared.wire.WireFault.{WireFault}
use Rattle.transport.specs.declared.wire.WireFault.TheVariants.{Device, OutOfMemory}
use Rattle.stream_transport.specs.Lingering.{are_drained, with_one}
use Rattle.stream_transport.specs.Streams.{fault_by}
use Rattle.stream_transport.specs.declared.listener.Ready.{Ready}
use Rattle.stream_transport.specs.declared.listener.Ready.TheVariants.{Listener, Stream}
use Rattle.stream_transport.specs.declared.listener.StreamFault.{StreamFault}
use Rattle.stream_transport.specs.declared.listener.StreamFault.TheVariants.{Failed, Interrupted, WouldBlock}
use Rattle.stream_transport.specs.declared.lingering.LingeringStream.{LingeringStream}
use Rattle.stream_transport.specs.declared.lingering.TheConstants.{DRAINING_PATIENCE, IDLE_PATIENCE, LOOKS_MAX, READS}
use Rattle.stream_transport.specs.declared.listener.StreamCall.{StreamCall}
use Rattle.stream_transport.specs.declared.listener.StreamCall.TheVariants.{Receive, Send}
use Rattle.stream_transport.specs.declared.sockets.Past.{Past}
use Rattle.stream_transport.specs.declared.sockets.SocketStream.{SocketStream}
use Rattle.stream_transport.specs.declared.sockets.TheConstants.{VISIT_PATIENCE}
use Rattle.stream_transport.specs.declared.tokens.TheConstants.{LISTENER, WATCHED}

-- a call of an endpoint: an accept, the naming of a stream or a listener by a number, or a poll of at most this many
-- nanoseconds, or without a limit, with its events
pub data SystemCall : Type 0 where
  Accept : (answer : Result (Unit {0}) StreamFault) → SystemCall
  Name : (number : ℕ) (answer : Result (Unit {0}) StreamFault) → SystemCall
  NameListener : (number : ℕ) (answer : Result (Unit {0}) StreamFault) → SystemCall
  Poll : (most : Option ℕ) (events : List Event) (answer : Result (Unit {0}) StreamFault) → SystemCall

-- a call of a binder: for an endpoint, or for a listener at a path
pub data BinderCall : Type 0 where
  Open : (answer : Result (Unit {0}) StreamFault) → BinderCall
  Listen : (path : List ℕ) (answer : Result (Unit {0}) StreamFault) → BinderCall

-- the result of a system call, with its error as a stream fault
abbrev pub answer_by : {T : Type 0} → Result T Error → Result T StreamFault
answer_by (Ok value) = Ok value
answer_by (Err error) = Err (fault_by (error_kind error))

-- the result of a system call without its value
abbrev pub outcome_by : {T : Type 0} → Result T Error → Result (Unit {0}) StreamFault
outcome_by (Ok value) = Ok tt
outcome_by (Err error) = Err (fault_by (error_kind error))

-- the longest duration of a poll, in nanoseconds
abbrev pub most_of : Option Duration → Option ℕ
most_of patience = option_map as_nanos patience

-- no call was made, if calls are told
abbrev pub IsUnused : {C : Type 0} → Option (List C) → Type 0
IsUnused None = ⊤
IsUnused (Some calls) = calls ≡ []

-- the writing side is shut, if that is told
abbrev pub IsShut : Option Bool → Type 0
IsShut None = ⊤
IsShut (Some flag) = flag ≡ true

-- the calls of one accept with this result: the next client, then the naming of its stream; if that fails, the accept
-- failed
abbrev pub AcceptsAs : ℕ → Result (Unit {0}) StreamFault → List SystemCall → Type 0
AcceptsAs number (Ok done) calls = calls ≡ Accept (Ok tt) ∷ Name number (Ok tt) ∷ []
AcceptsAs number (Err fault) calls =
    (calls ≡ Accept (Err fault) ∷ [])
    ⊎ ((fault ≡ Failed)
    × ((why : StreamFault) × (calls ≡ Accept (Ok tt) ∷ Name number (Err why) ∷ [])))

-- a failed accept, and one more
pub record AcceptsAgain (number : ℕ) (answer : Result (Unit {0}) StreamFault) (calls : List SystemCall)
    : Type 0 where
  pub first : List SystemCall
  pub again : List SystemCall
  pub split : calls ≡ first ++ again
  pub failed : AcceptsAs number (Err Failed) first
  pub due : AcceptsAs number answer again

-- the endpoint was asked for the next client once, or once more if that failed while streams lingered
pub record IsAskedForOne {S : Type 0} (number : ℕ) (lingering : List (LingeringStream S))
    (old new : Option (List SystemCall)) (answer : Result (Unit {0}) StreamFault) : Type 0 where
  pub calls : List SystemCall
  pub asked : Asks old new calls
  pub due : AcceptsAs number answer calls
      ⊎ ((lingering ≢ []) × AcceptsAgain number answer calls)

-- the endpoint was asked for the next client once
pub record IsAskedOnce (number : ℕ) (old new : Option (List SystemCall))
    (answer : Result (Unit {0}) StreamFault) : Type 0 where
  pub calls : List SystemCall
  pub asked : Asks old new calls
  pub due : AcceptsAs number answer calls

-- an object without calls before has these calls now
abbrev pub IsAskedAnew : {E C : Type 0} → (E → Option (List C)) → E → List C → Type 0
IsAskedAnew {E} calls now asked = (first : E) × (IsUnused (calls first) × Asks (calls first) (calls now) asked)

-- the calls of a bind with this result: an endpoint, then a listener at the path; none if memory ran out or the path
-- is empty
abbrev pub BindsAs : {W : Type 0} → (path : List ℕ) → Result W WireFault → List BinderCall → Type 0
BindsAs path (Ok wire) calls = calls ≡ Open (Ok tt) ∷ Listen path (Ok tt) ∷ []
BindsAs path (Err OutOfMemory) calls = calls ≡ []
BindsAs path (Err Device) calls =
    ((path ≡ []) × (calls ≡ []))
    ⊎ (((why : StreamFault) × (calls ≡ Open (Err why) ∷ []))
    ⊎ ((answer : Result (Unit {0}) StreamFault)
    × (calls ≡ Open (Ok tt) ∷ Listen path answer ∷ [])))

-- the binder was asked as a bind should
pub record IsAskedToBind {W : Type 0} (path : List ℕ) (old new : Option (List BinderCall))
    (result : Result W WireFault) : Type 0 where
  pub calls : List BinderCall
  pub asked : Asks old new calls
  pub due : BindsAs path result calls

-- polls were to name one more listener by this number; the watch may fail even if they do
abbrev pub Watches : ℕ → (old new : Option (List SystemCall)) → Result (Unit {0}) StreamFault → Type 0
Watches number old new (Ok done) = Asks old new (NameListener number (Ok tt) ∷ [])
Watches number old new (Err fault) =
    Asks old new (NameListener number (Ok tt) ∷ []) ⊎ Asks old new (NameListener number (Err fault) ∷ [])

-- what a token names; nothing for the listener that is watched
abbrev pub named_by : Token → Option Ready
named_by token =
    cond (token.0 == WATCHED) None (Some (cond (token.0 == LISTENER) Listener (Stream token.0)))

abbrev pub listed : {X : Type 0} → Option X → List X
listed None = []
listed (Some x) = x ∷ []

-- what these events name, in their order
abbrev pub names_of : List Event → List Ready
names_of events = flat_map (λ event. listed (named_by (event_token event))) events

module _ {S : Type 0} (is_shut : S → Option Bool) where
  -- the writing side of each stream is shut
  abbrev pub AreShut : List (LingeringStream S) → Type 0
  AreShut streams = All (λ lingering. IsShut (is_shut lingering.stream)) streams

  -- streams that linger stay shut for writing
  abbrev pub KeepsShut : List (LingeringStream S) → List (LingeringStream S) → Type 0
  KeepsShut old new = AreShut old → AreShut new

-- the longest wait: half a second if a client of the watched listener may be unanswered
abbrev pub visited_for : (is_visited : Bool) → Option ℕ → Option ℕ
visited_for true most = Some (VISIT_PATIENCE * 1000000)
visited_for false most = most

-- the longest wait while streams linger: `IDLE_PATIENCE`, or `DRAINING_PATIENCE` if one may have unread bytes
abbrev pub lingering_for : {S : Type 0} → List (LingeringStream S) → Option ℕ → Option ℕ
lingering_for [] most = most
lingering_for (first ∷ rest) most =
    Some (cond (are_drained (first ∷ rest)) IDLE_PATIENCE DRAINING_PATIENCE * 1000000)

-- one poll was made, with this limit
abbrev pub IsPolled : {S : Type 0} → Option Duration → List (LingeringStream S) → (is_visited : Bool)
    → (old new : Option (List SystemCall)) → List Event → Result (Unit {0}) StreamFault → Type 0
IsPolled patience lingering is_visited old new events answer =
    Asks old new
    (Poll (lingering_for lingering (visited_for is_visited (most_of patience))) events answer ∷ [])

-- nothing is recorded
abbrev pub IsNewPast : Past → Type 0
IsNewPast past = (past.back.items ≡ []) × ((past.shut.items ≡ []) × (past.failed.items ≡ []))

-- ---- a stream that lingers

-- the reads of a draining stream with this many left: until its end or a failure (`None`), until it would block
-- (`Some false`), or until none is left (`Some true`)
abbrev pub Drains : ℕ → List StreamCall → Option Bool → Type 0
Drains zero calls result = (calls ≡ []) × (result ≡ Some true)
Drains (suc left) [] result = ⊥
Drains (suc left) (Send room answer ∷ rest) result = ⊥
Drains (suc left) (Receive room (Ok zero) ∷ rest) result = (rest ≡ []) × (result ≡ None)
Drains (suc left) (Receive room (Ok (suc n)) ∷ rest) result = Drains left rest result
Drains (suc left) (Receive room (Err WouldBlock) ∷ rest) result = (rest ≡ []) × (result ≡ Some false)
Drains (suc left) (Receive room (Err Interrupted) ∷ rest) result = Drains left rest result
Drains (suc left) (Receive room (Err Failed) ∷ rest) result = (rest ≡ []) × (result ≡ None)

-- the stream was drained, in at most `READS` reads
pub record IsDrained (old new : Option (List StreamCall)) (result : Option Bool) : Type 0 where
  pub calls : List StreamCall
  pub asked : Asks old new calls
  pub due : Drains READS calls result

module _ {S : Type 0} where
  -- a drained stream lingers for `LOOKS_MAX` looks, unless its peer has ended or it failed
  abbrev pub LingersAs : ℕ → S → Option Bool → List (LingeringStream S) → List (LingeringStream S)
      → Type 0
  LingersAs number last None old new = new ≡ old
  LingersAs number last (Some has_more) old new =
      new ≡ with_one old
      (record { number = number; stream = last; readable = has_more; looks = LOOKS_MAX })

  pub record Lingers (calls : S → Option (List StreamCall)) (number : ℕ) (stream : S)
      (old new : List (LingeringStream S)) : Type 0 where
    pub last : S
    pub answer : Option Bool
    pub drained : IsDrained (calls stream) (calls last) answer
    pub left : LingersAs number last answer old new

-- the writing side of a stream was to be shut; if that succeeded, the stream is drained, and lingers unless its peer has ended or it failed
pub record LingersOnceShut {S : Type 0} (calls : SocketStream S → Option (List StreamCall))
    (ends : S → Option (List (Result (Unit {0}) StreamFault))) (number : ℕ) (stream : SocketStream S)
    (old new : List (LingeringStream (SocketStream S))) : Type 0 where
  pub last : SocketStream S
  pub answer : Result (Unit {0}) StreamFault
  pub ended : Asks (ends stream.stream) (ends last.stream) (answer ∷ [])
  pub left : OnErr answer (new ≡ old)
  pub lingers : OnOk answer (Lingers calls number last old new)
