-- A wire in memory: what it is seen as, what it reports, and what its calls answer and leave (own choice).
use Rattle.std.specs.Prelude.{◌≡◌, ◌+◌, ◌-◌, ◌^◌, ◌==◌, ◌||◌, ◌&&◌, not, cond, min, ℕ, Bool, true, false, List, [], ◌∷◌, ◌++◌, length, map, take, drop, Vec, slice_set, slice_index_or, nat_lt, Option, Some, None, Result, Ok, Err, IsSome}
use Rattle.std.specs.Option.{option_map}
use Rattle.std.specs.List.{slice_get, flat_map}
use Rattle.transport.specs.declared.wire.Got.{Got}
use Rattle.transport.specs.declared.wire.Got.TheVariants.{Bytes, Nothing, Ended}
use Rattle.transport.specs.declared.wire.WireFault.{WireFault}
use Rattle.transport.specs.declared.wire.WireFault.TheVariants.{Device, OutOfMemory}
use Rattle.transport.specs.Report.{Report, ReportsFailure, bytes_read}

-- a peer: what its reads give from here on, chunk by chunk; what its writes took; the most bytes that a write takes;
-- whether it was shut, and whether a read or a write of it has failed
pub record PeerState : Type 0 where
  pub chunks : List (List ℕ)
  pub written : List ℕ
  pub width : ℕ
  pub is_shut : Bool
  pub has_failed : Bool

-- the peers, how many of them were accepted, how many calls have failed, how many calls are left until the one that
-- is to fail: 1 where it is the next one, and 0 where there is none; and what the last read that did not fail gave
pub record WireState : Type 0 where
  pub peers : List PeerState
  pub accepted : ℕ
  pub failed : ℕ
  pub fails_in : ℕ
  pub lent : List ℕ

-- a wire without connections
abbrev pub new_wire : WireState
new_wire = record { peers = []; accepted = 0; failed = 0; fails_in = 0; lent = [] }

-- ---- what it reports

-- the bytes of the chunks
abbrev pub bytes_left : List (List ℕ) → List ℕ
bytes_left chunks = flat_map (λ chunk. chunk) chunks

-- the bytes that reads of the peer give from here on
abbrev pub unread_of : PeerState → List ℕ
unread_of peer = bytes_left peer.chunks

-- reads of the peer gave these bytes
abbrev pub HasGiven : PeerState → PeerState → List ℕ → Type 0
HasGiven old new bytes = unread_of old ≡ bytes ++ unread_of new

-- the bytes of each of these
abbrev pub contents_of : {A : Type 0} → List (Vec ℕ A) → List (List ℕ)
contents_of chunks = map (λ chunk. chunk.items) chunks

-- what is reported of each connection, which has its place as its number; not what its reads gave
abbrev pub report_of : List PeerState → Report
report_of peers = record {
  unread = λ number. option_map unread_of (slice_get peers number);
  given = λ number. None;
  written = λ number. option_map (λ peer. peer.written) (slice_get peers number);
  is_shut = λ number. option_map (λ peer. peer.is_shut) (slice_get peers number);
  has_failed = λ number. option_map (λ peer. peer.has_failed) (slice_get peers number);
}

abbrev pub report_by : WireState → Report
report_by wire = report_of wire.peers

-- the wire has a connection of this number
abbrev pub IsKnown : Report → ℕ → Type 0
IsKnown report number = IsSome (report.written number)

-- ---- a peer

-- a peer that gives these chunks, to which nothing was written; a write takes all
abbrev pub new_peer : List (List ℕ) → PeerState
new_peer chunks = record {
  chunks = chunks;
  written = [];
  width = 2 ^ 64 - 1;
  is_shut = false;
  has_failed = false;
}

-- a call of the peer has failed
abbrev pub failing : PeerState → PeerState
failing peer = record peer { has_failed = true }

-- a call that failed is marked at its peer
abbrev pub MarksFailure : {T : Type 0} → Result T WireFault → PeerState → PeerState → Type 0
MarksFailure result old new = ReportsFailure result (Some old.has_failed) (Some new.has_failed)

-- the peer is shut
abbrev pub shutting : PeerState → PeerState
shutting peer = record peer { is_shut = true }

-- each write of the peer takes at most this many bytes
abbrev pub narrowing : ℕ → PeerState → PeerState
narrowing most peer = record peer { width = most }

-- the peer has taken these bytes
abbrev pub taking : List ℕ → PeerState → PeerState
taking bytes peer = record peer { written = peer.written ++ bytes }

-- the chunks, without the empty ones at the start
abbrev pub past_empty : List (List ℕ) → List (List ℕ)
past_empty [] = []
past_empty ([] ∷ rest) = past_empty rest
past_empty ((byte ∷ bytes) ∷ rest) = (byte ∷ bytes) ∷ rest

-- no byte is nothing
abbrev pub got_bytes : ℕ → Got
got_bytes n = cond (n == 0) Nothing Bytes

-- what a read into so much room finds
abbrev pub got_from : List (List ℕ) → ℕ → Got
got_from [] room = Ended
got_from (chunk ∷ rest) room = got_bytes (min (length chunk) room)

-- the bytes that it gives
abbrev pub given_from : List (List ℕ) → ℕ → List ℕ
given_from [] room = []
given_from (chunk ∷ rest) room = take room chunk

-- the chunks that it leaves
abbrev pub left_from : List (List ℕ) → ℕ → List (List ℕ)
left_from [] room = []
left_from (chunk ∷ rest) room = drop room chunk ∷ rest

-- the bytes that the peer gives to a read into so much room
abbrev pub given_by : ℕ → PeerState → List ℕ
given_by room peer = given_from (past_empty peer.chunks) room

-- these bytes are what the peer gives to a read into so much room, and there are some only where it answers so
pub record Gives (got : Got) (bytes : List ℕ) (room : ℕ) (peer : PeerState) : Type 0 where
  pub all : bytes ≡ given_by room peer
  pub read : bytes_read (Ok got) bytes ≡ given_by room peer

-- the peer has given what a read into so much room finds
abbrev pub giving : ℕ → PeerState → PeerState
giving room peer = record peer { chunks = left_from (past_empty peer.chunks) room }

-- ---- calls

abbrev pub change_at : (PeerState → PeerState) → ℕ → List PeerState → List PeerState
change_at change number peers =
    slice_set peers number (change (slice_index_or peers number (new_peer [])))

-- the peer of this number is changed, where there is one
abbrev pub changed : (PeerState → PeerState) → ℕ → WireState → WireState
changed change number wire = record wire { peers = change_at change number wire.peers }

abbrev pub peer_of : WireState → ℕ → PeerState
peer_of wire number = slice_index_or wire.peers number (new_peer [])

-- the most bytes that a write of this number takes
abbrev pub width_of : WireState → ℕ → ℕ
width_of wire number = (peer_of wire number).width

-- the wire has one more peer, which gives these chunks
abbrev pub with_peer : List (List ℕ) → WireState → WireState
with_peer chunks wire = record wire { peers = wire.peers ++ new_peer chunks ∷ [] }

-- one of accept, read and write was called
abbrev pub called : WireState → WireState
called wire = record wire { fails_in = wire.fails_in - 1 }

-- a call has failed
abbrev pub failed : WireState → WireState
failed wire = record wire { failed = min (wire.failed + 1) (2 ^ 64 - 1) }

-- the next call is the one that is to fail
abbrev pub fails_next : WireState → Bool
fails_next wire = wire.fails_in == 1

-- the connection was accepted, and was not shut
abbrev pub is_open : WireState → ℕ → Bool
is_open wire number = nat_lt number wire.accepted && not ((peer_of wire number).is_shut)

-- a read or a write fails: it is the one that is to fail, or the connection is not open
abbrev pub fails_for : WireState → ℕ → Bool
fails_for wire number = fails_next wire || not (is_open wire number)

-- the number of the next peer
abbrev pub next_peer : WireState → Option ℕ
next_peer wire = cond (nat_lt wire.accepted (length wire.peers)) (Some wire.accepted) None

abbrev pub accept_answer : WireState → Result (Option ℕ) WireFault
accept_answer wire = cond (fails_next wire) (Err Device) (Ok (next_peer wire))

abbrev pub after_accept : WireState → WireState
after_accept wire = cond (fails_next wire) (failed (called wire))
    (record (called wire) { accepted = min (wire.accepted + 1) (length wire.peers) })

abbrev pub read_answer : WireState → ℕ → ℕ → Result Got WireFault
read_answer wire number room =
    cond (fails_for wire number) (Err Device)
    (Ok (got_from (past_empty (peer_of wire number).chunks) room))

abbrev pub after_failing : WireState → ℕ → WireState
after_failing wire number = changed failing number (failed (called wire))

abbrev pub after_read : WireState → ℕ → ℕ → WireState
after_read wire number room =
    cond (fails_for wire number) (after_failing wire number)
    (record (changed (giving room) number (called wire)) { lent = given_by room (peer_of wire number) })

-- by its answer; where memory runs out the peer is marked, and no call of the wire has failed
abbrev pub after_write : WireState → ℕ → List ℕ → Result ℕ WireFault → WireState
after_write wire number bytes (Ok n) = changed (taking (take n bytes)) number (called wire)
after_write wire number bytes (Err Device) = after_failing wire number
after_write wire number bytes (Err OutOfMemory) = changed failing number (called wire)

abbrev pub after_shut : WireState → ℕ → WireState
after_shut wire number = cond (is_open wire number) (changed shutting number wire) wire
