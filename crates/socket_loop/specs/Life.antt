-- The whole life of a connection, over any number of turns and waits (own choice).
use Rattle.std.specs.Prelude.{◌≡◌, ◌≤◌, ◌<◌, ◌≢◌, ◌⊎◌, ℕ, List, [], ◌++◌, Bool, true, false, Option, Some, None}
use Rattle.std.specs.Io.KnownBytes.{Keeps, Appends}
use Rattle.session_slots.specs.declared.id.SessionId.{SessionId}
use Rattle.session_slots.specs.Slots.{find}
use Rattle.usi_session.specs.Due.{SessionView, due}
use Rattle.usi_texts.specs.declared.setup.Setup.{Setup}
use Rattle.usi_session.specs.WholeStream.{replies_under, is_over_after_under}
use Rattle.host_core.specs.declared.event.HostFault.{HostFault}
use Rattle.host_core.specs.ById.{queued_of, pending_of}
use Rattle.host_core.specs.Headline.{IsPrefixOf, IsSettled, OverFrom, is_over_due}
use Rattle.socket_loop.specs.declared.connection.Link.{Link}
use Rattle.transport.specs.Report.{KeepsConnection, IsRaised}
use Rattle.socket_loop.specs.Links.{links_of, reads_ended, was_shut, IsAmong, IsNotAmong, IsMarked}
use Rattle.transport.specs.Moves.{AllMove, IsEmptied}
use Rattle.socket_loop.specs.Turns.{FitsOne, Served, rejection_text}
use Rattle.socket_loop.specs.Scenes.{Scene}

-- what a session owes for the bytes read from here on, and whether they end it
pub record Duty : Type 0 where
  pub owes : List ℕ → List ℕ
  pub ends : List ℕ → Bool

-- the duty of a new session: the replies under its setup
abbrev pub new_duty : Setup → Duty
new_duty setup = record { owes = replies_under setup; ends = is_over_after_under setup }

-- the duty of a session that continues: what it owes; nothing if none is open
abbrev pub duty_of : Option SessionView → Duty
duty_of None = record { owes = λ bytes. []; ends = λ bytes. true }
duty_of (Some session) = record { owes = due session; ends = is_over_due session }

-- the reads of a connection had ended before, or nothing is left to read, if that is reported
abbrev pub ReadsEnded : Scene → Scene → ℕ → Type 0
ReadsEnded before after number =
    IsMarked reads_ended before.held number
    ⊎ IsEmptied (before.report.unread number) (after.report.unread number)

-- the bytes read end the session, by `quit` or a line that is too long, and no further input is answered
pub record EndsItself (duty : Duty) (read written : List ℕ) : Type 0 where
  pub over : duty.ends read ≡ true
  pub no_more : (x : List ℕ) → duty.owes (read ++ x) ≡ written

-- a complete answer: no byte read was lost and all that is owed was written, and the reads have ended or the input
-- ends the session
pub record IsComplete (duty : Duty) (before after : Scene) (number : ℕ) (read lost written : List ℕ)
    : Type 0 where
  pub none_lost : lost ≡ []
  pub all : written ≡ duty.owes read
  pub why : ReadsEnded before after number ⊎ EndsItself duty read written

-- why a connection was shut: a call of it failed, memory ran out for bytes read, or its answer was complete
abbrev pub HasEnded : Duty → Scene → Scene → ℕ → List ℕ → List ℕ → List ℕ → Type 0
HasEnded duty before after number read lost written =
    IsRaised (before.report.has_failed number) (after.report.has_failed number)
    ⊎ ((lost ≢ []) ⊎ IsComplete duty before after number read lost written)

-- the connection was shut, and its session is closed
pub record WasRemoved (before after : Scene) (link : Link) : Type 0 where
  pub shut : IsRaised (before.report.is_shut link.number) (after.report.is_shut link.number)
  pub closed : find after.host.slots link.id ≡ None

-- the connection is held, or was shut with its session closed, or was already marked as shut before
abbrev pub IsHeldOrGone : Scene → Scene → Link → Type 0
IsHeldOrGone before after link =
    IsAmong (links_of after.held) link
    ⊎ (IsMarked was_shut before.held link.number ⊎ WasRemoved before after link)

-- a connection was answered: what was written is a prefix of what is owed for the input, all of it if the session is
-- open with nothing pending or queued; the session is over exactly if the input ends it, once all is answered; a
-- closed one has a cause of its own
pub record IsAnswered (duty : Duty) (before after : Scene) (link : Link) : Type 0 where
  pub served : Served duty.owes before.report after.report link.number
      (find after.host.slots link.id)
  pub prefix : IsPrefixOf served.written (duty.owes served.read)
  pub all : IsSettled (find after.host.slots link.id)
      → queued_of (find after.host.slots link.id) ≡ [] → served.written ≡ duty.owes served.read
  pub over : OverFrom duty.ends served.read (find after.host.slots link.id)
  pub ended : find after.host.slots link.id ≡ None
      → HasEnded duty before after link.number served.read served.lost served.written
  pub kept : IsHeldOrGone before after link
  pub fits : FitsOne (links_of after.held) after.bound after.host link

-- a connection held before is answered what its session owed; one accepted since is answered the replies under the
-- host's setup
abbrev pub IsServed : Scene → Scene → Link → Type 0
IsServed before after link =
    (IsAmong (links_of before.held) link
    × IsAnswered (duty_of (find before.host.slots link.id)) before after link)
    ⊎ ((before.bound ≤ link.number) × IsAnswered (new_duty before.host.setup) before after link)

-- the connection is not held, and nothing reported of it changed
pub record IsUntouched (before after : Scene) (number : ℕ) : Type 0 where
  pub kept : KeepsConnection before.report after.report number
  pub unheld : IsNotAmong (links_of after.held) number

-- a connection accepted since was rejected, as its `Open` was refused: nothing was read, a prefix of `info string
-- host full` was written if the host was full, otherwise nothing, and it was shut
pub record WasRejected (before after : Scene) (number : ℕ) : Type 0 where
  pub least : before.bound ≤ number
  pub most : number < after.bound
  pub fault : HostFault
  pub unread : Keeps (before.report.unread number) (after.report.unread number)
  pub given : Keeps (before.report.given number) (after.report.given number)
  pub bytes : List ℕ
  pub prefix : IsPrefixOf bytes (rejection_text fault)
  pub appended : Appends (before.report.written number) (after.report.written number) bytes
  pub shut : IsRaised (before.report.is_shut number) (after.report.is_shut number)
  pub unheld : IsNotAmong (links_of after.held) number

-- the connection of a number was rejected, or served with one session
abbrev pub IsAccountedFor : Scene → Scene → ℕ → Type 0
IsAccountedFor before after number =
    WasRejected before after number
    ⊎ ((id : SessionId) × IsServed before after (record { number = number; id = id }))

-- each connection was untouched, rejected or served; each held one was served; the host's setup stays
pub record Lives (before after : Scene) : Type 0 where
  pub setup : after.host.setup ≡ before.host.setup
  pub rises : before.bound ≤ after.bound
  pub all : AllMove before.report after.report
  pub marked : (number : ℕ) → IsMarked reads_ended after.held number
      → ReadsEnded before after number
  pub unmarked : (number : ℕ) → IsMarked was_shut after.held number
      → IsMarked was_shut before.held number
  pub each : (number : ℕ)
      → IsUntouched before after number ⊎ IsAccountedFor before after number
  pub held : (link : Link) → IsAmong (links_of after.held) link → IsServed before after link

-- if the input of a connection ends its session, and nothing is pending or queued, the connection is shut and its
-- session closed
abbrev pub EndsByBytes : Scene → Scene → Type 0
EndsByBytes before after =
    (duty : Duty) (link : Link) (answered : IsAnswered duty before after link)
    → duty.ends answered.served.read ≡ true → pending_of (find after.host.slots link.id) ≡ false
    → queued_of (find after.host.slots link.id) ≡ []
    → IsMarked was_shut before.held link.number ⊎ WasRemoved before after link
