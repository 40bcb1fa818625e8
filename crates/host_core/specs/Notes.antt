-- The notes of a host about its sessions, by slot (own choice).
use Rattle.std.specs.Prelude.{◌≡◌, ◌≤◌, ◌==◌, ℕ, List, cond, drop, Option, Some, None, slice_get}
use Rattle.session_slots.specs.declared.id.SessionId.{SessionId}
use Rattle.session_slots.specs.Slots.{OpenSession, OpenSessions, find}
use Rattle.usi_session.specs.Due.{SessionView}
use Rattle.host_core.specs.declared.notes.Activity.{Activity}
use Rattle.host_core.specs.declared.notes.Note.{Note}
use Rattle.host_core.specs.ById.{activity_of}
use Rattle.host_core.specs.Rounds.{pending_from}

-- the activity that a note has for a generation: none if the note is of another one
abbrev pub noted_activity : Note → ℕ → Activity
noted_activity note generation =
    cond (note.generation == generation) note.activity (activity_of None)

-- each note has the activity of its slot's sessions
abbrev pub AreNoted : List Note → OpenSessions SessionView → Type 0
AreNoted notes slots =
    (id : SessionId) (note : Note) → slice_get notes id.slot ≡ Some note
    → noted_activity note id.generation ≡ activity_of (find slots id)

-- no session between these slots is pending
abbrev pub AreSettled : ℕ → ℕ → List (Option (OpenSession SessionView)) → Type 0
AreSettled first last slots =
    pending_from first (drop first slots) ≡ pending_from last (drop last slots)

-- the id's slot is `from` or later, and no session between is pending
abbrev pub IsNext : ℕ → OpenSessions SessionView → SessionId → Type 0
IsNext from slots id = (from ≤ id.slot) × AreSettled from id.slot slots.slots
