-- What an event leaves unchanged (own choice).
use Rattle.std.specs.Prelude.{◌≡◌, ℕ, Bool, true, false, Result}
use Rattle.session_slots.specs.declared.id.SessionId.{SessionId}
use Rattle.session_slots.specs.Slots.{find}
use Rattle.host_core.specs.Events.{Event, Open, Feed, Work, Take, Close, Outcome, Opened, Refused}
use Rattle.host_core.specs.declared.event.HostFault.{HostFault}
use Rattle.host_core.specs.Made.{is_same_id}
use Rattle.host_core.specs.Seen.{passed_from}
use Rattle.host_core.specs.Steps.{HostState}

-- the event names the id, or is answered with it
abbrev pub names : SessionId → Event → Outcome → Bool
names id Open (Opened at) = is_same_id at id
names id Open _ = false
names id (Feed at chunk) outcome = is_same_id at id
names id (Work at budget) outcome = is_same_id at id
names id (Take at n) outcome = is_same_id at id
names id (Close at) outcome = is_same_id at id

-- each session that the event does not name is unchanged
abbrev pub KeepsOtherSessions : HostState → Event → Outcome → HostState → Type 0
KeepsOtherSessions old event outcome new =
    (id : SessionId) → names id event outcome ≡ false → find new.slots id ≡ find old.slots id

-- each other session is unchanged when queued bytes of one are dropped with this result
abbrev pub PassKeepsOthers : {U : Type 0} → HostState → SessionId → ℕ → Result U HostFault
    → HostState → Type 0
PassKeepsOthers old id n result new =
    KeepsOtherSessions old (Take id n) (passed_from old id n result) new

-- the event was refused and is not a `Work`
abbrev pub is_refused : Event → Outcome → Bool
is_refused Open (Refused fault) = true
is_refused (Feed at chunk) (Refused fault) = true
is_refused (Take at n) (Refused fault) = true
is_refused (Close at) (Refused fault) = true
is_refused _ _ = false

-- if the event was refused and is not a `Work`, the host is unchanged
abbrev pub IfRefused : HostState → Event → Outcome → HostState → Type 0
IfRefused old event outcome new = is_refused event outcome ≡ true → new ≡ old
