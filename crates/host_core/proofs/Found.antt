-- Calls for the session of an id, found or not.
use Rattle.std.proofs.Common.{◌≡◌, ℕ, List, [], Option, Some, None, refl, sym}
use Rattle.std.specs.Borrow.{Bor}
use Rattle.std.specs.Prelude.{IsSome, OnSome}
use Rattle.session_slots.specs.declared.id.SessionId.{SessionId}
use Rattle.session_slots.specs.Slots.{find, with_session}
use Rattle.session_slots.proofs.Finds.{with_session-same}
use Rattle.shared_table.specs.Recent.{Table}
use Rattle.usi_session.specs.Due.{SessionView}
use Rattle.host_core.specs.declared.event.HostFault.{HostFault}
use Rattle.host_core.specs.declared.event.HostFault.TheVariants.{UnknownSession}
use Rattle.host_core.specs.ById.{IsQueue, queued_of}
use Rattle.host_core.specs.Events.{Outcome, Refused}
use Rattle.host_core.specs.Steps.{HostState, Closed, IsClosed, OnSession}

-- a session that was found answered, and was written back
pub on_found : (goes : SessionView → Outcome → SessionView → Type 0) (old : HostState) (table : Table) (id : SessionId) (s after : SessionView) (o : Outcome)
    → find old.slots id ≡ Some s → goes s o after
    → OnSession goes old id (find old.slots id) o (record { setup = old.setup; table = table; slots = with_session old.slots id after })
on_found goes old table id s after o e w = rw e (record { after = after; went = w; slots_are = refl; setup_is = refl })

-- no session was found
pub on_none : (goes : SessionView → Outcome → SessionView → Type 0) (old : HostState) (id : SessionId)
    → find old.slots id ≡ None → OnSession goes old id (find old.slots id) (Refused UnknownSession) old
on_none goes old id e = rw e (record { refused = refl; same = refl })

-- a session with these queued bytes refused, and nothing changed
pub on_refused : (goes : SessionView → Outcome → SessionView → Type 0) (old : HostState) (id : SessionId) (fault : HostFault) (found : Option SessionView) (bytes : Bor (List ℕ))
    → find old.slots id ≡ found → IsQueue found (Some bytes) → ((s : SessionView) → bytes.now ≡ s.queued → goes s (Refused fault) s) → OnSession goes old id found (Refused fault) old
on_refused goes old id fault None bytes e queue goes_so = absurd queue
on_refused goes old id fault (Some s) bytes e queue goes_so = record { after = s; went = goes_so s queue; slots_are = sym (with_session-same old.slots id s e); setup_is = refl }

-- a property of the value holds if there is one
pub on_some : {T : Type 0} (o : Option T) (P : Type 0) → IsSome o → OnSome o P → P
on_some None P some h = absurd (cc)
on_some (Some x) P some h = h

-- a session that was found was closed
pub closed_found : (old new : HostState) (id : SessionId) (o : Outcome) (found : Option SessionView)
    → find old.slots id ≡ found → IsSome found → Closed old id o new → IsClosed old id (find old.slots id) o new
closed_found old new id o None e some c = absurd (cc)
closed_found old new id o (Some s) e some c = rw e c

-- no session was found to close
pub closed_none : (old new : HostState) (id : SessionId) → find old.slots id ≡ None → new ≡ old
    → IsClosed old id (find old.slots id) (Refused UnknownSession) new
closed_none old new id e same = rw e (record { refused = refl; same = same })

-- the bytes are the queue of the session
pub queue_some : (found : Option SessionView) (bytes : Bor (List ℕ)) → IsQueue found (Some bytes) → bytes.now ≡ queued_of found
queue_some None bytes q = absurd q
queue_some (Some t) bytes q = q

-- without a queue, no session is open
pub none_queued : (found : Option SessionView) → IsQueue found None → found ≡ None
none_queued None q = refl
none_queued (Some t) q = absurd q

pub queue_none : (found : Option SessionView) → IsQueue found None → [] ≡ queued_of found
queue_none None q = refl
queue_none (Some t) q = absurd q
