-- What a step leaves unchanged.
use Rattle.std.specs.Prelude.{Result, Ok, Err, OnErr}
use Rattle.std.proofs.Common.{◌≡◌, ℕ, true, false, List, [], ◌∷◌, Option, Some, None, refl, ap, ◌∙◌}
use Rattle.session_slots.specs.declared.id.SessionId.{SessionId}
use Rattle.session_slots.specs.Slots.{OthersKept, find, with_session}
use Rattle.session_slots.proofs.Finds.{find-with_session-other, with_session-same}
use Rattle.usi_session.specs.Due.{SessionView}
use Rattle.host_core.specs.declared.event.HostFault.{HostFault}
use Rattle.host_core.specs.declared.event.HostFault.TheVariants.{Full, OutOfMemory, UnknownSession, NotReady}
use Rattle.host_core.specs.Events.{Event, Open, Feed, Work, Take, Close, Outcome, Opened, Done, Worked, Gave, Refused}
use Rattle.host_core.specs.Sessions.{Feeds, Works, Takes}
use Rattle.host_core.specs.Steps.{HostState, Changed, OnSession, IsOpened, IsClosed, Stepped}
use Rattle.host_core.specs.Made.{Step}
use Rattle.host_core.specs.Kept.{names, is_refused}
use Rattle.host_core.specs.Runs.{IsRun}
use Rattle.host_core.specs.Seen.{as_outcome}
use Rattle.host_core.proofs.Ids.{other_id}

-- a session answered, and no other changed
pub on_others : (goes : SessionView → Outcome → SessionView → Type 0) (old new : HostState) (at : SessionId) (o : Outcome) (found : Option SessionView) → find old.slots at ≡ found → OnSession goes old at found o new → OthersKept old.slots new.slots at
on_others goes old new at o None e u id differs = ap (λ (h : HostState). find h.slots id) u.same
on_others goes old new at o (Some s) e c id differs = ap (λ q. find q id) c.slots_are ∙ find-with_session-other old.slots at id s c.after e differs

pub close_others : (old new : HostState) (at : SessionId) (o : Outcome) (found : Option SessionView) → IsClosed old at found o new → OthersKept old.slots new.slots at
close_others old new at o None u id differs = ap (λ (h : HostState). find h.slots id) u.same
close_others old new at o (Some s) c id differs = c.others id differs

open_other : (old new : HostState) (id : SessionId) (o : Outcome) → names id Open o ≡ false → IsOpened old o new → find new.slots id ≡ find old.slots id
open_other old new id (Opened at) n p = p.opens.others id (other_id at id n)
open_other old new id Done n p = absurd p
open_other old new id (Worked steps) n p = absurd p
open_other old new id (Gave bytes) n p = absurd p
open_other old new id (Refused Full) n p = ap (λ (h : HostState). find h.slots id) p.1
open_other old new id (Refused OutOfMemory) n p = ap (λ (h : HostState). find h.slots id) p.1
open_other old new id (Refused UnknownSession) n p = absurd p
open_other old new id (Refused NotReady) n p = absurd p

pub keeps_others : (old new : HostState) (event : Event) (o : Outcome) → Stepped old event o new → (id : SessionId) → names id event o ≡ false → find new.slots id ≡ find old.slots id
keeps_others old new Open o p id n = open_other old new id o n p
keeps_others old new (Feed at chunk) o p id n = on_others (Feeds chunk) old new at o (find old.slots at) refl p.0 id (other_id at id n)
keeps_others old new (Work at budget) o p id n = on_others (Works budget) old new at o (find old.slots at) refl p.0 id (other_id at id n)
keeps_others old new (Take at m) o p id n = on_others (Takes m) old new at o (find old.slots at) refl p.0 id (other_id at id n)
keeps_others old new (Close at) o p id n = close_others old new at o (find old.slots at) p id (other_id at id n)

same_host : (old new : HostState) → new.setup ≡ old.setup → new.table ≡ old.table → new.slots ≡ old.slots → new ≡ old
same_host old new s e f = λ k. record { setup = s k; table = e k; slots = f k }

same_slots : (goes : SessionView → Outcome → SessionView → Type 0) (old new : HostState) (at : SessionId) (s : SessionView) (o : Outcome) → find old.slots at ≡ Some s → (c : Changed goes old at s o new) → c.after ≡ s → new.table ≡ old.table → new ≡ old
same_slots goes old new at s o e c a t = same_host old new c.setup_is t (c.slots_are ∙ (ap (λ (x : SessionView). with_session old.slots at x) a ∙ with_session-same old.slots at s e))

open_refused : (old new : HostState) (fault : HostFault) → IsOpened old (Refused fault) new → new ≡ old
open_refused old new Full p = p.1
open_refused old new OutOfMemory p = p.1
open_refused old new UnknownSession p = absurd p
open_refused old new NotReady p = absurd p

feed_refused : (old new : HostState) (at : SessionId) (chunk : List ℕ) (fault : HostFault) (found : Option SessionView) → find old.slots at ≡ found → OnSession (Feeds chunk) old at found (Refused fault) new → new.table ≡ old.table → new ≡ old
feed_refused old new at chunk fault None e u t = u.same
feed_refused old new at chunk Full (Some s) e c t = absurd c.went
feed_refused old new at chunk UnknownSession (Some s) e c t = absurd c.went
feed_refused old new at chunk OutOfMemory (Some s) e c t = same_slots (Feeds chunk) old new at s (Refused OutOfMemory) e c c.went.1 t
feed_refused old new at chunk NotReady (Some s) e c t = same_slots (Feeds chunk) old new at s (Refused NotReady) e c c.went.1 t

take_refused : (old new : HostState) (at : SessionId) (n : ℕ) (fault : HostFault) (found : Option SessionView) → find old.slots at ≡ found → OnSession (Takes n) old at found (Refused fault) new → new.table ≡ old.table → new ≡ old
take_refused old new at n fault None e u t = u.same
take_refused old new at n Full (Some s) e c t = absurd c.went
take_refused old new at n UnknownSession (Some s) e c t = absurd c.went
take_refused old new at n OutOfMemory (Some s) e c t = same_slots (Takes n) old new at s (Refused OutOfMemory) e c c.went.1 t
take_refused old new at n NotReady (Some s) e c t = same_slots (Takes n) old new at s (Refused NotReady) e c c.went.1 t

close_refused : (old new : HostState) (at : SessionId) (fault : HostFault) (found : Option SessionView) → IsClosed old at found (Refused fault) new → new ≡ old
close_refused old new at fault None u = u.same
close_refused old new at fault (Some s) c = (let e : Refused fault ≡ Done = c.done in absurd (cc))

-- a refused event that is not a `Work` changes nothing
pub refused_same : (old new : HostState) (event : Event) (o : Outcome) → Stepped old event o new → is_refused event o ≡ true → new ≡ old
refused_same old new Open (Refused fault) p r = open_refused old new fault p
refused_same old new (Feed at chunk) (Refused fault) p r = feed_refused old new at chunk fault (find old.slots at) refl p.0 p.1
refused_same old new (Take at n) (Refused fault) p r = take_refused old new at n fault (find old.slots at) refl p.0 p.1
refused_same old new (Close at) (Refused fault) p r = close_refused old new at fault (find old.slots at) p
refused_same old new (Work at budget) o p r = absurd (cc)
refused_same old new Open (Opened id) p r = absurd (cc)
refused_same old new Open Done p r = absurd (cc)
refused_same old new Open (Worked steps) p r = absurd (cc)
refused_same old new Open (Gave bytes) p r = absurd (cc)
refused_same old new (Feed at chunk) (Opened id) p r = absurd (cc)
refused_same old new (Feed at chunk) Done p r = absurd (cc)
refused_same old new (Feed at chunk) (Worked steps) p r = absurd (cc)
refused_same old new (Feed at chunk) (Gave bytes) p r = absurd (cc)
refused_same old new (Take at n) (Opened id) p r = absurd (cc)
refused_same old new (Take at n) Done p r = absurd (cc)
refused_same old new (Take at n) (Worked steps) p r = absurd (cc)
refused_same old new (Take at n) (Gave bytes) p r = absurd (cc)
refused_same old new (Close at) (Opened id) p r = absurd (cc)
refused_same old new (Close at) Done p r = absurd (cc)
refused_same old new (Close at) (Worked steps) p r = absurd (cc)
refused_same old new (Close at) (Gave bytes) p r = absurd (cc)

-- a refused call that is not a `Work` changes nothing
pub refused_call : {X : Type 0} (done : X → Outcome) (old new : HostState) (event : Event) (r : Result X HostFault)
    → ((fault : HostFault) → is_refused event (Refused fault) ≡ true) → Stepped old event (as_outcome done r) new → OnErr r (new ≡ old)
refused_call done old new event (Ok given) may p = tt
refused_call done old new event (Err fault) may p = refused_same old new event (Refused fault) p (may fault)

open_capacity : (old new : HostState) (o : Outcome) → IsOpened old o new → new.table.capacity ≡ old.table.capacity
open_capacity old new (Opened id) p = ap (λ t. t.capacity) p.table_is
open_capacity old new (Refused fault) p = ap (λ h. h.table.capacity) (open_refused old new fault p)
open_capacity old new Done p = absurd p
open_capacity old new (Worked steps) p = absurd p
open_capacity old new (Gave bytes) p = absurd p

close_capacity : (old new : HostState) (at : SessionId) (o : Outcome) (found : Option SessionView) → IsClosed old at found o new → new.table.capacity ≡ old.table.capacity
close_capacity old new at o None u = ap (λ h. h.table.capacity) u.same
close_capacity old new at o (Some s) c = ap (λ t. t.capacity) c.table_is

step_capacity : (old new : HostState) (event : Event) (o : Outcome) → Stepped old event o new → new.table.capacity ≡ old.table.capacity
step_capacity old new Open o p = open_capacity old new o p
step_capacity old new (Feed at chunk) o p = ap (λ t. t.capacity) p.1
step_capacity old new (Work at budget) o p = p.1.capacity_is
step_capacity old new (Take at m) o p = ap (λ t. t.capacity) p.1
step_capacity old new (Close at) o p = close_capacity old new at o (find old.slots at) p

-- a run keeps the table's capacity
pub keeps_capacity : (old new : HostState) (steps : List Step) → IsRun old steps new → new.table.capacity ≡ old.table.capacity
unfolding IsRun
keeps_capacity old new [] r = ap (λ h. h.table.capacity) r
keeps_capacity old new (step ∷ rest) r = keeps_capacity r.0 new rest r.2 ∙ step_capacity old r.0 step.event step.outcome r.1.stepped

open_setup : (old new : HostState) (o : Outcome) → IsOpened old o new → new.setup ≡ old.setup
open_setup old new (Opened id) p = p.setup_is
open_setup old new (Refused fault) p = ap (λ (h : HostState). h.setup) (open_refused old new fault p)
open_setup old new Done p = absurd p
open_setup old new (Worked steps) p = absurd p
open_setup old new (Gave bytes) p = absurd p

on_setup : (goes : SessionView → Outcome → SessionView → Type 0) (old new : HostState) (at : SessionId) (o : Outcome) (found : Option SessionView) → OnSession goes old at found o new → new.setup ≡ old.setup
on_setup goes old new at o None u = ap (λ (h : HostState). h.setup) u.same
on_setup goes old new at o (Some s) c = c.setup_is

close_setup : (old new : HostState) (at : SessionId) (o : Outcome) (found : Option SessionView) → IsClosed old at found o new → new.setup ≡ old.setup
close_setup old new at o None u = ap (λ (h : HostState). h.setup) u.same
close_setup old new at o (Some s) c = c.setup_is

-- no event changes the setup
pub step_setup : (old new : HostState) (event : Event) (o : Outcome) → Stepped old event o new → new.setup ≡ old.setup
step_setup old new Open o p = open_setup old new o p
step_setup old new (Feed at chunk) o p = on_setup (Feeds chunk) old new at o (find old.slots at) p.0
step_setup old new (Work at budget) o p = on_setup (Works budget) old new at o (find old.slots at) p.0
step_setup old new (Take at m) o p = on_setup (Takes m) old new at o (find old.slots at) p.0
step_setup old new (Close at) o p = close_setup old new at o (find old.slots at) p

-- no run changes the setup
pub keeps_setup : (old new : HostState) (steps : List Step) → IsRun old steps new → new.setup ≡ old.setup
unfolding IsRun
keeps_setup old new [] r = ap (λ (h : HostState). h.setup) r
keeps_setup old new (step ∷ rest) r = keeps_setup r.0 new rest r.2 ∙ step_setup old r.0 step.event step.outcome r.1.stepped
