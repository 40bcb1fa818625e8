-- A step as one session sees it.
use Rattle.std.proofs.Common.{◌≡◌, ℕ, ◌+◌, ◌≤◌, Bool, true, false, List, [], ◌++◌, Option, Some, None, cond, refl, sym, ap, ◌∙◌, arith}
use Rattle.session_slots.specs.declared.id.SessionId.{SessionId}
use Rattle.session_slots.specs.Slots.{OpenSessions, find, Opens}
use Rattle.session_slots.proofs.Finds.{find-with_session, find-with_session-other}
use Rattle.usi_texts.specs.declared.setup.Setup.{Setup}
use Rattle.usi_session.specs.Due.{SessionView, due, state_due, new_session_under}
use Rattle.host_core.specs.declared.event.HostFault.TheVariants.{Full, OutOfMemory, UnknownSession, NotReady}
use Rattle.host_core.specs.Events.{Event, Open, Feed, Work, Take, Close, Outcome, Opened, Done, Worked, Gave, Refused}
use Rattle.host_core.specs.Sessions.{Feeds, Works, Takes}
use Rattle.host_core.specs.Steps.{HostState, Unknown, Changed, OnSession, IsOpened, Closed, IsClosed, Stepped}
use Rattle.host_core.specs.Made.{is_same_id, own_by, taken_by, opens}
use Rattle.host_core.proofs.Ids.{same_id, other_id}

-- a step as one session sees it, by what its id finds before and after: nothing while it is not open, its opening under a setup, an answer to its own bytes, or its closing
abbrev pub Sees : Setup → List ℕ → List ℕ → Bool → Option SessionView → Option SessionView → Type 0
Sees setup own taken opened None None = (own ≡ []) × (taken ≡ []) × (opened ≡ false)
Sees setup own taken opened None (Some t) = (own ≡ []) × (taken ≡ []) × (opened ≡ true) × (t ≡ new_session_under setup)
Sees setup own taken opened (Some s) (Some t) = (opened ≡ false) × ((x : List ℕ) → taken ++ due t x ≡ due s (own ++ x)) × ((x : List ℕ) → state_due t x ≡ state_due s (own ++ x))
Sees setup own taken opened (Some s) None = (own ≡ []) × (taken ≡ []) × (opened ≡ false)

-- nothing happened to the session
sees_same : (setup : Setup) (old new : Option SessionView) → new ≡ old → Sees setup [] [] false old new
sees_same setup None new e = rw e (refl, refl, refl)
sees_same setup (Some s) new e = rw e (refl, λ x. refl, λ x. refl)

-- the session of one id changed, and no other
changed_at : (b : Bool) (goes : SessionView → Outcome → SessionView → Type 0) (old new : HostState) (at id : SessionId) (s : SessionView) (o : Outcome) (own taken : List ℕ) → is_same_id at id ≡ b → find old.slots at ≡ Some s → (c : Changed goes old at s o new) → ((x : List ℕ) → taken ++ due c.after x ≡ due s (own ++ x)) → ((x : List ℕ) → state_due c.after x ≡ state_due s (own ++ x))
    → Sees old.setup (cond b own []) (cond b taken []) false (find old.slots id) (find new.slots id)
changed_at true goes old new at id s o own taken e f c h k =
    let same : at ≡ id = same_id at id e in
    let before : find old.slots id ≡ Some s = ap (find old.slots) (sym same) ∙ f in
    let after : find new.slots id ≡ Some c.after = ap (find new.slots) (sym same) ∙ (ap (λ q. find q at) c.slots_are ∙ find-with_session old.slots at s c.after f) in
    rw (before, after) (refl, h, k)
changed_at false goes old new at id s o own taken e f c h k =
    sees_same old.setup (find old.slots id) (find new.slots id) (ap (λ q. find q id) c.slots_are ∙ find-with_session-other old.slots at id s c.after f (other_id at id e))

changed : (goes : SessionView → Outcome → SessionView → Type 0) (old new : HostState) (at id : SessionId) (s : SessionView) (o : Outcome) (own taken : List ℕ) → find old.slots at ≡ Some s → (c : Changed goes old at s o new) → ((x : List ℕ) → taken ++ due c.after x ≡ due s (own ++ x)) → ((x : List ℕ) → state_due c.after x ≡ state_due s (own ++ x))
    → Sees old.setup (cond (is_same_id at id) own []) (cond (is_same_id at id) taken []) false (find old.slots id) (find new.slots id)
changed goes old new at id s o own taken f c h k = changed_at (is_same_id at id) goes old new at id s o own taken refl f c h k

cond_nil : (b : Bool) (xs : List ℕ) → xs ≡ [] → cond b xs xs ≡ []
cond_nil true xs e = e
cond_nil false xs e = e

-- no own bytes and no bytes taken
quiet : (goes : SessionView → Outcome → SessionView → Type 0) (old new : HostState) (at id : SessionId) (s : SessionView) (o : Outcome) → find old.slots at ≡ Some s → (c : Changed goes old at s o new) → ((x : List ℕ) → due c.after x ≡ due s x) → ((x : List ℕ) → state_due c.after x ≡ state_due s x) → Sees old.setup [] [] false (find old.slots id) (find new.slots id)
quiet goes old new at id s o f c h k =
    let none : cond (is_same_id at id) [] [] ≡ [] = cond_nil (is_same_id at id) [] refl in
    rw none at (changed goes old new at id s o [] [] f c h k)

unknown : (old new : HostState) (o : Outcome) (id : SessionId) → Unknown old o new → Sees old.setup [] [] false (find old.slots id) (find new.slots id)
unknown old new o id u = sees_same old.setup (find old.slots id) (find new.slots id) (ap (λ (h : HostState). find h.slots id) u.same)

fed : (old new : HostState) (at id : SessionId) (chunk : List ℕ) (o : Outcome) (found : Option SessionView) → find old.slots at ≡ found → OnSession (Feeds chunk) old at found o new → Sees old.setup (own_by id (Feed at chunk) o) (taken_by id (Feed at chunk) o) (opens id (Feed at chunk) o) (find old.slots id) (find new.slots id)
fed old new at id chunk o None e u = rw u.refused (unknown old new o id u)
fed old new at id chunk Done (Some s) e c =
    let none : cond (is_same_id at id) [] [] ≡ [] = cond_nil (is_same_id at id) [] refl in
    rw none at (changed (Feeds chunk) old new at id s Done chunk [] e c c.went.owed c.went.after)
fed old new at id chunk (Opened other) (Some s) e c = absurd c.went
fed old new at id chunk (Worked steps) (Some s) e c = absurd c.went
fed old new at id chunk (Gave bytes) (Some s) e c = absurd c.went
fed old new at id chunk (Refused Full) (Some s) e c = absurd c.went
fed old new at id chunk (Refused UnknownSession) (Some s) e c = absurd c.went
fed old new at id chunk (Refused NotReady) (Some s) e c = quiet (Feeds chunk) old new at id s (Refused NotReady) e c (λ x. ap (λ (t : SessionView). due t x) c.went.1) (λ x. ap (λ (t : SessionView). state_due t x) c.went.1)
fed old new at id chunk (Refused OutOfMemory) (Some s) e c = quiet (Feeds chunk) old new at id s (Refused OutOfMemory) e c (λ x. ap (λ (t : SessionView). due t x) c.went.1) (λ x. ap (λ (t : SessionView). state_due t x) c.went.1)

worked : (old new : HostState) (at id : SessionId) (budget : ℕ) (o : Outcome) (found : Option SessionView) → find old.slots at ≡ found → OnSession (Works budget) old at found o new → Sees old.setup [] [] false (find old.slots id) (find new.slots id)
worked old new at id budget o None e u = unknown old new o id u
worked old new at id budget Done (Some s) e c = absurd c.went
worked old new at id budget (Opened other) (Some s) e c = absurd c.went
worked old new at id budget (Worked steps) (Some s) e c = quiet (Works budget) old new at id s (Worked steps) e c c.went.owed c.went.after
worked old new at id budget (Gave bytes) (Some s) e c = absurd c.went
worked old new at id budget (Refused Full) (Some s) e c = absurd c.went
worked old new at id budget (Refused UnknownSession) (Some s) e c = absurd c.went
worked old new at id budget (Refused NotReady) (Some s) e c = absurd c.went
worked old new at id budget (Refused OutOfMemory) (Some s) e c = quiet (Works budget) old new at id s (Refused OutOfMemory) e c c.went.owed c.went.after

took : (old new : HostState) (at id : SessionId) (n : ℕ) (o : Outcome) (found : Option SessionView) → find old.slots at ≡ found → OnSession (Takes n) old at found o new → Sees old.setup (own_by id (Take at n) o) (taken_by id (Take at n) o) (opens id (Take at n) o) (find old.slots id) (find new.slots id)
took old new at id n o None e u = rw u.refused (unknown old new o id u)
took old new at id n Done (Some s) e c = absurd c.went
took old new at id n (Opened other) (Some s) e c = absurd c.went
took old new at id n (Worked steps) (Some s) e c = absurd c.went
took old new at id n (Gave bytes) (Some s) e c =
    let none : cond (is_same_id at id) [] [] ≡ [] = cond_nil (is_same_id at id) [] refl in
    rw none at (changed (Takes n) old new at id s (Gave bytes) [] bytes e c (λ x. ap (λ bs. bs ++ due c.after x) c.went.bytes_are ∙ sym (c.went.owed x)) (λ x. rw (c.went.state_is, c.went.running_go_is, c.went.input_is) refl))
took old new at id n (Refused Full) (Some s) e c = absurd c.went
took old new at id n (Refused UnknownSession) (Some s) e c = absurd c.went
took old new at id n (Refused NotReady) (Some s) e c = quiet (Takes n) old new at id s (Refused NotReady) e c (λ x. ap (λ (t : SessionView). due t x) c.went.1) (λ x. ap (λ (t : SessionView). state_due t x) c.went.1)
took old new at id n (Refused OutOfMemory) (Some s) e c = quiet (Takes n) old new at id s (Refused OutOfMemory) e c (λ x. ap (λ (t : SessionView). due t x) c.went.1) (λ x. ap (λ (t : SessionView). state_due t x) c.went.1)

opened_at : (b : Bool) (old new : HostState) (at id : SessionId) → is_same_id at id ≡ b → Opens old.slots new.slots at (new_session_under old.setup) → Sees old.setup [] [] b (find old.slots id) (find new.slots id)
opened_at true old new at id e p =
    let same : at ≡ id = same_id at id e in
    let before : find old.slots id ≡ None = ap (find old.slots) (sym same) ∙ p.was in
    let after : find new.slots id ≡ Some (new_session_under old.setup) = ap (find new.slots) (sym same) ∙ p.now in
    rw (before, after) (refl, refl, refl, refl)
opened_at false old new at id e p = sees_same old.setup (find old.slots id) (find new.slots id) (p.others id (other_id at id e))

unchanged : (old new : HostState) (id : SessionId) → new ≡ old → Sees old.setup [] [] false (find old.slots id) (find new.slots id)
unchanged old new id e = sees_same old.setup (find old.slots id) (find new.slots id) (ap (λ (h : HostState). find h.slots id) e)

opened : (old new : HostState) (id : SessionId) (o : Outcome) → IsOpened old o new → Sees old.setup [] [] (opens id Open o) (find old.slots id) (find new.slots id)
opened old new id (Opened at) p = opened_at (is_same_id at id) old new at id refl p.opens
opened old new id Done p = absurd p
opened old new id (Worked steps) p = absurd p
opened old new id (Gave bytes) p = absurd p
opened old new id (Refused Full) p = unchanged old new id p.1
opened old new id (Refused OutOfMemory) p = unchanged old new id p.1
opened old new id (Refused UnknownSession) p = absurd p
opened old new id (Refused NotReady) p = absurd p

sees_none : (setup : Setup) (old new : Option SessionView) → new ≡ None → Sees setup [] [] false old new
sees_none setup None new e = rw e (refl, refl, refl)
sees_none setup (Some s) new e = rw e (refl, refl, refl)

closed_at : (b : Bool) (old new : HostState) (at id : SessionId) (o : Outcome) → is_same_id at id ≡ b → Closed old at o new → Sees old.setup [] [] false (find old.slots id) (find new.slots id)
closed_at true old new at id o e c = sees_none old.setup (find old.slots id) (find new.slots id) (ap (find new.slots) (sym (same_id at id e)) ∙ c.none)
closed_at false old new at id o e c = sees_same old.setup (find old.slots id) (find new.slots id) (c.others id (other_id at id e))

closed : (old new : HostState) (at id : SessionId) (o : Outcome) (found : Option SessionView) → IsClosed old at found o new → Sees old.setup [] [] false (find old.slots id) (find new.slots id)
closed old new at id o None u = unknown old new o id u
closed old new at id o (Some s) c = closed_at (is_same_id at id) old new at id o refl c

-- each session sees its own part of a step, and no more
pub sees : (old new : HostState) (id : SessionId) (event : Event) (o : Outcome) → Stepped old event o new → Sees old.setup (own_by id event o) (taken_by id event o) (opens id event o) (find old.slots id) (find new.slots id)
sees old new id Open o p = opened old new id o p
sees old new id (Feed at chunk) o p = fed old new at id chunk o (find old.slots at) refl p.0
sees old new id (Work at budget) o p = worked old new at id budget o (find old.slots at) refl p.0
sees old new id (Take at n) o p = took old new at id n o (find old.slots at) refl p.0
sees old new id (Close at) o p = closed old new at id o (find old.slots at) p

-- the next generation never falls, and an opened id has it
pub record Rises (old new : HostState) (id : SessionId) (opened : Bool) : Type 0 where
  pub rises : old.slots.next ≤ new.slots.next
  pub fresh : opened ≡ true → id.generation ≡ old.slots.next

same_next : (old new : HostState) (id : SessionId) → new.slots.next ≡ old.slots.next → Rises old new id false
same_next old new id e = record { rises = omega arith; fresh = λ f. absurd (cc) }

rises_same : (old new : HostState) (id : SessionId) → new ≡ old → Rises old new id false
rises_same old new id e = same_next old new id (ap (λ (h : HostState). h.slots.next) e)

rises_on : (goes : SessionView → Outcome → SessionView → Type 0) (old new : HostState) (at id : SessionId) (o : Outcome) (found : Option SessionView) → OnSession goes old at found o new → Rises old new id false
rises_on goes old new at id o None u = rises_same old new id u.same
rises_on goes old new at id o (Some s) c = same_next old new id (ap (λ (q : OpenSessions SessionView). q.next) c.slots_are)

rises_opened : (b : Bool) (old new : HostState) (at id : SessionId) → is_same_id at id ≡ b → Opens old.slots new.slots at (new_session_under old.setup) → Rises old new id b
rises_opened true old new at id e p =
    let g : id.generation ≡ old.slots.next = ap (λ (i : SessionId). i.generation) (sym (same_id at id e)) ∙ p.generation_is in
    let n : new.slots.next ≡ old.slots.next + 1 = p.next_is in
    record { rises = omega arith; fresh = λ _. g }
rises_opened false old new at id e p =
    let n : new.slots.next ≡ old.slots.next + 1 = p.next_is in
    record { rises = omega arith; fresh = λ f. absurd (cc) }

rises_open : (old new : HostState) (id : SessionId) (o : Outcome) → IsOpened old o new → Rises old new id (opens id Open o)
rises_open old new id (Opened at) p = rises_opened (is_same_id at id) old new at id refl p.opens
rises_open old new id Done p = absurd p
rises_open old new id (Worked steps) p = absurd p
rises_open old new id (Gave bytes) p = absurd p
rises_open old new id (Refused Full) p = rises_same old new id p.1
rises_open old new id (Refused OutOfMemory) p = rises_same old new id p.1
rises_open old new id (Refused UnknownSession) p = absurd p
rises_open old new id (Refused NotReady) p = absurd p

rises_close : (old new : HostState) (at id : SessionId) (o : Outcome) (found : Option SessionView) → IsClosed old at found o new → Rises old new id false
rises_close old new at id o None u = rises_same old new id u.same
rises_close old new at id o (Some s) c = same_next old new id c.next_is

pub rises : (old new : HostState) (id : SessionId) (event : Event) (o : Outcome) → Stepped old event o new → Rises old new id (opens id event o)
rises old new id Open o p = rises_open old new id o p
rises old new id (Feed at chunk) o p = rises_on (Feeds chunk) old new at id o (find old.slots at) p.0
rises old new id (Work at budget) o p = rises_on (Works budget) old new at id o (find old.slots at) p.0
rises old new id (Take at n) o p = rises_on (Takes n) old new at id o (find old.slots at) p.0
rises old new id (Close at) o p = rises_close old new at id o (find old.slots at) p
