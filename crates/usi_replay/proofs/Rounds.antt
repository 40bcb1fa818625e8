-- The effect of a round on one session.
use Rattle.std.proofs.Common.{◌≡◌, ℕ, ◌+◌, ◌*◌, ◌<◌, ◌≤◌, List, [], ◌∷◌, ◌++◌, take, Bool, Result, Ok, Err, Bor, true, false, cond, Option, Some, None, length, get_or, count_by, refl, sym, ap, ◌∙◌, arith}
use Rattle.std.specs.Prelude.{slice_index_or, is_err, is_some, ◌||◌}
use Rattle.std.proofs.lemmas.List.{get_or_past, take_all}
use Rattle.std.proofs.lemmas.List.Sums.{sum_by-cons, sum_by-set}
use Rattle.session_slots.specs.declared.id.SessionId.{SessionId}
use Rattle.session_slots.specs.Slots as slots
use Rattle.session_slots.specs.Slots.{find, with_session, count}
use Rattle.session_slots.proofs.Finds.{IsAt, found_at, find-with_session, find-with_session-other}
use Rattle.usi_session.specs.Due.{SessionView, due, load, is_pending}
use Rattle.host_core.specs.declared.event.HostFault.{HostFault}
use Rattle.host_core.specs.declared.event.HostFault.TheVariants.{Full, OutOfMemory, UnknownSession, NotReady}
use Rattle.host_core.specs.Events.{Outcome, Opened, Done, Worked, Gave, Refused, Work}
use Rattle.host_core.specs.Made.{is_same_id}
use Rattle.host_core.specs.Runs.{IsRun}
use Rattle.host_core.specs.Steps.{HostState, Stepped, OnSession, Changed}
use Rattle.host_core.specs.Seen.{passed_of}
use Rattle.host_core.specs.Sessions.{Taken, Takes, Works, WorkedOn}
use Rattle.host_core.specs.ById.{IsQueue, pending_of}
use Rattle.host_core.specs.Rounds.{pending_ids, works, was_refused, IsRound}
use Rattle.host_core.proofs.Ids.{same_id, other_id}
use Rattle.host_core.proofs.Rounds.{is_in, pending_in}
use Rattle.usi_replay.specs.Playback.{IsSameButForMade, Transcript}
use Rattle.usi_replay.specs.Sessions.{IsCollected, OwesTheSame, KeepsRepliesDue, KeepsAllBut, works_left}

-- a write to a session keeps the number of open sessions
pub count-with_session : (s : slots.OpenSessions SessionView) (id : SessionId) (t after : SessionView) → find s id ≡ Some t → count (with_session s id after) ≡ count s
count-with_session s id t after e =
    let a : IsAt id.generation (slice_index_or s.slots id.slot None) = found_at id.generation (slice_index_or s.slots id.slot None) t e in
    let within : id.slot < length s.slots = (let f : slice_index_or s.slots id.slot None ≡ Some a.opened = a.slot_is in grind (arith, get_or_past)) in
    let one : ◌≡◌ {A = ℕ} (cond (is_some (get_or s.slots id.slot None)) 1 0) 1 = ap (λ (o : Option (slots.OpenSession SessionView)). cond (is_some o) 1 0) a.slot_is in
    let u = sum_by-set (λ (o : Option (slots.OpenSession SessionView)). cond (is_some o) 1 0) s.slots id.slot (Some (record { generation = id.generation; session = after })) None within in
    omega (arith, u, one)

-- one session changed, and no other
pub changes_keep : (goes : SessionView → Outcome → SessionView → Type 0) (old new : HostState) (id : SessionId) (s : SessionView) (o : Outcome) → find old.slots id ≡ Some s → Changed goes old id s o new → KeepsAllBut old new id
changes_keep goes old new id s o e c = record {
  others = λ other differs. ap (λ q. find q other) c.slots_are ∙ find-with_session-other old.slots id other s c.after e differs;
  count_is = ap count c.slots_are ∙ count-with_session old.slots id s c.after e;
  max_is = ap (λ (q : slots.OpenSessions SessionView). q.max) c.slots_are;
  next_is = ap (λ (q : slots.OpenSessions SessionView). q.next) c.slots_are;
  setup_is = c.setup_is;
}

pub changed_finds : (goes : SessionView → Outcome → SessionView → Type 0) (old new : HostState) (id : SessionId) (s : SessionView) (o : Outcome) → find old.slots id ≡ Some s → (c : Changed goes old id s o new) → find new.slots id ≡ Some c.after
changed_finds goes old new id s o e c = ap (λ q. find q id) c.slots_are ∙ find-with_session old.slots id s c.after e

pub on_keeps : (goes : SessionView → Outcome → SessionView → Type 0) (old new : HostState) (id : SessionId) (o : Outcome) (found : Option SessionView) → find old.slots id ≡ found → OnSession goes old id found o new → KeepsAllBut old new id
on_keeps goes old new id o None e u = record {
  others = λ other differs. ap (λ (h : HostState). find h.slots other) u.same;
  count_is = ap (λ (x : HostState). count x.slots) u.same;
  max_is = ap (λ (x : HostState). x.slots.max) u.same;
  next_is = ap (λ (x : HostState). x.slots.next) u.same;
  setup_is = ap (λ (x : HostState). x.setup) u.same;
}
on_keeps goes old new id o (Some s) e c = changes_keep goes old new id s o e c

pub same_due : (f g : Option SessionView) → g ≡ f → OwesTheSame f g
same_due None g e = rw e tt
same_due (Some s) g e = rw e (λ x. refl)

due_chain : (f g h : Option SessionView) → OwesTheSame f g → OwesTheSame g h → OwesTheSame f h
due_chain None None None p q = tt
due_chain (Some a) (Some b) (Some c) p q = λ x. q x ∙ p x
due_chain None None (Some c) p q = absurd q
due_chain None (Some b) h p q = absurd p
due_chain (Some a) None h p q = absurd p
due_chain (Some a) (Some b) None p q = absurd q

pub keeps_start : (h new : HostState) → new ≡ h → KeepsRepliesDue h new
keeps_start h new e = record {
  owed = λ id. same_due (find h.slots id) (find new.slots id) (ap (λ (x : HostState). find x.slots id) e);
  count_is = ap (λ (x : HostState). count x.slots) e;
  max_is = ap (λ (x : HostState). x.slots.max) e;
  next_is = ap (λ (x : HostState). x.slots.next) e;
  setup_is = ap (λ (x : HostState). x.setup) e;
}

pub keeps_chain : (old mid new : HostState) → KeepsRepliesDue old mid → KeepsRepliesDue mid new → KeepsRepliesDue old new
keeps_chain old mid new a b = record {
  owed = λ id. due_chain (find old.slots id) (find mid.slots id) (find new.slots id) (a.owed id) (b.owed id);
  count_is = b.count_is ∙ a.count_is;
  max_is = b.max_is ∙ a.max_is;
  next_is = b.next_is ∙ a.next_is;
  setup_is = b.setup_is ∙ a.setup_is;
}

works_owed : (budget : ℕ) (s : SessionView) (o : Outcome) (t : SessionView) → Works budget s o t → (x : List ℕ) → due t x ≡ due s x
works_owed budget s (Worked n) t w = w.owed
works_owed budget s (Refused OutOfMemory) t w = w.owed
works_owed budget s (Refused Full) t w = absurd w
works_owed budget s (Refused UnknownSession) t w = absurd w
works_owed budget s (Refused NotReady) t w = absurd w
works_owed budget s Done t w = absurd w
works_owed budget s (Opened id) t w = absurd w
works_owed budget s (Gave bytes) t w = absurd w

works_at : (b : Bool) (budget : ℕ) (old new : HostState) (at id : SessionId) (s : SessionView) (o : Outcome) → is_same_id at id ≡ b → find old.slots at ≡ Some s → (c : Changed (Works budget) old at s o new) → OwesTheSame (find old.slots id) (find new.slots id)
works_at true budget old new at id s o e f c =
    let same : OwesTheSame (Some s) (Some c.after) = works_owed budget s o c.after c.went in
    rw (ap (find old.slots) (sym (same_id at id e)) ∙ f, ap (find new.slots) (sym (same_id at id e)) ∙ changed_finds (Works budget) old new at s o f c) same
works_at false budget old new at id s o e f c = same_due (find old.slots id) (find new.slots id) ((changes_keep (Works budget) old new at s o f c).others id (other_id at id e))

work_keeps : (budget : ℕ) (old new : HostState) (at : SessionId) (o : Outcome) (found : Option SessionView) → find old.slots at ≡ found → OnSession (Works budget) old at found o new → KeepsRepliesDue old new
work_keeps budget old new at o None e u = keeps_start old new u.same
work_keeps budget old new at o (Some s) e c =
    let k : KeepsAllBut old new at = changes_keep (Works budget) old new at s o e c in
    record { owed = λ id. works_at (is_same_id at id) budget old new at id s o refl e c; count_is = k.count_is; max_is = k.max_is; next_is = k.next_is; setup_is = k.setup_is }

run_keeps : (budget : ℕ) (ids : List SessionId) (os : List Outcome) (old new : HostState) → IsRun old (works budget ids os) new → KeepsRepliesDue old new
unfolding IsRun
run_keeps budget [] os old new r = keeps_start old new r
run_keeps budget (id ∷ ids) [] old new r = keeps_start old new r
run_keeps budget (id ∷ ids) (o ∷ os) old new r =
    keeps_chain old r.0 new (work_keeps budget old r.0 id o (find old.slots id) refl r.1.stepped.0) (run_keeps budget ids os r.0 new r.2)

-- a round only makes sessions continue
pub round_keeps : (old new : HostState) (budget worked refused : ℕ) (ids : List SessionId) → IsRound old budget ids worked refused new → KeepsRepliesDue old new
round_keeps old new budget worked refused ids r = run_keeps budget ids r.outcomes old new r.run

-- a work that succeeds leaves fewer slices to do
record Falls (s t : SessionView) : Type 0 where
  pub never_more : works_left (Some t) ≤ works_left (Some s)
  pub less : is_pending s ≡ true → works_left (Some t) < works_left (Some s)

falls_by : (p q : Bool) (l m n budget : ℕ) → n + m ≤ l → 1 ≤ budget → (q ≡ true → n ≡ budget) → 2 * m + cond q 1 0 ≤ 2 * l + cond p 1 0
falls_by p true l m n budget h b f = (let e : n ≡ budget = f refl in omega arith)
falls_by p false l m n budget h b f = omega arith

falls_less : (p q : Bool) (l m n budget : ℕ) → n + m ≤ l → 1 ≤ budget → (q ≡ true → n ≡ budget) → p ≡ true → 2 * m + cond q 1 0 < 2 * l + cond p 1 0
falls_less p true l m n budget h b f e = (let g : n ≡ budget = f refl in omega arith)
falls_less p false l m n budget h b f e = rw e (omega arith)

falls : (budget n : ℕ) (s t : SessionView) → 1 ≤ budget → WorkedOn s budget n t → Falls s t
falls budget n s t b w = record {
  never_more = falls_by (is_pending s) (is_pending t) (load s) (load t) n budget w.made b (λ p. (w.spent p).0);
  less = λ e. falls_less (is_pending s) (is_pending t) (load s) (load t) n budget w.made b (λ p. (w.spent p).0) e;
}

falls_of : (budget : ℕ) (s t : SessionView) (o : Outcome) → 1 ≤ budget → was_refused o ≡ false → Works budget s o t → Falls s t
falls_of budget s t (Worked n) b f w = falls budget n s t b w
falls_of budget s t (Refused fault) b f w = absurd (cc)
falls_of budget s t Done b f w = absurd w
falls_of budget s t (Opened id) b f w = absurd w
falls_of budget s t (Gave bytes) b f w = absurd w

-- fewer slices are left for the session found under an id
record Leaves (f g : Option SessionView) : Type 0 where
  pub never_more : works_left g ≤ works_left f
  pub less : pending_of f ≡ true → works_left g < works_left f

leaves_same : (f g : Option SessionView) → g ≡ f → works_left g ≤ works_left f
leaves_same f g e = rw e (omega arith)

leaves_found : (f g : Option SessionView) (s t : SessionView) → f ≡ Some s → g ≡ Some t → Falls s t → Leaves f g
leaves_found f g s t e d h = rw (e, d) (record { never_more = h.never_more; less = h.less })

work_never : (b : Bool) (budget : ℕ) (old new : HostState) (at id : SessionId) (o : Outcome) (found : Option SessionView) → is_same_id at id ≡ b → find old.slots at ≡ found → 1 ≤ budget → was_refused o ≡ false → OnSession (Works budget) old at found o new → works_left (find new.slots id) ≤ works_left (find old.slots id)
work_never b budget old new at id o None e f one ok u = leaves_same (find old.slots id) (find new.slots id) (ap (λ (x : HostState). find x.slots id) u.same)
work_never false budget old new at id o (Some s) e f one ok c = leaves_same (find old.slots id) (find new.slots id) ((changes_keep (Works budget) old new at s o f c).others id (other_id at id e))
work_never true budget old new at id o (Some s) e f one ok c =
    let same : at ≡ id = same_id at id e in
    (leaves_found (find old.slots id) (find new.slots id) s c.after (ap (find old.slots) (sym same) ∙ f) (ap (find new.slots) (sym same) ∙ changed_finds (Works budget) old new at s o f c) (falls_of budget s c.after o one ok c.went)).never_more

work_less : (budget : ℕ) (old new : HostState) (at : SessionId) (o : Outcome) (found : Option SessionView) → find old.slots at ≡ found → pending_of (find old.slots at) ≡ true → 1 ≤ budget → was_refused o ≡ false → OnSession (Works budget) old at found o new → works_left (find new.slots at) < works_left (find old.slots at)
work_less budget old new at o None f p one ok u = (let q : pending_of None ≡ true = sym (ap pending_of f) ∙ p in absurd (cc))
work_less budget old new at o (Some s) f p one ok c =
    (leaves_found (find old.slots at) (find new.slots at) s c.after f (changed_finds (Works budget) old new at s o f c) (falls_of budget s c.after o one ok c.went)).less p

no_more : (o : Outcome) (os : List Outcome) → count_by was_refused (o ∷ os) ≡ 0 → (was_refused o ≡ false) × (count_by was_refused os ≡ 0)
no_more o os e = no_more_by (was_refused o) refl where
  u : count_by was_refused (o ∷ os) ≡ cond (was_refused o) 1 0 + count_by was_refused os
  u = sum_by-cons (λ q. cond (was_refused q) 1 0) o os

  no_more_by : (b : Bool) → was_refused o ≡ b → (was_refused o ≡ false) × (count_by was_refused os ≡ 0)
  no_more_by true f = (let one : ◌≡◌ {A = ℕ} (cond (was_refused o) 1 0) 1 = ap (λ (b : Bool). cond b 1 0) f in absurd (omega (arith, u)))
  no_more_by false f = (let none : ◌≡◌ {A = ℕ} (cond (was_refused o) 1 0) 0 = ap (λ (b : Bool). cond b 1 0) f in (f, omega (arith, u)))

run_never : (budget : ℕ) (ids : List SessionId) (os : List Outcome) (old new : HostState) (id : SessionId) → 1 ≤ budget → count_by was_refused os ≡ 0 → IsRun old (works budget ids os) new → works_left (find new.slots id) ≤ works_left (find old.slots id)
unfolding IsRun
run_never budget [] os old new id one ok r = leaves_same (find old.slots id) (find new.slots id) (ap (λ (x : HostState). find x.slots id) r)
run_never budget (at ∷ ids) [] old new id one ok r = leaves_same (find old.slots id) (find new.slots id) (ap (λ (x : HostState). find x.slots id) r)
run_never budget (at ∷ ids) (o ∷ os) old new id one ok r =
    let a = work_never (is_same_id at id) budget old r.0 at id o (find old.slots at) refl refl one (no_more o os ok).0 r.1.stepped.0 in
    let b = run_never budget ids os r.0 new id one (no_more o os ok).1 r.2 in
    omega (arith, a, b)

same_by : (budget : ℕ) (old new : HostState) (at id : SessionId) (o : Outcome) (found : Option SessionView) → find old.slots at ≡ found → is_same_id at id ≡ false → OnSession (Works budget) old at found o new → find new.slots id ≡ find old.slots id
same_by budget old new at id o None f e u = ap (λ (x : HostState). find x.slots id) u.same
same_by budget old new at id o (Some s) f e c = (changes_keep (Works budget) old new at s o f c).others id (other_id at id e)

run_less_by : (b : Bool) (budget : ℕ) (at : SessionId) (ids : List SessionId) (o : Outcome) (os : List Outcome) (old mid new : HostState) (id : SessionId) → is_same_id at id ≡ b → 1 ≤ budget → was_refused o ≡ false → Stepped old (Work at budget) o mid → (is_same_id at id || is_in id ids) ≡ true → pending_of (find old.slots id) ≡ true
    → works_left (find new.slots id) ≤ works_left (find mid.slots id) → (is_in id ids ≡ true → pending_of (find mid.slots id) ≡ true → works_left (find new.slots id) < works_left (find mid.slots id)) → works_left (find new.slots id) < works_left (find old.slots id)
run_less_by true budget at ids o os old mid new id e one ok step is p never less =
    let same : at ≡ id = same_id at id e in
    let a : works_left (find mid.slots at) < works_left (find old.slots at) = work_less budget old mid at o (find old.slots at) refl (rw same p) one ok step.0 in
    let b : works_left (find mid.slots id) < works_left (find old.slots id) = rw same at a in
    omega (arith, never, b)
run_less_by false budget at ids o os old mid new id e one ok step is p never less =
    let kept : works_left (find mid.slots id) ≤ works_left (find old.slots id) = work_never false budget old mid at id o (find old.slots at) e refl one ok step.0 in
    let there : is_in id ids ≡ true = ap (λ (b : Bool). b || is_in id ids) (sym e) ∙ is in
    let waits : pending_of (find mid.slots id) ≡ true = ap pending_of (same_by budget old mid at id o (find old.slots at) refl e step.0) ∙ p in
    let l = less there waits in
    omega (arith, kept, l)

run_less : (budget : ℕ) (ids : List SessionId) (os : List Outcome) (old new : HostState) (id : SessionId) → 1 ≤ budget → length ids ≡ length os → count_by was_refused os ≡ 0 → is_in id ids ≡ true → pending_of (find old.slots id) ≡ true → IsRun old (works budget ids os) new → works_left (find new.slots id) < works_left (find old.slots id)
unfolding IsRun
run_less budget [] os old new id one len ok is p r = absurd (cc)
run_less budget (at ∷ ids) [] old new id one len ok is p r = absurd (omega arith)
run_less budget (at ∷ ids) (o ∷ os) old new id one len ok is p r =
    run_less_by (is_same_id at id) budget at ids o os old r.0 new id refl one (no_more o os ok).0 r.1.stepped is p (run_never budget ids os r.0 new id one (no_more o os ok).1 r.2)
    (λ there waits. run_less budget ids os r.0 new id one (omega arith) (no_more o os ok).1 there waits r.2)

-- a round without refusals brings a pending session nearer to its end
pub round_falls : (old new : HostState) (budget worked refused : ℕ) (id : SessionId) → 1 ≤ budget → refused ≡ 0 → pending_of (find old.slots id) ≡ true → IsRound old budget (pending_ids old) worked refused new → works_left (find new.slots id) < works_left (find old.slots id)
round_falls old new budget worked refused id one none p r = run_less budget (pending_ids old) r.outcomes old new id one r.each (sym r.refused_is ∙ none) (pending_in old id p) p r.run

-- a queue taken to its end
taken_all : (s t : SessionView) (n : ℕ) (bytes : List ℕ) → n ≡ length s.queued → Taken s n bytes t → (x : List ℕ) → due s x ≡ s.queued ++ due t x
taken_all s t n bytes e h x = h.owed x ∙ ap (λ xs. xs ++ due t x) (ap (λ k. take k s.queued) e ∙ take_all (length s.queued) s.queued (omega arith))

pub collects : {U : Type 0} (result : Result U HostFault) (old new : HostState) (id : SessionId) (found : Option SessionView) (queue : Bor (List ℕ)) (given made more : List ℕ) → find old.slots id ≡ found → is_err result ≡ false
    → IsQueue found (Some queue) → OnSession (Takes (length queue.now)) old id found (passed_of given result) new → more ≡ made ++ queue.now → IsCollected found (find new.slots id) made more
collects (Err fault) old new id found queue given made more e ok q c m = absurd (cc)
collects (Ok u) old new id None queue given made more e ok q c m = absurd q
collects (Ok u) old new id (Some s) queue given made more e ok q c m =
    let same : queue.now ≡ s.queued = q in
    rw (changed_finds (Takes (length queue.now)) old new id s (Gave given) e c)
    (m ∙ ap (λ xs. made ++ xs) same, taken_all s c.after (length queue.now) given (ap length same) c.went)

pub collects_none : (found : Option SessionView) (made : List ℕ) → IsQueue found None → IsCollected found found made made
collects_none None made q = (refl, refl)
collects_none (Some s) made q = absurd q

pub but_for_made : (before after : Transcript) (made : List ℕ) → after ≡ record before { made = made } → IsSameButForMade before after
but_for_made before after made e = e ∙ ap (λ (xs : List ℕ). record before { made = xs }) (sym (ap (λ (t : Transcript). t.made) e))
