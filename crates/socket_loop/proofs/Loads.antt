-- The effect of a turn on the load of a pending session.
use Rattle.std.proofs.Common.{◌≡◌, ◌⊎◌, ℕ, ◌+◌, ◌<◌, ◌≤◌, Bool, true, false, List, [], ◌∷◌, ◌++◌, length, Option, Some, None, refl, sym, ap, ◌∙◌, arith, inl, inr}
use Rattle.std.specs.Prelude.{is_some, nat_lt, ◌||◌, ◌&&◌, not}
use Rattle.std.proofs.lemmas.Bool.{or_left, or_right, both_ways}
use Rattle.session_slots.specs.declared.id.SessionId.{SessionId}
use Rattle.session_slots.specs.Slots.{find}
use Rattle.session_slots.proofs.Finds.{find-with_session, find-with_session-other}
use Rattle.usi_lines.specs.Lines.{ahead}
use Rattle.usi_session.specs.declared.limits.TheConstants.{QUEUE_FULL}
use Rattle.usi_session.specs.Due.{SessionView, has_line, is_pending, load}
use Rattle.host_core.specs.declared.event.HostFault.TheVariants.{Full, OutOfMemory, UnknownSession, NotReady}
use Rattle.host_core.specs.Events.{Event, Open, Feed, Work, Take, Close, Outcome, Opened, Done, Worked, Gave, Refused}
use Rattle.host_core.specs.Sessions.{Feeds, Works, Takes, WorkedOn}
use Rattle.host_core.specs.Steps.{HostState, OnSession, IsOpened, IsClosed, Stepped}
use Rattle.host_core.specs.Made.{Step, is_same_id}
use Rattle.host_core.specs.Runs.{IsRun}
use Rattle.host_core.specs.Rounds.{IsRound, works, pending_ids}
use Rattle.host_core.specs.ById.{pending_of}
use Rattle.host_core.proofs.Ids.{same_id, other_id, is_same_id-refl}
use Rattle.host_core.proofs.OneSession.{gone}
use Rattle.host_core.proofs.Rounds.{is_in, pending_in}
use Rattle.socket_loop.specs.Parts.{IsAdmission, IsInput, IsOutput, IsEnd, work_failed, some_step}
use Rattle.socket_loop.specs.Scenes.{Scene}
use Rattle.socket_loop.specs.Turns.{IsTurn}
use Rattle.socket_loop.proofs.Runs.{step_rises, next_rises, all_append, some_left, some_right}
use Rattle.socket_loop.specs.Links.{Each}

-- ---- steps that are no work

abbrev is_work : Event → Bool
is_work Open = false
is_work (Feed id chunk) = false
is_work (Work id budget) = true
is_work (Take id n) = false
is_work (Close id) = false

abbrev is_feed : Event → Bool
is_feed Open = false
is_feed (Feed id chunk) = true
is_feed (Work id budget) = false
is_feed (Take id n) = false
is_feed (Close id) = false

-- the session is closed, or as pending as before with the same load
abbrev KeepsLoad : SessionView → Option SessionView → Type 0
KeepsLoad s None = Unit {0}
KeepsLoad s (Some t) = (is_pending t ≡ is_pending s) × (load t ≡ load s)

keeps_some : (s t : SessionView) (found_ : Option SessionView) → found_ ≡ Some t → (is_pending t ≡ is_pending s) × (load t ≡ load s) → KeepsLoad s found_
keeps_some s t found_ e p = rw e p

keeps_none : (s : SessionView) (found_ : Option SessionView) → found_ ≡ None → KeepsLoad s found_
keeps_none s found_ e = rw e tt

keeps_same : (s : SessionView) (found_ : Option SessionView) → found_ ≡ Some s → KeepsLoad s found_
keeps_same s found_ e = keeps_some s s found_ e (refl, refl)

keeps_then : (s t : SessionView) (found_ : Option SessionView) → (is_pending t ≡ is_pending s) × (load t ≡ load s) → KeepsLoad t found_ → KeepsLoad s found_
keeps_then s t None p q = tt
keeps_then s t (Some u) p q = (q.0 ∙ p.0, q.1 ∙ p.1)

wants_or : (over there room : Bool) → (not over && not there && room) ≡ true → (not over && there) ≡ true → ⊥
wants_or true there room e f = absurd (cc)
wants_or false true room e f = absurd (cc)
wants_or false false room e f = absurd (cc)

feeds_load : (chunk : List ℕ) (s : SessionView) (o : Outcome) (t : SessionView) → is_pending s ≡ true → Feeds chunk s o t → (is_pending t ≡ is_pending s) × (load t ≡ load s)
feeds_load chunk s Done t p f = absurd (wants_or s.state.is_over (is_some s.go_task || has_line (ahead s.input [])) (nat_lt (length s.queued) QUEUE_FULL) f.could.0 p)
feeds_load chunk s (Opened id) t p f = absurd f
feeds_load chunk s (Worked n) t p f = absurd f
feeds_load chunk s (Gave bytes) t p f = absurd f
feeds_load chunk s (Refused Full) t p f = absurd f
feeds_load chunk s (Refused UnknownSession) t p f = absurd f
feeds_load chunk s (Refused OutOfMemory) t p f = rw f.1 (refl, refl)
feeds_load chunk s (Refused NotReady) t p f = rw f.1 (refl, refl)

takes_load : (n : ℕ) (s : SessionView) (o : Outcome) (t : SessionView) → Takes n s o t → (is_pending t ≡ is_pending s) × (load t ≡ load s)
takes_load n s Done t f = absurd f
takes_load n s (Opened id) t f = absurd f
takes_load n s (Worked m) t f = absurd f
takes_load n s (Gave bytes) t f = rw (f.state_is, f.running_go_is, f.input_is) (refl, refl)
takes_load n s (Refused Full) t f = absurd f
takes_load n s (Refused UnknownSession) t f = absurd f
takes_load n s (Refused OutOfMemory) t f = rw f.1 (refl, refl)
takes_load n s (Refused NotReady) t f = rw f.1 (refl, refl)

on_load : (goes : SessionView → Outcome → SessionView → Type 0) (old new : HostState) (at id : SessionId) (o : Outcome) (s : SessionView) (found_ : Option SessionView) (same : Bool) → is_same_id at id ≡ same → find old.slots id ≡ Some s → find old.slots at ≡ found_ → OnSession goes old at found_ o new
    → ((t : SessionView) → goes s o t → (is_pending t ≡ is_pending s) × (load t ≡ load s)) → KeepsLoad s (find new.slots id)
on_load goes old new at id o s None same e f h u g = keeps_same s (find new.slots id) (ap (λ (x : HostState). find x.slots id) u.same ∙ f)
on_load goes old new at id o s (Some t) true e f h c g =
    let is : at ≡ id = same_id at id e in
    let both : Some t ≡ Some s = sym h ∙ (ap (find old.slots) is ∙ f) in
    let one : t ≡ s = cc in
    let went : goes s o c.after = rw one at c.went in
    keeps_some s c.after (find new.slots id) (ap (find new.slots) (sym is) ∙ (ap (λ q. find q at) c.slots_are ∙ find-with_session old.slots at t c.after h)) (g c.after went)
on_load goes old new at id o s (Some t) false e f h c g =
    keeps_same s (find new.slots id) (ap (λ q. find q id) c.slots_are ∙ (find-with_session-other old.slots at id t c.after h (other_id at id e) ∙ f))

open_load : (old new : HostState) (id : SessionId) (o : Outcome) (s : SessionView) → find old.slots id ≡ Some s → IsOpened old o new → KeepsLoad s (find new.slots id)
open_load old new id (Opened at) s f p = by (is_same_id at id) refl
  where
    by : (b : Bool) → is_same_id at id ≡ b → KeepsLoad s (find new.slots id)
    by true e = (let n : Some s ≡ None = sym f ∙ (ap (find old.slots) (sym (same_id at id e)) ∙ p.opens.was) in absurd (cc))
    by false e = keeps_same s (find new.slots id) (p.opens.others id (other_id at id e) ∙ f)
open_load old new id Done s f p = absurd p
open_load old new id (Worked n) s f p = absurd p
open_load old new id (Gave bytes) s f p = absurd p
open_load old new id (Refused Full) s f p = keeps_same s (find new.slots id) (ap (λ (h : HostState). find h.slots id) p.1 ∙ f)
open_load old new id (Refused OutOfMemory) s f p = keeps_same s (find new.slots id) (ap (λ (h : HostState). find h.slots id) p.1 ∙ f)
open_load old new id (Refused UnknownSession) s f p = absurd p
open_load old new id (Refused NotReady) s f p = absurd p

close_load : (old new : HostState) (at id : SessionId) (o : Outcome) (s : SessionView) (found_ : Option SessionView) (same : Bool) → is_same_id at id ≡ same → find old.slots id ≡ Some s → IsClosed old at found_ o new → KeepsLoad s (find new.slots id)
close_load old new at id o s None same e f u = keeps_same s (find new.slots id) (ap (λ (h : HostState). find h.slots id) u.same ∙ f)
close_load old new at id o s (Some t) true e f c = keeps_none s (find new.slots id) (ap (find new.slots) (sym (same_id at id e)) ∙ c.none)
close_load old new at id o s (Some t) false e f c = keeps_same s (find new.slots id) (c.others id (other_id at id e) ∙ f)

load_step : (old new : HostState) (id : SessionId) (event : Event) (o : Outcome) (s : SessionView) → Stepped old event o new → find old.slots id ≡ Some s → is_work event ≡ false → (is_feed event ≡ true → is_pending s ≡ true) → KeepsLoad s (find new.slots id)
load_step old new id Open o s p f w g = open_load old new id o s f p
load_step old new id (Feed at chunk) o s p f w g = on_load (Feeds chunk) old new at id o s (find old.slots at) (is_same_id at id) refl f refl p.0 (λ t went. feeds_load chunk s o t (g refl) went)
load_step old new id (Work at budget) o s p f w g = absurd (cc)
load_step old new id (Take at n) o s p f w g = on_load (Takes n) old new at id o s (find old.slots at) (is_same_id at id) refl f refl p.0 (λ t went. takes_load n s o t went)
load_step old new id (Close at) o s p f w g = close_load old new at id o s (find old.slots at) (is_same_id at id) refl f p

-- steps that are no work, one after the other
mutual_load : (kind : Event → Type 0) (mid i : HostState) (id : SessionId) (rest : List Step) (s : SessionView) (found_ : Option SessionView) → find mid.slots id ≡ found_ → id.generation < mid.slots.next → IsRun mid rest i → KeepsLoad s found_
    → ((t : SessionView) → find mid.slots id ≡ Some t → is_pending t ≡ is_pending s → KeepsLoad t (find i.slots id)) → KeepsLoad s (find i.slots id)
mutual_load kind mid i id rest s None e lt r p more = keeps_none s (find i.slots id) (gone mid i id rest e lt r).none
mutual_load kind mid i id rest s (Some t) e lt r p more = keeps_then s t (find i.slots id) p (more t e p.0)

load_run : (kind : Event → Type 0) (h i : HostState) (id : SessionId) (steps : List Step) (s : SessionView) → ((e : Event) → kind e → is_work e ≡ false) → ((e : Event) → kind e → is_feed e ≡ true → is_pending s ≡ true) → Each (λ step. kind step.event) steps → id.generation < h.slots.next → find h.slots id ≡ Some s → IsRun h steps i → KeepsLoad s (find i.slots id)
unfolding IsRun
load_run kind h i id [] s w g all lt f r = keeps_same s (find i.slots id) (ap (λ (x : HostState). find x.slots id) r ∙ f)
load_run kind h i id (step ∷ rest) s w g all lt f r =
    let u : h.slots.next ≤ r.0.slots.next = step_rises h r.0 step.event step.outcome r.1.stepped in
    let first : KeepsLoad s (find r.0.slots id) = load_step h r.0 id step.event step.outcome s r.1.stepped f (w step.event all.0) (g step.event all.0) in
    mutual_load kind r.0 i id rest s (find r.0.slots id) refl (omega arith) r.2 first
    (λ t e same. load_run kind r.0 i id rest t w (λ e_ k feed. same ∙ g e_ k feed) all.1 (omega arith) e r.2)

-- ---- the round

-- the session is closed, or has nothing pending, or `budget` steps less to do
abbrev pub Nearer : ℕ → SessionView → Option SessionView → Type 0
Nearer budget s None = Unit {0}
Nearer budget s (Some t) = (is_pending t ≡ false) ⊎ (budget + load t ≤ load s)

-- the load did not grow, and nothing became pending
abbrev NoMore : SessionView → Option SessionView → Type 0
NoMore s None = Unit {0}
NoMore s (Some t) = (load t ≤ load s) × (is_pending s ≡ false → is_pending t ≡ false)

no_more_some : (s t : SessionView) (found_ : Option SessionView) → found_ ≡ Some t → (load t ≤ load s) × (is_pending s ≡ false → is_pending t ≡ false) → NoMore s found_
no_more_some s t found_ e p = rw e p

no_more_then : (s t : SessionView) (found_ : Option SessionView) → (load t ≤ load s) × (is_pending s ≡ false → is_pending t ≡ false) → NoMore t found_ → NoMore s found_
no_more_then s t None p q = tt
no_more_then s t (Some u) p q = (let a : load t ≤ load s = p.0 in let b : load u ≤ load t = q.0 in omega arith, λ e. q.1 (p.1 e))

-- a `Work` of a session is refused, or made
record WorksOnce (budget : ℕ) (s : SessionView) (new : HostState) (id : SessionId) : Type 0 where
  pub after : SessionView
  pub steps : ℕ
  pub worked : WorkedOn s budget steps after
  pub finds : find new.slots id ≡ Some after

once_worked : (budget : ℕ) (old new : HostState) (at id : SessionId) (o : Outcome) (s : SessionView) (found_ : Option SessionView) → at ≡ id → find old.slots id ≡ Some s → find old.slots at ≡ found_ → OnSession (Works budget) old at found_ o new → (work_failed id (Work at budget) o ≡ true) ⊎ WorksOnce budget s new id
once_worked budget old new at id o s None is f h u = (let n : Some s ≡ None = sym f ∙ (ap (find old.slots) (sym is) ∙ h) in absurd (cc))
once_worked budget old new at id (Worked n) s (Some t) is f h c =
    let both : Some t ≡ Some s = sym h ∙ (ap (find old.slots) is ∙ f) in
    let one : t ≡ s = cc in
    inr (record { after = c.after; steps = n; worked = rw one at c.went; finds = ap (find new.slots) (sym is) ∙ (ap (λ q. find q at) c.slots_are ∙ find-with_session old.slots at t c.after h) })
once_worked budget old new at id (Refused fault) s (Some t) is f h c = inl (rw is (is_same_id-refl id))
once_worked budget old new at id Done s (Some t) is f h c = absurd c.went
once_worked budget old new at id (Opened x) s (Some t) is f h c = absurd c.went
once_worked budget old new at id (Gave bytes) s (Some t) is f h c = absurd c.went

other_worked : (budget : ℕ) (old new : HostState) (at id : SessionId) (o : Outcome) (found_ : Option SessionView) → is_same_id at id ≡ false → find old.slots at ≡ found_ → OnSession (Works budget) old at found_ o new → find new.slots id ≡ find old.slots id
other_worked budget old new at id o None e h u = ap (λ (x : HostState). find x.slots id) u.same
other_worked budget old new at id o (Some t) e h c = ap (λ q. find q id) c.slots_are ∙ find-with_session-other old.slots at id t c.after h (other_id at id e)

worked_no_more : (budget n : ℕ) (s t : SessionView) → WorkedOn s budget n t → (load t ≤ load s) × (is_pending s ≡ false → is_pending t ≡ false)
worked_no_more budget n s t w = (let m : n + load t ≤ load s = w.made in omega arith, λ e. rw ((w.idle e).1) e)

later_by : (budget : ℕ) (at : SessionId) (ids : List SessionId) (o : Outcome) (os : List Outcome) (h mid i : HostState) (id : SessionId) (s : SessionView) (same : Bool) → is_same_id at id ≡ same → find h.slots id ≡ Some s → Stepped h (Work at budget) o mid
    → ((t : SessionView) → find mid.slots id ≡ Some t → (some_step (work_failed id) (works budget ids os) ≡ true) ⊎ NoMore t (find i.slots id)) → (some_step (work_failed id) (works budget (at ∷ ids) (o ∷ os)) ≡ true) ⊎ NoMore s (find i.slots id)
later_by budget at ids o os h mid i id s true e f p more = elim (once_worked budget h mid at id o s (find h.slots at) (same_id at id e) f refl p.0) [
  | inl refused ↦ inl (or_left (work_failed id (Work at budget) o) (some_step (work_failed id) (works budget ids os)) refused)
  | inr w ↦ elim (more w.after w.finds) [
    | inl refused ↦ inl (or_right (work_failed id (Work at budget) o) (some_step (work_failed id) (works budget ids os)) refused)
    | inr q ↦ inr (no_more_then s w.after (find i.slots id) (worked_no_more budget w.steps s w.after w.worked) q)
  ]
]
later_by budget at ids o os h mid i id s false e f p more = elim (more s (other_worked budget h mid at id o (find h.slots at) e refl p.0 ∙ f)) [
  | inl refused ↦ inl (or_right (work_failed id (Work at budget) o) (some_step (work_failed id) (works budget ids os)) refused)
  | inr q ↦ inr q
]

later_works : (budget : ℕ) (ids : List SessionId) (os : List Outcome) (h i : HostState) (id : SessionId) (s : SessionView) → find h.slots id ≡ Some s → IsRun h (works budget ids os) i → (some_step (work_failed id) (works budget ids os) ≡ true) ⊎ NoMore s (find i.slots id)
unfolding IsRun
later_works budget [] os h i id s f r = inr (no_more_some s s (find i.slots id) (ap (λ (x : HostState). find x.slots id) r ∙ f) (omega arith, λ e. e))
later_works budget (at ∷ ids) [] h i id s f r = inr (no_more_some s s (find i.slots id) (ap (λ (x : HostState). find x.slots id) r ∙ f) (omega arith, λ e. e))
later_works budget (at ∷ ids) (o ∷ os) h i id s f r =
    later_by budget at ids o os h r.0 i id s (is_same_id at id) refl f r.1.stepped (λ t e. later_works budget ids os r.0 i id t e r.2)

nearer_by : (budget n : ℕ) (s t : SessionView) (pending : Bool) (found_ : Option SessionView) → is_pending t ≡ pending → WorkedOn s budget n t → NoMore t found_ → Nearer budget s found_
nearer_by budget n s t pending None e w q = tt
nearer_by budget n s t true (Some u) e w q =
    let m : n + load t ≤ load s = w.made in
    let all : n ≡ budget = (w.spent e).0 in
    let less : load u ≤ load t = q.0 in
    inr (omega arith)
nearer_by budget n s t false (Some u) e w q = inl (q.1 e)

works_near_by : (budget : ℕ) (at : SessionId) (ids : List SessionId) (o : Outcome) (os : List Outcome) (h mid i : HostState) (id : SessionId) (s : SessionView) (same : Bool) → is_same_id at id ≡ same → (is_same_id at id || is_in id ids) ≡ true → find h.slots id ≡ Some s → Stepped h (Work at budget) o mid → IsRun mid (works budget ids os) i
    → (is_in id ids ≡ true → find mid.slots id ≡ Some s → (some_step (work_failed id) (works budget ids os) ≡ true) ⊎ Nearer budget s (find i.slots id)) → (some_step (work_failed id) (works budget (at ∷ ids) (o ∷ os)) ≡ true) ⊎ Nearer budget s (find i.slots id)
works_near_by budget at ids o os h mid i id s true e there f p r more = elim (once_worked budget h mid at id o s (find h.slots at) (same_id at id e) f refl p.0) [
  | inl refused ↦ inl (or_left (work_failed id (Work at budget) o) (some_step (work_failed id) (works budget ids os)) refused)
  | inr w ↦ elim (later_works budget ids os mid i id w.after w.finds r) [
    | inl refused ↦ inl (or_right (work_failed id (Work at budget) o) (some_step (work_failed id) (works budget ids os)) refused)
    | inr q ↦ inr (nearer_by budget w.steps s w.after (is_pending w.after) (find i.slots id) refl w.worked q)
  ]
]
works_near_by budget at ids o os h mid i id s false e there f p r more =
    let rest : is_in id ids ≡ true = ap (λ (b : Bool). b || is_in id ids) (sym e) ∙ there in
    elim (more rest (other_worked budget h mid at id o (find h.slots at) e refl p.0 ∙ f)) [
      | inl refused ↦ inl (or_right (work_failed id (Work at budget) o) (some_step (work_failed id) (works budget ids os)) refused)
      | inr q ↦ inr q
    ]

works_near : (budget : ℕ) (ids : List SessionId) (os : List Outcome) (h i : HostState) (id : SessionId) (s : SessionView) → length ids ≡ length os → is_in id ids ≡ true → find h.slots id ≡ Some s → IsRun h (works budget ids os) i → (some_step (work_failed id) (works budget ids os) ≡ true) ⊎ Nearer budget s (find i.slots id)
unfolding IsRun
works_near budget [] os h i id s len there f r = absurd (cc)
works_near budget (at ∷ ids) [] h i id s len there f r = absurd (omega arith)
works_near budget (at ∷ ids) (o ∷ os) h i id s len there f r =
    works_near_by budget at ids o os h r.0 i id s (is_same_id at id) refl there f r.1.stepped r.2 (λ rest e. works_near budget ids os r.0 i id s (omega arith) rest e r.2)

-- ---- a turn

abbrev IsNoWork : Event → Type 0
IsNoWork e = is_work e ≡ false

abbrev IsQuietEvent : Event → Type 0
IsQuietEvent e = (is_work e ≡ false) × (is_feed e ≡ false)

all_are : (kind other : Event → Type 0) (steps : List Step) → ((e : Event) → kind e → other e) → Each (λ step. kind step.event) steps → Each (λ step. other step.event) steps
all_are kind other [] f k = tt
all_are kind other (s ∷ rest) f k = (f s.event k.0, all_are kind other rest f k.1)

admission_quiet : (e : Event) → IsAdmission e → IsNoWork e
admission_quiet Open k = refl
admission_quiet (Feed id chunk) k = absurd k
admission_quiet (Work id n) k = absurd k
admission_quiet (Take id n) k = absurd k
admission_quiet (Close id) k = refl

input_quiet : (e : Event) → IsInput e → IsNoWork e
input_quiet Open k = absurd k
input_quiet (Feed id chunk) k = refl
input_quiet (Work id n) k = absurd k
input_quiet (Take id n) k = absurd k
input_quiet (Close id) k = refl

output_quiet : (e : Event) → IsOutput e → IsQuietEvent e
output_quiet Open k = absurd k
output_quiet (Feed id chunk) k = absurd k
output_quiet (Work id n) k = absurd k
output_quiet (Take id n) k = (refl, refl)
output_quiet (Close id) k = (refl, refl)

end_quiet : (e : Event) → IsEnd e → IsQuietEvent e
end_quiet Open k = absurd k
end_quiet (Feed id chunk) k = absurd k
end_quiet (Work id n) k = absurd k
end_quiet (Take id n) k = absurd k
end_quiet (Close id) k = (refl, refl)

nearer_kept : (budget : ℕ) (s t u : SessionView) (found_ : Option SessionView) → load t ≡ load s → (is_pending u ≡ false) ⊎ (budget + load u ≤ load t) → KeepsLoad u found_ → Nearer budget s found_
nearer_kept budget s t u None e p k = tt
nearer_kept budget s t u (Some v) e (inl none) k = inl (k.0 ∙ none)
nearer_kept budget s t u (Some v) e (inr less) k = (let a : load v ≡ load u = k.1 in inr (omega arith))

nearer_none : (budget : ℕ) (s : SessionView) (found_ : Option SessionView) → found_ ≡ None → Nearer budget s found_
nearer_none budget s found_ e = rw e tt

-- the steps after the round keep the load
near_late : (budget : ℕ) (end after : HostState) (id : SessionId) (late : List Step) (s t : SessionView) (found_ : Option SessionView) → load t ≡ load s → id.generation < end.slots.next → Each (λ step. IsQuietEvent step.event) late → IsRun end late after → find end.slots id ≡ found_ → Nearer budget t found_ → Nearer budget s (find after.slots id)
near_late budget end after id late s t None e lt all r f n = nearer_none budget s (find after.slots id) (gone end after id late f lt r).none
near_late budget end after id late s t (Some u) e lt all r f n =
    nearer_kept budget s t u (find after.slots id) e n (load_run IsQuietEvent end after id late u (λ e_ k. k.0) (λ e_ k feed. absurd (both_ways (is_feed e_) k.1 feed)) all lt f r)

near_round : (slice : ℕ) (start end after : HostState) (id : SessionId) (late : List Step) (s : SessionView) (worked refused : ℕ) (r : IsRound start slice (pending_ids start) worked refused end) (found_ : Option SessionView) → is_pending s ≡ true → id.generation < start.slots.next → Each (λ step. IsQuietEvent step.event) late → IsRun end late after → find start.slots id ≡ found_ → KeepsLoad s found_
    → (some_step (work_failed id) (works slice (pending_ids start) r.outcomes) ≡ true) ⊎ Nearer slice s (find after.slots id)
near_round slice start end after id late s worked refused r None p lt all q f k =
    let u : start.slots.next ≤ end.slots.next = next_rises start end (works slice (pending_ids start) r.outcomes) r.run in
    inr (nearer_none slice s (find after.slots id) (gone end after id late (gone start end id (works slice (pending_ids start) r.outcomes) f lt r.run).none (omega arith) q).none)
near_round slice start end after id late s worked refused r (Some t) p lt all q f k =
    let u : start.slots.next ≤ end.slots.next = next_rises start end (works slice (pending_ids start) r.outcomes) r.run in
    let waits : pending_of (find start.slots id) ≡ true = ap pending_of f ∙ (k.0 ∙ p) in
    elim (works_near slice (pending_ids start) r.outcomes start end id t r.each (pending_in start id waits) f r.run) [
      | inl refused_ ↦ inl refused_
      | inr near ↦ inr (near_late slice end after id late s t (find end.slots id) k.1 (omega arith) all q refl near)
    ]

-- in a turn, a pending session is closed, has nothing pending, has one slice less to do, or its `Work` is refused
pub near_turn : (slice : ℕ) (moved : Bool) (x y : Scene) (turn : IsTurn slice moved x y) (id : SessionId) (s : SessionView) → id.generation < x.host.slots.next → find x.host.slots id ≡ Some s → is_pending s ≡ true → (some_step (work_failed id) turn.host.steps ≡ true) ⊎ Nearer slice s (find y.host.slots id)
near_turn slice moved x y turn id s lt e p =
    let early : List Step = turn.host.parts.admissions ++ turn.host.parts.inputs in
    let late : List Step = turn.host.parts.outputs ++ turn.host.parts.ends in
    let middle : List Step = works slice (pending_ids turn.host.start) turn.host.round.outcomes in
    let u : x.host.slots.next ≤ turn.host.start.slots.next = next_rises x.host turn.host.start early turn.host.to_round in
    let before : Each (λ step. IsNoWork step.event) early = all_append IsNoWork turn.host.parts.admissions turn.host.parts.inputs (all_are IsAdmission IsNoWork turn.host.parts.admissions admission_quiet turn.host.parts.admissions_are) (all_are IsInput IsNoWork turn.host.parts.inputs input_quiet turn.host.parts.inputs_are) in
    let after : Each (λ step. IsQuietEvent step.event) late = all_append IsQuietEvent turn.host.parts.outputs turn.host.parts.ends (all_are IsOutput IsQuietEvent turn.host.parts.outputs output_quiet turn.host.parts.outputs_are) (all_are IsEnd IsQuietEvent turn.host.parts.ends end_quiet turn.host.parts.ends_are) in
    let k : KeepsLoad s (find turn.host.start.slots id) = load_run IsNoWork x.host turn.host.start id early s (λ e_ q. q) (λ e_ q feed. p) before lt e turn.host.to_round in
    elim (near_round slice turn.host.start turn.host.end y.host id late s turn.host.worked turn.host.refused turn.host.round (find turn.host.start.slots id) p (omega arith) after turn.host.from_round refl k) [
      | inl refused ↦ inl (rw turn.host.steps_are (some_right (work_failed id) early (middle ++ late) (some_left (work_failed id) middle late refused)))
      | inr near ↦ inr near
    ]
