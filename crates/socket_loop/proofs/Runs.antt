-- Consecutive runs of a host.
use Rattle.std.proofs.Common.{◌≡◌, ◌⊎◌, ℕ, ◌<◌, ◌≤◌, Bool, true, false, List, [], ◌∷◌, ◌++◌, Option, Some, None, refl, sym, ap, ◌∙◌, arith, append_assoc, inl, inr}
use Rattle.std.specs.Prelude.{◌||◌}
use Rattle.std.proofs.lemmas.Bool.{or_left, or_right, or_cases, or_from}
use Rattle.session_slots.specs.declared.id.SessionId.{SessionId}
use Rattle.session_slots.specs.Slots.{find}
use Rattle.usi_session.specs.Due.{SessionView}
use Rattle.host_core.specs.Steps.{HostState, Stepped, IsClosed}
use Rattle.host_core.specs.Events.{Event, Outcome, Open, Feed, Work, Take, Close}
use Rattle.host_core.specs.Made.{Step, own, taken, own_by, taken_by, opens, is_opened}
use Rattle.host_core.specs.Runs.{IsStep, IsRun}
use Rattle.host_core.specs.Rounds.{works}
use Rattle.host_core.proofs.Sees.{rises}
use Rattle.socket_loop.specs.Parts.{IsGone, IsAdmission, LeavesUntouched, closes, feed_out_of_memory, some_step}
use Rattle.socket_loop.specs.Links.{Each}

pub run-one : (old new : HostState) (step : Step) → IsStep old step new → IsRun old (step ∷ []) new
unfolding IsRun
run-one old new step s = (new, s, refl)

pub run-two : (old mid new : HostState) (first second : Step) → IsStep old first mid → IsStep mid second new → IsRun old (first ∷ second ∷ []) new
unfolding IsRun
run-two old mid new first second s t = (mid, s, (new, t, refl))

pub run-append : (old mid new : HostState) (a b : List Step) → IsRun old a mid → IsRun mid b new → IsRun old (a ++ b) new
unfolding IsRun
run-append old mid new [] b r q = rw r at q
run-append old mid new (step ∷ rest) b r q = (r.0, r.1, run-append r.0 mid new rest b r.2 q)

pub own-append : (id : SessionId) (a b : List Step) → own id (a ++ b) ≡ own id a ++ own id b
own-append id [] b = refl
own-append id (step ∷ rest) b = ap (λ xs. own_by id step.event step.outcome ++ xs) (own-append id rest b) ∙ sym (append_assoc (own_by id step.event step.outcome) (own id rest) (own id b))

pub taken-append : (id : SessionId) (a b : List Step) → taken id (a ++ b) ≡ taken id a ++ taken id b
taken-append id [] b = refl
taken-append id (step ∷ rest) b = ap (λ xs. taken_by id step.event step.outcome ++ xs) (taken-append id rest b) ∙ sym (append_assoc (taken_by id step.event step.outcome) (taken id rest) (taken id b))

pub own-works : (id : SessionId) (budget : ℕ) (ids : List SessionId) (os : List Outcome) → own id (works budget ids os) ≡ []
own-works id budget [] os = refl
own-works id budget (i ∷ ids) [] = refl
own-works id budget (i ∷ ids) (o ∷ os) = own-works id budget ids os

pub taken-works : (id : SessionId) (budget : ℕ) (ids : List SessionId) (os : List Outcome) → taken id (works budget ids os) ≡ []
taken-works id budget [] os = refl
taken-works id budget (i ∷ ids) [] = refl
taken-works id budget (i ∷ ids) (o ∷ os) = taken-works id budget ids os

pub closes-works : (id : SessionId) (budget : ℕ) (ids : List SessionId) (os : List Outcome) → some_step (closes id) (works budget ids os) ≡ false
closes-works id budget [] os = refl
closes-works id budget (i ∷ ids) [] = refl
closes-works id budget (i ∷ ids) (o ∷ os) = closes-works id budget ids os

-- a test passed in one part is passed in the whole
either_left : (x y z : Bool) → (y ≡ true → z ≡ true) → (x || y) ≡ true → (x || z) ≡ true
either_left true y z f e = refl
either_left false y z f e = f e

pub some_left : (is_so : Event → Outcome → Bool) (a b : List Step) → some_step is_so a ≡ true → some_step is_so (a ++ b) ≡ true
some_left is_so [] b e = absurd (cc)
some_left is_so (s ∷ rest) b e = either_left (is_so s.event s.outcome) (some_step is_so rest) (some_step is_so (rest ++ b)) (some_left is_so rest b) e

pub some_right : (is_so : Event → Outcome → Bool) (a b : List Step) → some_step is_so b ≡ true → some_step is_so (a ++ b) ≡ true
some_right is_so [] b e = e
some_right is_so (s ∷ rest) b e = or_right (is_so s.event s.outcome) (some_step is_so (rest ++ b)) (some_right is_so rest b e)

neither_more : (x y : Bool) (z : Bool) → (y ≡ false → z ≡ false) → (x || y) ≡ false → (x || z) ≡ false
neither_more true y z f e = absurd (cc)
neither_more false y z f e = f e

pub some_neither : (is_so : Event → Outcome → Bool) (a b : List Step) → some_step is_so a ≡ false → some_step is_so b ≡ false → some_step is_so (a ++ b) ≡ false
some_neither is_so [] b e f = f
some_neither is_so (s ∷ rest) b e f = neither_more (is_so s.event s.outcome) (some_step is_so rest) (some_step is_so (rest ++ b)) (λ g. some_neither is_so rest b g f) e

pub some_either : (is_so : Event → Outcome → Bool) (a b : List Step) → some_step is_so (a ++ b) ≡ true → (some_step is_so a ≡ true) ⊎ (some_step is_so b ≡ true)
some_either is_so [] b e = inr e
some_either is_so (s ∷ rest) b e = elim (or_cases (is_so s.event s.outcome) (some_step is_so (rest ++ b)) e) [
  | inl now ↦ inl (or_left (is_so s.event s.outcome) (some_step is_so rest) now)
  | inr later ↦ elim (some_either is_so rest b later) [ inl first ↦ inl (or_right (is_so s.event s.outcome) (some_step is_so rest) first) | inr second ↦ inr second ]
]

pub feed_out_of_memory-works : (id : SessionId) (budget : ℕ) (ids : List SessionId) (os : List Outcome) → some_step (feed_out_of_memory id) (works budget ids os) ≡ false
feed_out_of_memory-works id budget [] os = refl
feed_out_of_memory-works id budget (i ∷ ids) [] = refl
feed_out_of_memory-works id budget (i ∷ ids) (o ∷ os) = feed_out_of_memory-works id budget ids os

starves_admission : (id : SessionId) (event : Event) (o : Outcome) → IsAdmission event → feed_out_of_memory id event o ≡ false
starves_admission id Open o k = refl
starves_admission id (Feed other chunk) o k = absurd k
starves_admission id (Work other n) o k = absurd k
starves_admission id (Take other n) o k = absurd k
starves_admission id (Close other) o k = absurd k

-- an `Open` refuses no feed
pub feed_out_of_memory-admissions : (id : SessionId) (steps : List Step) → Each (λ step. IsAdmission step.event) steps → some_step (feed_out_of_memory id) steps ≡ false
feed_out_of_memory-admissions id [] k = refl
feed_out_of_memory-admissions id (s ∷ rest) k = or_from (feed_out_of_memory id s.event s.outcome) (some_step (feed_out_of_memory id) rest) (starves_admission id s.event s.outcome k.0) (feed_out_of_memory-admissions id rest k.1)

closes_admission : (id : SessionId) (event : Event) (o : Outcome) → IsAdmission event → closes id event o ≡ false
closes_admission id Open o k = refl
closes_admission id (Feed other chunk) o k = absurd k
closes_admission id (Work other n) o k = absurd k
closes_admission id (Take other n) o k = absurd k
closes_admission id (Close other) o k = absurd k

-- an `Open` closes no session
pub closes-admissions : (id : SessionId) (steps : List Step) → Each (λ step. IsAdmission step.event) steps → some_step (closes id) steps ≡ false
closes-admissions id [] k = refl
closes-admissions id (s ∷ rest) k = or_from (closes id s.event s.outcome) (some_step (closes id) rest) (closes_admission id s.event s.outcome k.0) (closes-admissions id rest k.1)

pub alone_then : (id : SessionId) (a b : List Step) → LeavesUntouched id a → LeavesUntouched id b → LeavesUntouched id (a ++ b)
alone_then id a b p q = record {
  stored = own-append id a b ∙ rw (p.stored, q.stored) refl;
  passed = taken-append id a b ∙ rw (p.passed, q.passed) refl;
  kept = some_neither (closes id) a b p.kept q.kept;
}

pub opened_left : (id : SessionId) (a b : List Step) → is_opened id a ≡ true → is_opened id (a ++ b) ≡ true
opened_left id [] b e = absurd (cc)
opened_left id (s ∷ rest) b e = either_left (opens id s.event s.outcome) (is_opened id rest) (is_opened id (rest ++ b)) (opened_left id rest b) e

pub opened_right : (id : SessionId) (a b : List Step) → is_opened id b ≡ true → is_opened id (a ++ b) ≡ true
opened_right id [] b e = e
opened_right id (s ∷ rest) b e = or_right (opens id s.event s.outcome) (is_opened id (rest ++ b)) (opened_right id rest b e)

pub all_append : (kind : Event → Type 0) (a b : List Step) → Each (λ step. kind step.event) a → Each (λ step. kind step.event) b → Each (λ step. kind step.event) (a ++ b)
all_append kind [] b i j = j
all_append kind (step ∷ rest) b i j = (i.0, all_append kind rest b i.1 j)

-- the generation of the next id never falls
pub next_rises : (old new : HostState) (steps : List Step) → IsRun old steps new → old.slots.next ≤ new.slots.next
unfolding IsRun
next_rises old new [] r = (let e : new.slots.next ≡ old.slots.next = ap (λ (h : HostState). h.slots.next) r in omega arith)
next_rises old new (step ∷ rest) r =
    let id : SessionId = record { slot = 0; generation = 0 } in
    let u : old.slots.next ≤ r.0.slots.next = (rises old r.0 id step.event step.outcome r.1.stepped).rises in
    let v : r.0.slots.next ≤ new.slots.next = next_rises r.0 new rest r.2 in
    omega arith

pub step_rises : (old new : HostState) (event : Event) (o : Outcome) → Stepped old event o new → old.slots.next ≤ new.slots.next
step_rises old new event o s = (rises old new (record { slot = 0; generation = 0 }) event o s).rises

closed_none : (old new : HostState) (id : SessionId) (o : Outcome) (found : Option SessionView) → find old.slots id ≡ found → IsClosed old id found o new → find new.slots id ≡ None
closed_none old new id o None e u = ap (λ (h : HostState). find h.slots id) u.same ∙ e
closed_none old new id o (Some s) e c = c.none

-- after its `Close` an id finds no session
pub closed : (old new : HostState) (id : SessionId) (o : Outcome) → Stepped old (Close id) o new → id.generation < old.slots.next → IsGone new id
closed old new id o s h =
    let u : old.slots.next ≤ new.slots.next = step_rises old new (Close id) o s in
    record { none = closed_none old new id o (find old.slots id) refl s; below = omega arith }
