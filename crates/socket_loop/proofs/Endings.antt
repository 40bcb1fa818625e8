-- How a session ends that a run of a host closes.
use Rattle.std.proofs.Common.{◌≡◌, ◌⊎◌, ℕ, Bool, true, false, List, [], ◌∷◌, ◌++◌, length, Option, Some, None, refl, sym, ap, ◌∙◌, arith, append-nil, inl, inr}
use Rattle.std.specs.Prelude.{IsSome, ◌||◌, ◌&&◌, ◌==◌, not}
use Rattle.std.proofs.lemmas.Bool.{and_parts, eqb-true, or_cases, or_left, or_right, both_ways}
use Rattle.session_slots.specs.declared.id.SessionId.{SessionId}
use Rattle.session_slots.specs.Slots.{find, Opens}
use Rattle.session_slots.proofs.Finds.{find-with_session, find-with_session-other}
use Rattle.usi_session.specs.Due.{SessionView, is_pending, new_session_under}
use Rattle.usi_session.proofs.Settled.{due-over, state_due-over}
use Rattle.host_core.specs.declared.event.HostFault.TheVariants.{Full, OutOfMemory, UnknownSession, NotReady}
use Rattle.host_core.specs.Events.{Event, Open, Feed, Work, Take, Close, Outcome, Opened, Done, Worked, Gave, Refused}
use Rattle.host_core.specs.Sessions.{Feeds, Works, Takes}
use Rattle.host_core.specs.Steps.{HostState, OnSession, IsOpened, IsClosed, Stepped}
use Rattle.host_core.specs.Made.{Step, own, taken, is_same_id, opens, is_opened}
use Rattle.host_core.specs.Runs.{IsRun}
use Rattle.host_core.specs.Headline.{EndsFrom, OverFrom}
use Rattle.host_core.proofs.Ids.{same_id, other_id}
use Rattle.host_core.proofs.OneSession.{IsGone as IsOut}
use Rattle.socket_loop.specs.declared.connection.Link.{Link}
use Rattle.socket_loop.specs.declared.connection.Connection.{Connection}
use Rattle.socket_loop.specs.Parts.{Finished, IsGone, closes, is_finished_with, some_step}
use Rattle.socket_loop.proofs.Runs.{own-append, taken-append, closed}
use Rattle.socket_loop.proofs.Parts.{out_gone}
use Rattle.socket_loop.proofs.Quiet.{Neither, either_false}
use Rattle.socket_loop.proofs.Lives.{all_written}

-- ---- a session stays open until it is closed

pub some_of : (o : Option SessionView) (t : SessionView) → o ≡ Some t → IsSome o
some_of o t e = rw e refl

pub not_none : (o : Option SessionView) → IsSome o → o ≡ None → ⊥
not_none None s e = absurd (cc)
not_none (Some t) s e = absurd (cc)

-- the session found
pub record Found (o : Option SessionView) : Type 0 where
  pub session : SessionView
  pub is : o ≡ Some session

pub found : (o : Option SessionView) → IsSome o → Found o
found None s = absurd (cc)
found (Some t) s = record { session = t; is = refl }

same_some : (a b : Option SessionView) → b ≡ a → IsSome a → IsSome b
same_some a b e s = rw e s

on_open : (goes : SessionView → Outcome → SessionView → Type 0) (old new : HostState) (at id : SessionId) (o : Outcome) (found_ : Option SessionView) (same : Bool) → is_same_id at id ≡ same → find old.slots at ≡ found_ → OnSession goes old at found_ o new → IsSome (find old.slots id) → IsSome (find new.slots id)
on_open goes old new at id o None same e f u s = same_some _ _ (ap (λ (h : HostState). find h.slots id) u.same) s
on_open goes old new at id o (Some t) true e f c s =
    some_of (find new.slots id) c.after (ap (find new.slots) (sym (same_id at id e)) ∙ (ap (λ q. find q at) c.slots_are ∙ find-with_session old.slots at t c.after f))
on_open goes old new at id o (Some t) false e f c s =
    same_some _ _ (ap (λ q. find q id) c.slots_are ∙ find-with_session-other old.slots at id t c.after f (other_id at id e)) s

opened_open : (old new : HostState) (at id : SessionId) (same : Bool) → is_same_id at id ≡ same → Opens old.slots new.slots at (new_session_under old.setup) → IsSome (find old.slots id) → IsSome (find new.slots id)
opened_open old new at id true e p s = some_of (find new.slots id) (new_session_under old.setup) (ap (find new.slots) (sym (same_id at id e)) ∙ p.now)
opened_open old new at id false e p s = same_some _ _ (p.others id (other_id at id e)) s

open_open : (old new : HostState) (id : SessionId) (o : Outcome) → IsOpened old o new → IsSome (find old.slots id) → IsSome (find new.slots id)
open_open old new id (Opened at) p s = opened_open old new at id (is_same_id at id) refl p.opens s
open_open old new id Done p s = absurd p
open_open old new id (Worked n) p s = absurd p
open_open old new id (Gave bytes) p s = absurd p
open_open old new id (Refused Full) p s = same_some _ _ (ap (λ (h : HostState). find h.slots id) p.1) s
open_open old new id (Refused OutOfMemory) p s = same_some _ _ (ap (λ (h : HostState). find h.slots id) p.1) s
open_open old new id (Refused UnknownSession) p s = absurd p
open_open old new id (Refused NotReady) p s = absurd p

close_open : (old new : HostState) (at id : SessionId) (o : Outcome) (found_ : Option SessionView) → is_same_id at id ≡ false → IsClosed old at found_ o new → IsSome (find old.slots id) → IsSome (find new.slots id)
close_open old new at id o None e u s = same_some _ _ (ap (λ (h : HostState). find h.slots id) u.same) s
close_open old new at id o (Some t) e c s = same_some _ _ (c.others id (other_id at id e)) s

step_open : (old new : HostState) (id : SessionId) (event : Event) (o : Outcome) → Stepped old event o new → closes id event o ≡ false → IsSome (find old.slots id) → IsSome (find new.slots id)
step_open old new id Open o p e s = open_open old new id o p s
step_open old new id (Feed at chunk) o p e s = on_open (Feeds chunk) old new at id o (find old.slots at) (is_same_id at id) refl refl p.0 s
step_open old new id (Work at budget) o p e s = on_open (Works budget) old new at id o (find old.slots at) (is_same_id at id) refl refl p.0 s
step_open old new id (Take at n) o p e s = on_open (Takes n) old new at id o (find old.slots at) (is_same_id at id) refl refl p.0 s
step_open old new id (Close at) o p e s = close_open old new at id o (find old.slots at) e p s

pub stays_open : (h i : HostState) (id : SessionId) (steps : List Step) → IsRun h steps i → some_step (closes id) steps ≡ false → IsSome (find h.slots id) → IsSome (find i.slots id)
unfolding IsRun
stays_open h i id [] r e s = same_some _ _ (ap (λ (x : HostState). find x.slots id) r) s
stays_open h i id (step ∷ rest) r e s =
    let n : Neither (closes id step.event step.outcome) (some_step (closes id) rest) = either_false (closes id step.event step.outcome) (some_step (closes id) rest) e in
    stays_open r.0 i id rest r.2 n.second (step_open h r.0 id step.event step.outcome r.1.stepped n.first s)

opens_now : (old new : HostState) (id : SessionId) (event : Event) (o : Outcome) → Stepped old event o new → opens id event o ≡ true → IsSome (find new.slots id)
opens_now old new id Open (Opened at) p e = some_of (find new.slots id) (new_session_under old.setup) (ap (find new.slots) (sym (same_id at id e)) ∙ p.opens.now)
opens_now old new id Open Done p e = absurd (cc)
opens_now old new id Open (Worked n) p e = absurd (cc)
opens_now old new id Open (Gave bytes) p e = absurd (cc)
opens_now old new id Open (Refused fault) p e = absurd (cc)
opens_now old new id (Feed at chunk) o p e = absurd (cc)
opens_now old new id (Work at budget) o p e = absurd (cc)
opens_now old new id (Take at n) o p e = absurd (cc)
opens_now old new id (Close at) o p e = absurd (cc)

-- a session opened and not closed is open
pub opened_stays : (h i : HostState) (id : SessionId) (steps : List Step) → IsRun h steps i → some_step (closes id) steps ≡ false → is_opened id steps ≡ true → IsSome (find i.slots id)
unfolding IsRun
opened_stays h i id [] r e o = absurd (cc)
opened_stays h i id (step ∷ rest) r e o =
    let n : Neither (closes id step.event step.outcome) (some_step (closes id) rest) = either_false (closes id step.event step.outcome) (some_step (closes id) rest) e in
    elim (or_cases (opens id step.event step.outcome) (is_opened id rest) o) [
      | inl now ↦ stays_open r.0 i id rest r.2 n.second (opens_now h r.0 id step.event step.outcome r.1.stepped now)
      | inr later ↦ opened_stays r.0 i id rest r.2 n.second later
    ]

-- a session opened in a first part, and not closed there, was opened before its close
pub opened_before : (id : SessionId) (p q x y : List Step) (c : Step) → p ++ q ≡ x ++ (c ∷ y) → some_step (closes id) p ≡ false → closes id c.event c.outcome ≡ true → is_opened id p ≡ true → is_opened id x ≡ true
opened_before id [] q x y c e f g o = absurd (cc)
opened_before id (s ∷ p) q [] y c e f g o =
    let same : s ≡ c = cc in
    let n : Neither (closes id s.event s.outcome) (some_step (closes id) p) = either_false (closes id s.event s.outcome) (some_step (closes id) p) f in
    absurd (both_ways (closes id s.event s.outcome) n.first (rw same g))
opened_before id (s ∷ p) q (t ∷ x) y c e f g o =
    let same : s ≡ t = cc in
    let more : p ++ q ≡ x ++ (c ∷ y) = cc in
    let n : Neither (closes id s.event s.outcome) (some_step (closes id) p) = either_false (closes id s.event s.outcome) (some_step (closes id) p) f in
    elim (or_cases (opens id s.event s.outcome) (is_opened id p) o) [
      | inl now ↦ or_left (opens id t.event t.outcome) (is_opened id x) (rw same at now)
      | inr later ↦ or_right (opens id t.event t.outcome) (is_opened id x) (opened_before id p q x y c more n.second g later)
    ]

-- ---- what was finished

-- the session of a connection that is finished with
record Settled (has_ended : Bool) (m : SessionView) : Type 0 where
  pub ended : (has_ended ≡ true) ⊎ (m.state.is_over ≡ true)
  pub none : m.queued ≡ []
  pub settled : is_pending m ≡ false

no_bytes : (xs : List ℕ) → length xs ≡ 0 → xs ≡ []
no_bytes [] e = refl
no_bytes (x ∷ xs) e = absurd (omega arith)

is_not : (b : Bool) → not b ≡ true → b ≡ false
is_not true e = absurd (cc)
is_not false e = refl

settled_at : (has_ended : Bool) (m : SessionView) → is_finished_with has_ended (Some m) ≡ true → Settled has_ended m
settled_at has_ended m e =
    let p = and_parts ((has_ended || m.state.is_over) && (length m.queued == 0)) (not (is_pending m)) e in
    let q = and_parts (has_ended || m.state.is_over) (length m.queued == 0) p.0 in
    record {
      ended = or_cases has_ended m.state.is_over q.0;
      none = no_bytes m.queued (eqb-true (length m.queued) 0 q.1);
      settled = is_not (is_pending m) p.1;
    }

-- after its close a session does nothing
closing_end : (moment c : HostState) (id : SessionId) (o : Outcome) (later : List Step) → IsSome (find moment.slots id) → IsRun moment (record { event = Close id; outcome = o } ∷ later) c → IsOut id later c
unfolding IsRun
closing_end moment c id o later s r =
    let g : IsGone r.0 id = closed moment r.0 id o r.1.stepped (r.1.below id s) in
    out_gone r.0 c id later r.2 g

-- the bytes read end the session, and no further input is answered
pub record EndsBy (owes : List ℕ → List ℕ) (ends : List ℕ → Bool) (read written : List ℕ) : Type 0 where
  pub over : ends read ≡ true
  pub no_more : (x : List ℕ) → owes (read ++ x) ≡ written

-- all that was owed was written; the reads had ended, or the input ends the session
pub record Ending (owes : List ℕ → List ℕ) (ends : List ℕ → Bool) (id : SessionId) (read written : List ℕ) (steps : List Step) (has_ended : Bool) : Type 0 where
  pub all : written ++ taken id steps ≡ owes (read ++ own id steps)
  pub why : (has_ended ≡ true) ⊎ EndsBy owes ends (read ++ own id steps) (written ++ taken id steps)

pub ending : (owes : List ℕ → List ℕ) (ends : List ℕ → Bool) (marks : List Connection) (h c : HostState) (steps : List Step) (l : Link) (read written : List ℕ) (f : Finished marks h steps c l) (m : SessionView) → find f.moment.slots l.id ≡ Some m
    → EndsFrom owes (read ++ own l.id f.earlier) (written ++ taken l.id f.earlier) (Some m) → OverFrom ends (read ++ own l.id f.earlier) (Some m) → Ending owes ends l.id read written steps f.has_ended
ending owes ends marks h c steps l read written f m is h_ o_ =
    let last : Step = record { event = Close l.id; outcome = f.outcome } in
    let s : Settled f.has_ended m = settled_at f.has_ended m (rw is at f.finished) in
    let out : IsOut l.id f.later c = closing_end f.moment c l.id f.outcome f.later (some_of (find f.moment.slots l.id) m is) f.onward in
    let own_is : own l.id steps ≡ own l.id f.earlier = ap (own l.id) f.steps_are ∙ (own-append l.id f.earlier (last ∷ f.later) ∙ (ap (λ xs. own l.id f.earlier ++ xs) out.no_own ∙ append-nil (own l.id f.earlier))) in
    let taken_is : taken l.id steps ≡ taken l.id f.earlier = ap (taken l.id) f.steps_are ∙ (taken-append l.id f.earlier (last ∷ f.later) ∙ (ap (λ xs. taken l.id f.earlier ++ xs) out.no_taken ∙ append-nil (taken l.id f.earlier))) in
    record {
      all = rw (own_is, taken_is) (all_written owes (read ++ own l.id f.earlier) (written ++ taken l.id f.earlier) (Some m) h_ s.settled s.none);
      why = elim s.ended [
        | inl e ↦ inl e
        | inr over ↦ inr (record {
          over = rw own_is (sym (ap ends (append-nil (read ++ own l.id f.earlier))) ∙ (sym (o_ []) ∙ state_due-over m [] over));
          no_more = λ x. rw (own_is, taken_is) (sym (h_ x) ∙ (ap (λ xs. (written ++ taken l.id f.earlier) ++ xs) (due-over m x over ∙ s.none) ∙ append-nil (written ++ taken l.id f.earlier)));
        })
      ];
    }
