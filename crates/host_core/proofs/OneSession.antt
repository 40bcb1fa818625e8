-- A run as one session sees it.
use Rattle.std.proofs.Common.{◌≡◌, ℕ, ◌<◌, ◌≤◌, Bool, true, false, List, [], ◌∷◌, ◌++◌, Option, Some, None, refl, sym, ap, ◌∙◌, arith, append_assoc, append-nil, inl, inr}
use Rattle.std.specs.Prelude.{IsSome}
use Rattle.std.proofs.lemmas.Bool.{or_cases, or_from, both_ways}
use Rattle.session_slots.specs.declared.id.SessionId.{SessionId}
use Rattle.session_slots.specs.Slots.{find}
use Rattle.usi_session.specs.Due.{SessionView, due, owed}
use Rattle.usi_session.specs.WholeStream.{replies_under}
use Rattle.usi_texts.specs.declared.setup.Setup.{Setup}
use Rattle.usi_session.proofs.Settled.{due-settled}
use Rattle.usi_lines.specs.Lines.{ahead}
use Rattle.host_core.specs.Steps.{HostState}
use Rattle.host_core.specs.Made.{Step, own, taken, own_by, taken_by, opens, is_opened, made}
use Rattle.host_core.specs.ById.{queued_of}
use Rattle.host_core.specs.Runs.{IsRun}
use Rattle.host_core.specs.Headline.{EndsFrom, IsPrefixOf, IsSettled}
use Rattle.host_core.proofs.Sees.{Sees, sees, rises, Rises}
use Rattle.host_core.proofs.Kept.{step_setup, keeps_setup}

-- no step concerns an id that is gone
pub record IsGone (id : SessionId) (steps : List Step) (end : HostState) : Type 0 where
  pub no_own : own id steps ≡ []
  pub no_taken : taken id steps ≡ []
  pub no_open : is_opened id steps ≡ false
  pub none : find end.slots id ≡ None

-- one step with an id that is gone
record StaysGone (own_ taken_ : List ℕ) (opened : Bool) (new : Option SessionView) : Type 0 where
  pub no_own : own_ ≡ []
  pub no_taken : taken_ ≡ []
  pub no_open : opened ≡ false
  pub none : new ≡ None

stays_gone : (setup : Setup) (own_ taken_ : List ℕ) (opened : Bool) (old new : Option SessionView) → old ≡ None → (opened ≡ true → ⊥) → Sees setup own_ taken_ opened old new → StaysGone own_ taken_ opened new
stays_gone setup o g b None None e f s = record { no_own = s.0; no_taken = s.1; no_open = s.2; none = refl }
stays_gone setup o g b None (Some t) e f s = absurd (f s.2)
stays_gone setup o g b (Some t) new e f s = absurd (cc)

gone_more : (id : SessionId) (step : Step) (rest : List Step) (end : HostState) (mid : Option SessionView) → StaysGone (own_by id step.event step.outcome) (taken_by id step.event step.outcome) (opens id step.event step.outcome) mid → IsGone id rest end → IsGone id (step ∷ rest) end
gone_more id step rest end mid a b = record {
  no_own = rw (a.no_own, b.no_own) refl;
  no_taken = rw (a.no_taken, b.no_taken) refl;
  no_open = or_from (opens id step.event step.outcome) (is_opened id rest) a.no_open b.no_open;
  none = b.none;
}

pub gone : (old new : HostState) (id : SessionId) (steps : List Step) → find old.slots id ≡ None → id.generation < old.slots.next → IsRun old steps new → IsGone id steps new
unfolding IsRun
gone old new id [] e h r = record { no_own = refl; no_taken = refl; no_open = refl; none = rw r e }
gone old new id (step ∷ rest) e h r =
    let u : Rises old r.0 id (opens id step.event step.outcome) = rises old r.0 id step.event step.outcome r.1.stepped in
    let a : StaysGone (own_by id step.event step.outcome) (taken_by id step.event step.outcome) (opens id step.event step.outcome) (find r.0.slots id) =
    stays_gone old.setup _ _ _ (find old.slots id) (find r.0.slots id) e (λ o. (let f : id.generation ≡ old.slots.next = u.fresh o in omega arith)) (sees old r.0 id step.event step.outcome r.1.stepped) in
    let n : old.slots.next ≤ r.0.slots.next = u.rises in
    gone_more id step rest new (find r.0.slots id) a (gone r.0 new id rest a.none (omega arith) r.2)

-- one more step before these
pub ends_more : (owes more : List ℕ → List ℕ) (own_ taken_ rest_own rest_taken : List ℕ) (now : Option SessionView) → ((x : List ℕ) → taken_ ++ more x ≡ owes (own_ ++ x)) → EndsFrom more rest_own rest_taken now → EndsFrom owes (own_ ++ rest_own) (taken_ ++ rest_taken) now
ends_more owes more own_ taken_ rest_own rest_taken None h (rest, e) =
    (rest, append_assoc taken_ rest_taken rest ∙ (ap (λ xs. taken_ ++ xs) e ∙ h rest_own))
ends_more owes more own_ taken_ rest_own rest_taken (Some t) h e = λ x.
    append_assoc taken_ rest_taken (due t x) ∙ (ap (λ xs. taken_ ++ xs) (e x) ∙ (h (rest_own ++ x) ∙ ap owes (sym (append_assoc own_ rest_own x))))

-- the session answered part of what it owed to its own bytes, and its id is not opened again
pub record Goes (id : SessionId) (owes : List ℕ → List ℕ) (steps : List Step) (now : Option SessionView) : Type 0 where
  pub ends : EndsFrom owes (own id steps) (taken id steps) now
  pub no_open : is_opened id steps ≡ false

ends_closed : (s : SessionView) (own_ taken_ : List ℕ) (now : Option SessionView) → own_ ≡ [] → taken_ ≡ [] → now ≡ None → EndsFrom (due s) own_ taken_ now
ends_closed s own_ taken_ now e f g = rw (e, f, g) (due s [], refl)

mutual_step : (setup : Setup) (mid new : HostState) (id : SessionId) (step : Step) (rest : List Step) (s : SessionView) (m : Option SessionView) → find mid.slots id ≡ m → id.generation < mid.slots.next → Sees setup (own_by id step.event step.outcome) (taken_by id step.event step.outcome) (opens id step.event step.outcome) (Some s) m → IsRun mid rest new
    → ((t : SessionView) → find mid.slots id ≡ Some t → Goes id (due t) rest (find new.slots id)) → Goes id (due s) (step ∷ rest) (find new.slots id)
mutual_step setup mid new id step rest s None e h v r more =
    let g : IsGone id rest new = gone mid new id rest e h r in
    record {
      ends = ends_closed s _ _ _ (rw (v.0, g.no_own) refl) (rw (v.1, g.no_taken) refl) g.none;
      no_open = or_from (opens id step.event step.outcome) (is_opened id rest) v.2 g.no_open;
    }
mutual_step setup mid new id step rest s (Some t) e h v r more =
    let g : Goes id (due t) rest (find new.slots id) = more t e in
    record {
      ends = ends_more (due s) (due t) (own_by id step.event step.outcome) (taken_by id step.event step.outcome) (own id rest) (taken id rest) (find new.slots id) v.1 g.ends;
      no_open = or_from (opens id step.event step.outcome) (is_opened id rest) v.0 g.no_open;
    }

pub is_some_of : (o : Option SessionView) (s : SessionView) → o ≡ Some s → IsSome o
is_some_of o s e = rw e refl

-- a session that was open before the run
pub kept : (old new : HostState) (id : SessionId) (steps : List Step) (s : SessionView) → find old.slots id ≡ Some s → IsRun old steps new → Goes id (due s) steps (find new.slots id)
unfolding IsRun
kept old new id [] s e r = record { ends = rw (r, e) (λ x. refl); no_open = refl }
kept old new id (step ∷ rest) s e r =
    let u : Rises old r.0 id (opens id step.event step.outcome) = rises old r.0 id step.event step.outcome r.1.stepped in
    let below : id.generation < old.slots.next = r.1.below id (is_some_of (find old.slots id) s e) in
    let n : old.slots.next ≤ r.0.slots.next = u.rises in
    let v : Sees old.setup (own_by id step.event step.outcome) (taken_by id step.event step.outcome) (opens id step.event step.outcome) (find old.slots id) (find r.0.slots id) = sees old r.0 id step.event step.outcome r.1.stepped in
    mutual_step old.setup r.0 new id step rest s (find r.0.slots id) refl (omega arith) (rw e at v) r.2 (λ t f. kept r.0 new id rest t f r.2)

started_step : (setup : Setup) (mid new : HostState) (id : SessionId) (step : Step) (rest : List Step) (m : Option SessionView) → find mid.slots id ≡ m → Sees setup (own_by id step.event step.outcome) (taken_by id step.event step.outcome) (opens id step.event step.outcome) None m → is_opened id (step ∷ rest) ≡ true → IsRun mid rest new
    → (find mid.slots id ≡ None → is_opened id rest ≡ true → EndsFrom (replies_under setup) (own id rest) (taken id rest) (find new.slots id)) → EndsFrom (replies_under setup) (own id (step ∷ rest)) (taken id (step ∷ rest)) (find new.slots id)
started_step setup mid new id step rest None e v o r more =
    let later : is_opened id rest ≡ true = elim (or_cases (opens id step.event step.outcome) (is_opened id rest) o) [ inl now ↦ absurd (both_ways (opens id step.event step.outcome) v.2 now) | inr after ↦ after ] in
    rw (v.0, v.1) (more e later)
started_step setup mid new id step rest (Some t) e v o r more =
    let g : Goes id (due t) rest (find new.slots id) = kept mid new id rest t e r in
    ends_more (replies_under setup) (due t) (own_by id step.event step.outcome) (taken_by id step.event step.outcome) (own id rest) (taken id rest) (find new.slots id) (rw (v.0, v.1, v.3) (λ x. refl)) g.ends

-- a session opened in the run
started : (setup : Setup) (old new : HostState) (id : SessionId) (steps : List Step) → old.setup ≡ setup → find old.slots id ≡ None → is_opened id steps ≡ true → IsRun old steps new → EndsFrom (replies_under setup) (own id steps) (taken id steps) (find new.slots id)
unfolding IsRun
started setup old new id [] k e o r = absurd (cc)
started setup old new id (step ∷ rest) k e o r =
    let v : Sees old.setup (own_by id step.event step.outcome) (taken_by id step.event step.outcome) (opens id step.event step.outcome) (find old.slots id) (find r.0.slots id) = sees old r.0 id step.event step.outcome r.1.stepped in
    started_step setup r.0 new id step rest (find r.0.slots id) refl (rw (k, e) at v) o r.2 (λ f later. started setup r.0 new id rest (step_setup old r.0 step.event step.outcome r.1.stepped ∙ k) f later r.2)

opened_by : (setup : Setup) (old new : HostState) (id : SessionId) (steps : List Step) (before : Option SessionView) → old.setup ≡ setup → find old.slots id ≡ before → is_opened id steps ≡ true → IsRun old steps new → EndsFrom (replies_under setup) (own id steps) (taken id steps) (find new.slots id)
opened_by setup old new id steps None k e o r = started setup old new id steps k e o r
opened_by setup old new id steps (Some s) k e o r = absurd (both_ways (is_opened id steps) (kept old new id steps s e r).no_open o)

-- a session opened in the run is under the setup of the host before it, which the run keeps
pub opened_under : (setup : Setup) (old new : HostState) (id : SessionId) (steps : List Step) → old.setup ≡ setup → is_opened id steps ≡ true → IsRun old steps new → EndsFrom (replies_under setup) (own id steps) (taken id steps) (find new.slots id)
opened_under setup old new id steps k o r = opened_by setup old new id steps (find old.slots id) k refl o r

pub opened_ends : (old new : HostState) (id : SessionId) (steps : List Step) → is_opened id steps ≡ true → IsRun old steps new → EndsFrom (replies_under new.setup) (own id steps) (taken id steps) (find new.slots id)
opened_ends old new id steps o r = opened_under new.setup old new id steps (sym (keeps_setup old new steps r)) o r

prefix_of : (owes : List ℕ → List ℕ) (own_ taken_ : List ℕ) (now : Option SessionView) → EndsFrom owes own_ taken_ now → IsPrefixOf (taken_ ++ queued_of now) (owes own_)
prefix_of owes own_ taken_ None (rest, e) = (rest, ap (λ xs. xs ++ rest) (append-nil taken_) ∙ e)
prefix_of owes own_ taken_ (Some t) h =
    (owed t.state t.go_task (ahead t.input []), append_assoc taken_ t.queued (owed t.state t.go_task (ahead t.input [])) ∙ (h [] ∙ ap owes (append-nil own_)))

all_of : (owes : List ℕ → List ℕ) (own_ taken_ : List ℕ) (now : Option SessionView) → EndsFrom owes own_ taken_ now → IsSettled now → taken_ ++ queued_of now ≡ owes own_
all_of owes own_ taken_ None h settled = absurd settled
all_of owes own_ taken_ (Some t) h settled =
    ap (λ xs. taken_ ++ xs) (sym (due-settled t settled)) ∙ (h [] ∙ ap owes (append-nil own_))

pub made_prefix : (old new : HostState) (id : SessionId) (steps : List Step) → is_opened id steps ≡ true → IsRun old steps new → IsPrefixOf (made id steps (queued_of (find new.slots id))) (replies_under new.setup (own id steps))
made_prefix old new id steps o r = prefix_of (replies_under new.setup) (own id steps) (taken id steps) (find new.slots id) (opened_ends old new id steps o r)

pub made_all : (old new : HostState) (id : SessionId) (steps : List Step) → is_opened id steps ≡ true → IsSettled (find new.slots id) → IsRun old steps new → made id steps (queued_of (find new.slots id)) ≡ replies_under new.setup (own id steps)
made_all old new id steps o settled r = all_of (replies_under new.setup) (own id steps) (taken id steps) (find new.slots id) (opened_ends old new id steps o r) settled

pub isolated : (old new other_old other_new : HostState) (steps other_steps : List Step) (id other : SessionId) → IsRun old steps new → IsRun other_old other_steps other_new → new.setup ≡ other_new.setup → is_opened id steps ≡ true → is_opened other other_steps ≡ true → IsSettled (find new.slots id) → IsSettled (find other_new.slots other) → own id steps ≡ own other other_steps → made id steps (queued_of (find new.slots id)) ≡ made other other_steps (queued_of (find other_new.slots other))
isolated old new other_old other_new steps other_steps id other r q k o p s t e =
    made_all old new id steps o s r ∙ (ap (replies_under new.setup) e ∙ (ap (λ (setup : Setup). replies_under setup (own other other_steps)) k ∙ sym (made_all other_old other_new other other_steps p t q)))
