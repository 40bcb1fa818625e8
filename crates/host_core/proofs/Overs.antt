-- The bytes that end a session in a run.
use Rattle.std.proofs.Common.{◌≡◌, ℕ, ◌<◌, ◌≤◌, Bool, true, false, List, [], ◌∷◌, ◌++◌, Option, Some, None, refl, sym, ap, ◌∙◌, arith, append_assoc, append-nil, inl, inr}
use Rattle.std.proofs.lemmas.Bool.{or_cases, both_ways}
use Rattle.session_slots.specs.declared.id.SessionId.{SessionId}
use Rattle.session_slots.specs.Slots.{find}
use Rattle.usi_session.specs.Due.{SessionView, is_pending}
use Rattle.usi_session.specs.WholeStream.{is_over_after_under}
use Rattle.usi_texts.specs.declared.setup.Setup.{Setup}
use Rattle.usi_session.specs.declared.state.State.{State}
use Rattle.usi_session.proofs.Settled.{state_due-over, state_due-settled}
use Rattle.host_core.specs.Steps.{HostState}
use Rattle.host_core.specs.Made.{Step, own, own_by, taken_by, opens, is_opened}
use Rattle.host_core.specs.ById.{is_over_of}
use Rattle.host_core.specs.Runs.{IsRun}
use Rattle.host_core.specs.Headline.{OverFrom, IsSettled, is_over_due}
use Rattle.host_core.proofs.Sees.{Sees, sees, rises, Rises}
use Rattle.host_core.proofs.Kept.{step_setup, keeps_setup}
use Rattle.host_core.proofs.OneSession.{IsGone, gone, kept, is_some_of}

-- one more step before these
pub over_more : (ends more : List ℕ → Bool) (own_ rest_own : List ℕ) (now : Option SessionView) → ((x : List ℕ) → more x ≡ ends (own_ ++ x)) → OverFrom more rest_own now → OverFrom ends (own_ ++ rest_own) now
over_more ends more own_ rest_own None h c = tt
over_more ends more own_ rest_own (Some t) h c = λ x. c x ∙ (h (rest_own ++ x) ∙ ap ends (sym (append_assoc own_ rest_own x)))

pub over_none : (ends : List ℕ → Bool) (own_ : List ℕ) (now : Option SessionView) → now ≡ None → OverFrom ends own_ now
over_none ends own_ None e = tt
over_none ends own_ (Some t) e = absurd (cc)

over_step : (setup : Setup) (mid new : HostState) (id : SessionId) (step : Step) (rest : List Step) (s : SessionView) (m : Option SessionView) → find mid.slots id ≡ m → id.generation < mid.slots.next → Sees setup (own_by id step.event step.outcome) (taken_by id step.event step.outcome) (opens id step.event step.outcome) (Some s) m → IsRun mid rest new
    → ((t : SessionView) → find mid.slots id ≡ Some t → OverFrom (is_over_due t) (own id rest) (find new.slots id)) → OverFrom (is_over_due s) (own id (step ∷ rest)) (find new.slots id)
over_step setup mid new id step rest s None e h v r more =
    let g : IsGone id rest new = gone mid new id rest e h r in
    over_none (is_over_due s) (own id (step ∷ rest)) (find new.slots id) g.none
over_step setup mid new id step rest s (Some t) e h v r more =
    over_more (is_over_due s) (is_over_due t) (own_by id step.event step.outcome) (own id rest) (find new.slots id) (λ x. ap (λ (z : State). z.is_over) (v.2 x)) (more t e)

-- a session that was open before the run
pub kept_over : (old new : HostState) (id : SessionId) (steps : List Step) (s : SessionView) → find old.slots id ≡ Some s → IsRun old steps new → OverFrom (is_over_due s) (own id steps) (find new.slots id)
unfolding IsRun
kept_over old new id [] s e r = rw (r, e) (λ x. refl)
kept_over old new id (step ∷ rest) s e r =
    let u : Rises old r.0 id (opens id step.event step.outcome) = rises old r.0 id step.event step.outcome r.1.stepped in
    let below : id.generation < old.slots.next = r.1.below id (is_some_of (find old.slots id) s e) in
    let n : old.slots.next ≤ r.0.slots.next = u.rises in
    let v : Sees old.setup (own_by id step.event step.outcome) (taken_by id step.event step.outcome) (opens id step.event step.outcome) (find old.slots id) (find r.0.slots id) = sees old r.0 id step.event step.outcome r.1.stepped in
    over_step old.setup r.0 new id step rest s (find r.0.slots id) refl (omega arith) (rw e at v) r.2 (λ t f. kept_over r.0 new id rest t f r.2)

started_over : (setup : Setup) (mid new : HostState) (id : SessionId) (step : Step) (rest : List Step) (m : Option SessionView) → find mid.slots id ≡ m → Sees setup (own_by id step.event step.outcome) (taken_by id step.event step.outcome) (opens id step.event step.outcome) None m → is_opened id (step ∷ rest) ≡ true → IsRun mid rest new
    → (find mid.slots id ≡ None → is_opened id rest ≡ true → OverFrom (is_over_after_under setup) (own id rest) (find new.slots id)) → OverFrom (is_over_after_under setup) (own id (step ∷ rest)) (find new.slots id)
started_over setup mid new id step rest None e v o r more =
    let later : is_opened id rest ≡ true = elim (or_cases (opens id step.event step.outcome) (is_opened id rest) o) [ inl now ↦ absurd (both_ways (opens id step.event step.outcome) v.2 now) | inr after ↦ after ] in
    rw v.0 (more e later)
started_over setup mid new id step rest (Some t) e v o r more =
    over_more (is_over_after_under setup) (is_over_due t) (own_by id step.event step.outcome) (own id rest) (find new.slots id) (rw (v.0, v.3) (λ x. refl)) (kept_over mid new id rest t e r)

-- a session opened in the run
over_new : (setup : Setup) (old new : HostState) (id : SessionId) (steps : List Step) → old.setup ≡ setup → find old.slots id ≡ None → is_opened id steps ≡ true → IsRun old steps new → OverFrom (is_over_after_under setup) (own id steps) (find new.slots id)
unfolding IsRun
over_new setup old new id [] k e o r = absurd (cc)
over_new setup old new id (step ∷ rest) k e o r =
    let v : Sees old.setup (own_by id step.event step.outcome) (taken_by id step.event step.outcome) (opens id step.event step.outcome) (find old.slots id) (find r.0.slots id) = sees old r.0 id step.event step.outcome r.1.stepped in
    started_over setup r.0 new id step rest (find r.0.slots id) refl (rw (k, e) at v) o r.2 (λ f later. over_new setup r.0 new id rest (step_setup old r.0 step.event step.outcome r.1.stepped ∙ k) f later r.2)

over_from : (setup : Setup) (old new : HostState) (id : SessionId) (steps : List Step) (before : Option SessionView) → old.setup ≡ setup → find old.slots id ≡ before → is_opened id steps ≡ true → IsRun old steps new → OverFrom (is_over_after_under setup) (own id steps) (find new.slots id)
over_from setup old new id steps None k e o r = over_new setup old new id steps k e o r
over_from setup old new id steps (Some s) k e o r = absurd (both_ways (is_opened id steps) (kept old new id steps s e r).no_open o)

-- a session opened in the run is under the setup of the host before it, which the run keeps
pub over_under : (setup : Setup) (old new : HostState) (id : SessionId) (steps : List Step) → old.setup ≡ setup → is_opened id steps ≡ true → IsRun old steps new → OverFrom (is_over_after_under setup) (own id steps) (find new.slots id)
over_under setup old new id steps k o r = over_from setup old new id steps (find old.slots id) k refl o r

pub opened_over : (old new : HostState) (id : SessionId) (steps : List Step) → is_opened id steps ≡ true → IsRun old steps new → OverFrom (is_over_after_under new.setup) (own id steps) (find new.slots id)
opened_over old new id steps o r = over_under new.setup old new id steps (sym (keeps_setup old new steps r)) o r

over_by : (t : SessionView) (over : Bool) → t.state.is_over ≡ over → is_pending t ≡ false → is_over_due t [] ≡ over
over_by t true e settled = state_due-over t [] e
over_by t false e settled = ap (λ (s : State). s.is_over) (state_due-settled t e settled) ∙ e

-- with nothing pending, a session is over if and only if its bytes end it
pub over_settled : (ends : List ℕ → Bool) (own_ : List ℕ) (now : Option SessionView) → OverFrom ends own_ now → IsSettled now → is_over_of now ≡ ends own_
over_settled ends own_ None c settled = absurd settled
over_settled ends own_ (Some t) c settled = sym (over_by t t.state.is_over refl settled) ∙ (c [] ∙ ap ends (append-nil own_))

pub made_over : (old new : HostState) (id : SessionId) (steps : List Step) → is_opened id steps ≡ true → IsSettled (find new.slots id) → IsRun old steps new → is_over_of (find new.slots id) ≡ is_over_after_under new.setup (own id steps)
made_over old new id steps o settled r = over_settled (is_over_after_under new.setup) (own id steps) (find new.slots id) (opened_over old new id steps o r) settled
