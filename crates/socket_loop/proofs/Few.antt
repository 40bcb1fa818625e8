-- If each connection has an open session of its own, there are no more connections than open sessions.
use Rattle.std.proofs.Common.{◌≡◌, ◌≢◌, ◌⊎◌, ℕ, zero, suc, ◌+◌, ◌<◌, ◌≤◌, cond, List, [], ◌∷◌, Option, Some, None, set, length, refl, sym, ap, ◌∙◌, arith, inl, inr}
use Rattle.std.specs.Prelude.{count_by, is_some, slice_index_or, IsSome}
use Rattle.std.proofs.lemmas.List.{get_or-set_other}
use Rattle.std.proofs.lemmas.List.Sums.{sum_by-cons}
use Rattle.session_slots.specs.declared.id.SessionId.{SessionId}
use Rattle.session_slots.specs.Slots.{OpenSession, OpenSessions, count, find}
use Rattle.usi_session.specs.Due.{SessionView}
use Rattle.session_slots.proofs.Finds.{IsAt, found_at}
use Rattle.host_core.specs.Steps.{HostState}
use Rattle.socket_loop.specs.declared.connection.Link.{Link}
use Rattle.socket_loop.specs.Links.{AreOnce, IsAmong, Each}
use Rattle.transport.specs.Report.{Report}
use Rattle.socket_loop.specs.Turns.{Fits, HaveSessions}
use Rattle.socket_loop.proofs.Endings.{Found, found, opened_stays, stays_open}
use Rattle.socket_loop.proofs.Runs.{closes-admissions}
use Rattle.socket_loop.specs.Accepting.{Accepts, IsNew}

abbrev open_in : Option (OpenSession SessionView) → ℕ
open_in slot = cond (is_some slot) 1 0

-- emptying an open slot lowers the count by one
count-emptied : (xs : List (Option (OpenSession SessionView))) (k : ℕ) (o : OpenSession SessionView) → slice_index_or xs k None ≡ Some o → count_by is_some (set xs k None) + 1 ≡ count_by is_some xs
count-emptied [] k o e = absurd (cc)
count-emptied (x ∷ xs) zero o e =
    let one : open_in x ≡ 1 = ap open_in e in
    omega (arith, one, sum_by-cons open_in x xs, sum_by-cons open_in None xs)
count-emptied (x ∷ xs) (suc k) o e = omega (arith, count-emptied xs k o e, sum_by-cons open_in x xs, sum_by-cons open_in x (set xs k None))

at_some : (s : OpenSessions SessionView) (id : SessionId) → IsSome (find s id) → IsAt id.generation (slice_index_or s.slots id.slot None)
at_some s id some = (let f : Found (find s id) = found (find s id) some in found_at id.generation (slice_index_or s.slots id.slot None) f.session f.is)

-- two open ids with one slot are equal
one_slot : (s : OpenSessions SessionView) (a b : SessionId) → IsSome (find s a) → IsSome (find s b) → a.slot ≡ b.slot → a ≡ b
one_slot s a b some_a some_b same =
    let x = at_some s a some_a in
    let y = at_some s b some_b in
    let one : Some x.opened ≡ Some y.opened = sym x.slot_is ∙ (ap (λ key. slice_index_or s.slots key None) same ∙ y.slot_is) in
    let opened : x.opened ≡ y.opened = cc in
    let generation : a.generation ≡ b.generation = sym x.generation_is ∙ (ap (λ (o : OpenSession SessionView). o.generation) opened ∙ y.generation_is) in
    λ k. record { slot = same k; generation = generation k }

strange_of : (ls : List Link) (id : SessionId) (l : Link) → Each (λ other. other.id ≢ id) ls → IsAmong ls l → l.id ≢ id
strange_of [] id l p m = absurd m
strange_of (x ∷ xs) id l p (inl e) = λ same. p.0 (ap (λ (k : Link). k.id) (sym e) ∙ same)
strange_of (x ∷ xs) id l p (inr m) = strange_of xs id l p.1 m

-- links with open sessions of their own are no more than the open sessions
few : (ls : List Link) (s : OpenSessions SessionView) → AreOnce ls → ((l : Link) → IsAmong ls l → IsSome (find s l.id)) → length ls ≤ count s
few [] s once open_all = omega arith
few (x ∷ ls) s once open_all =
    let here = at_some s x.id (open_all x (inl refl)) in
    let less : OpenSessions SessionView = record s { slots = set s.slots x.id.slot None } in
    let rest : length ls ≤ count less = few ls less once.1 (λ l m.
    let some : IsSome (find s l.id) = open_all l (inr m) in
    let other : l.id.slot ≢ x.id.slot = λ same. strange_of ls x.id l once.0 m (one_slot s l.id x.id some (open_all x (inl refl)) same) in
    rw (get_or-set_other s.slots x.id.slot l.id.slot None None other) some) in
    let fewer : count less + 1 ≡ count s = count-emptied s.slots x.id.slot here.opened here.slot_is in
    omega arith

-- accepting leaves open sessions open
open_then : (ls ms : List Link) (f t : ℕ) (a b : Report) (h i : HostState) (p : Accepts ls f a h ms t b i) → HaveSessions h ls → (l : Link) → IsAmong ls l ⊎ IsNew f t p.accepted h.slots.next a b p.host.steps l → IsSome (find i.slots l.id)
open_then ls ms f t a b h i p have l (inl old) = stays_open h i l.id p.host.steps p.host.chain (closes-admissions l.id p.host.steps p.host.kinds) (have.open_all l old)
open_then ls ms f t a b h i p have l (inr new) = opened_stays h i l.id p.host.steps p.host.chain (closes-admissions l.id p.host.steps p.host.kinds) new.opened

-- after the accepts there are no more connections than sessions
pub few_met : (ls ms : List Link) (f t most : ℕ) (a b : Report) (h i : HostState) → Fits ls f h → Accepts ls f a h ms t b i → count i.slots ≤ most → most < length ms → ¬ HaveSessions h ls
few_met ls ms f t most a b h i fit p under over = λ have.
    let met : length ms ≤ count i.slots = few ms i.slots (p.once fit have.once) (λ l m. open_then ls ms f t a b h i p have l (p.are l m)) in
    absurd (omega arith)
