-- After a turn no connection held is finished with.
use Rattle.std.proofs.Common.{◌≡◌, ◌≢◌, ◌⊎◌, ℕ, zero, suc, ◌+◌, ◌<◌, Bool, true, false, List, [], ◌∷◌, ◌++◌, length, take, get_or, set, refl, sym, ap, ◌∙◌, arith, inl, inr}
use Rattle.std.specs.Prelude.{filter, insert, not}
use Rattle.std.proofs.lemmas.Bool.{both_ways, cond_both}
use Rattle.std.proofs.Math.Seq.{take-append_seam}
use Rattle.session_slots.specs.declared.id.SessionId.{SessionId}
use Rattle.session_slots.specs.Slots.{find}
use Rattle.host_core.specs.Steps.{HostState}
use Rattle.host_core.specs.Events.{Event, Open, Feed, Work, Take, Close, Outcome}
use Rattle.host_core.specs.Made.{Step}
use Rattle.host_core.specs.Runs.{IsRun}
use Rattle.host_core.specs.Kept.{names}
use Rattle.host_core.proofs.Kept.{keeps_others}
use Rattle.host_core.proofs.Ids.{apart_ids}
use Rattle.socket_loop.specs.declared.connection.Link.{Link}
use Rattle.socket_loop.specs.declared.connection.Connection.{Connection}
use Rattle.socket_loop.specs.Links.{AreOnce, IsAmong, links_of, Each}
use Rattle.socket_loop.specs.Parts.{is_finished_with, is_finished}
use Rattle.socket_loop.specs.Calls.{IsOf, Visits}
use Rattle.socket_loop.specs.Visits.{IsLeft}

-- no connection is finished with
abbrev pub NoneFinished : HostState → List Connection → Type 0
NoneFinished host held = Each (λ connection. is_finished host connection ≡ false) held

-- ---- steps of another session

not_named : (id other : SessionId) (event : Event) (o : Outcome) → IsOf id event → (id ≡ other → ⊥) → names other event o ≡ false
not_named id other Open o p f = absurd p
not_named id other (Feed at chunk) o p f = apart_ids at other (λ e. f (sym p ∙ e))
not_named id other (Work at budget) o p f = apart_ids at other (λ e. f (sym p ∙ e))
not_named id other (Take at n) o p f = apart_ids at other (λ e. f (sym p ∙ e))
not_named id other (Close at) o p f = apart_ids at other (λ e. f (sym p ∙ e))

-- steps of one session leave another as it was
pub finds_other : (h i : HostState) (id other : SessionId) (steps : List Step) → Each (λ step. IsOf id step.event) steps → IsRun h steps i → (id ≡ other → ⊥) → find i.slots other ≡ find h.slots other
unfolding IsRun
finds_other h i id other [] p r f = ap (λ (x : HostState). find x.slots other) r
finds_other h i id other (step ∷ rest) p r f =
    finds_other r.0 i id other rest p.1 r.2 f ∙ keeps_others h r.0 step.event step.outcome r.1.stepped other (not_named id other step.event step.outcome p.0 f)

-- ---- one after the other

strange_get : (xs : List Connection) (i : ℕ) (d : Connection) (id : SessionId) → i < length xs → Each (λ other. other.id ≢ id) (links_of xs) → (get_or xs i d).link.id ≢ id
strange_get [] i d id lt p = absurd (omega arith)
strange_get (x ∷ xs) zero d id lt p = p.0
strange_get (x ∷ xs) (suc i) d id lt p = strange_get xs i d id (omega arith) p.1

still_left : (x : Connection) (h i : HostState) → find i.slots x.link.id ≡ find h.slots x.link.id → (x.is_shut ≡ true) ⊎ (is_finished_with x.has_ended (find h.slots x.link.id) ≡ false) → (x.is_shut ≡ true) ⊎ (is_finished_with x.has_ended (find i.slots x.link.id) ≡ false)
still_left x h i e (inl shut) = inl shut
still_left x h i e (inr open_) = inr (rw e open_)

left_at : (kind : Event → Type 0) (xs : List Connection) (i : ℕ) (d y : Connection) (h j : HostState) → i < length xs → AreOnce (links_of xs) → Each (IsLeft h) (take i xs) → Visits kind (get_or xs i d).link.id h j → (y.is_shut ≡ true) ⊎ (is_finished_with y.has_ended (find j.slots y.link.id) ≡ false) → Each (IsLeft j) (take (suc i) (set xs i y))
left_at kind [] i d y h j lt once left v here = absurd (omega arith)
left_at kind (x ∷ xs) zero d y h j lt once left v here = (here, tt)
left_at kind (x ∷ xs) (suc i) d y h j lt once left v here =
    (still_left x h j (finds_other h j (get_or xs i d).link.id x.link.id v.steps v.of_it v.run (strange_get xs i d x.link.id (omega arith) once.0)) left.0, left_at kind xs i d y h j (omega arith) once.1 left.1 v here)

-- the connection at an index was visited
pub left_next : (kind : Event → Type 0) (held xs : List Connection) (i : ℕ) (d y : Connection) (h j : HostState) → i < length xs → links_of xs ≡ links_of held → (AreOnce (links_of held) → Each (IsLeft h) (take i xs)) → Visits kind (get_or xs i d).link.id h j → (y.is_shut ≡ true) ⊎ (is_finished_with y.has_ended (find j.slots y.link.id) ≡ false) → AreOnce (links_of held) → Each (IsLeft j) (take (i + 1) (set xs i y))
left_next kind held xs i d y h j lt same so_far v here once =
    let one : i + 1 ≡ suc i = omega arith in
    rw one (left_at kind xs i d y h j lt (rw same once) (so_far once) v here)

-- all connections were visited
pub left_end : (n m : ℕ) (held xs rest : List Connection) (h : HostState) → n ≡ length xs → m ≡ length xs → (AreOnce (links_of held) → Each (IsLeft h) (take n xs)) → AreOnce (links_of held) → Each (IsLeft h) (take m (xs ++ rest))
left_end n m held xs rest h e f so_far once =
    let whole : Each (IsLeft h) (take (length xs) xs) = rw e at (so_far once) in
    rw (f, take-append_seam xs rest) (rw (take_all xs) at whole)
  where
    take_all : (ys : List Connection) → take (length ys) ys ≡ ys
    take_all [] = refl
    take_all (y ∷ ys) = ap (λ (zs : List Connection). y ∷ zs) (take_all ys)

-- the shut connections are removed
none_at : (b : Bool) (h : HostState) (x : Connection) (xs : List Connection) → x.is_shut ≡ b → Each (IsLeft h) (x ∷ xs) → NoneFinished h (filter (λ y. not y.is_shut) xs) → NoneFinished h (filter (λ y. not y.is_shut) (x ∷ xs))
none_at true h x xs e left more = rw e more
none_at false h x xs e left more = rw e (elim left.0 [ inl shut ↦ absurd (both_ways x.is_shut e shut) | inr open_ ↦ (open_, more) ])

pub none_finished : (h : HostState) (xs : List Connection) → Each (IsLeft h) xs → NoneFinished h (filter (λ y. not y.is_shut) xs)
none_finished h [] left = tt
none_finished h (x ∷ xs) left = none_at x.is_shut h x xs refl left (none_finished h xs left.1)

-- ---- each id once

strange_filter : (p : Connection → Bool) (xs : List Connection) (id : SessionId) → Each (λ other. other.id ≢ id) (links_of xs) → Each (λ other. other.id ≢ id) (links_of (filter p xs))
strange_filter p [] id s = tt
strange_filter p (x ∷ xs) id s =
    cond_both (p x) (x ∷ filter p xs) (filter p xs) (λ (ys : List Connection). Each (λ other. other.id ≢ id) (links_of ys))
    (λ yes. (s.0, strange_filter p xs id s.1)) (λ no. strange_filter p xs id s.1)

pub once_filter : (p : Connection → Bool) (xs : List Connection) → AreOnce (links_of xs) → AreOnce (links_of (filter p xs))
once_filter p [] o = tt
once_filter p (x ∷ xs) o =
    cond_both (p x) (x ∷ filter p xs) (filter p xs) (λ (ys : List Connection). AreOnce (links_of ys))
    (λ yes. (strange_filter p xs x.link.id o.0, once_filter p xs o.1)) (λ no. once_filter p xs o.1)

strange_insert : (xs : List Connection) (place : ℕ) (c : Connection) (id : SessionId) → c.link.id ≢ id → Each (λ other. other.id ≢ id) (links_of xs) → Each (λ other. other.id ≢ id) (links_of (insert xs place c))
strange_insert [] zero c id n s = (n, s)
strange_insert [] (suc i) c id n s = (n, s)
strange_insert (x ∷ xs) zero c id n s = (n, s)
strange_insert (x ∷ xs) (suc i) c id n s = (s.0, strange_insert xs i c id n s.1)

-- ids stay distinct when a new one is inserted
pub once_insert : (xs : List Connection) (place : ℕ) (c : Connection) → ((l : Link) → IsAmong (links_of xs) l → l.id ≢ c.link.id) → AreOnce (links_of xs) → AreOnce (links_of (insert xs place c))
once_insert [] zero c f o = (tt, tt)
once_insert [] (suc i) c f o = (tt, tt)
once_insert (x ∷ xs) zero c f o = (strange_all (x ∷ xs) f, o)
  where
    strange_all : (ys : List Connection) → ((l : Link) → IsAmong (links_of ys) l → l.id ≢ c.link.id) → Each (λ other. other.id ≢ c.link.id) (links_of ys)
    strange_all [] g = tt
    strange_all (y ∷ ys) g = (g y.link (inl refl), strange_all ys (λ l m. g l (inr m)))
once_insert (x ∷ xs) (suc i) c f o = (strange_insert xs i c x.link.id (λ e. f x.link (inl refl) (sym e)) o.0, once_insert xs i c (λ l m. f l (inr m)) o.1)
