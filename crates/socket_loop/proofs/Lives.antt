-- What one connection was served, over consecutive parts.
use Rattle.std.proofs.Common.{◌≡◌, ◌⊎◌, ℕ, ◌<◌, Bool, List, [], ◌∷◌, ◌++◌, Option, Some, None, refl, sym, ap, ◌∙◌, subst, append-nil, inl, inr, ◌≢◌}
use Rattle.std.specs.Prelude.{IsSome}
use Rattle.std.specs.Io.KnownBytes.{Keeps, Appends, Consumes}
use Rattle.std.proofs.KnownBytes.{Appends-trans, Consumes-trans}
use Rattle.session_slots.specs.declared.id.SessionId.{SessionId}
use Rattle.session_slots.specs.Slots.{find}
use Rattle.usi_session.specs.Due.{SessionView, due}
use Rattle.usi_session.proofs.Settled.{due-settled}
use Rattle.host_core.specs.Steps.{HostState}
use Rattle.host_core.specs.Made.{Step, own, taken}
use Rattle.host_core.specs.Runs.{IsRun}
use Rattle.host_core.specs.ById.{queued_of}
use Rattle.host_core.specs.Headline.{EndsFrom, IsPrefixOf, IsSettled, OverFrom, is_over_due}
use Rattle.host_core.proofs.OneSession.{ends_more, kept, gone, IsGone as IsOut}
use Rattle.host_core.proofs.Overs.{kept_over, over_more, over_none}
use Rattle.socket_loop.specs.declared.connection.Link.{Link}
use Rattle.socket_loop.specs.declared.connection.Connection.{Connection}
use Rattle.transport.specs.Report.{Report, KeepsConnection}
use Rattle.socket_loop.specs.Links.{IsAmong, Each}
use Rattle.socket_loop.specs.Parts.{Transferred, LeavesUntouched}
use Rattle.socket_loop.specs.Turns.{Served}
use Rattle.transport.proofs.Reported.{Consumes-none, Appends-none}
use Rattle.socket_loop.proofs.Parts.{lost_order}
use Rattle.socket_loop.proofs.Turning.{not_lost, some_none}

ends_gone : (owes : List ℕ → List ℕ) (read written more_read more_written : List ℕ) (now : Option SessionView) → more_read ≡ [] → more_written ≡ [] → now ≡ None → EndsFrom owes read written None → EndsFrom owes (read ++ more_read) (written ++ more_written) now
ends_gone owes read written more_read more_written now e f g p = rw (e, f, g, append-nil read, append-nil written) p

pub then_order : (h m : HostState) (id : SessionId) (steps : List Step) (lost : List ℕ) (old : Option SessionView) → find h.slots id ≡ old → id.generation < h.slots.next → IsRun h steps m → (IsSome old → lost ≡ []) → (lost ≡ []) ⊎ (own id steps ≡ [])
then_order h m id steps lost None e lt r whole = inr (gone h m id steps e lt r).no_own
then_order h m id steps lost (Some t) e lt r whole = inl (whole refl)

pub then_ends : (owes : List ℕ → List ℕ) (h m : HostState) (id : SessionId) (steps : List Step) (read written : List ℕ) (old : Option SessionView) → find h.slots id ≡ old → id.generation < h.slots.next → IsRun h steps m → EndsFrom owes read written old → EndsFrom owes (read ++ own id steps) (written ++ taken id steps) (find m.slots id)
then_ends owes h m id steps read written None e lt r p =
    let g : IsOut id steps m = gone h m id steps e lt r in
    ends_gone owes read written (own id steps) (taken id steps) (find m.slots id) g.no_own g.no_taken g.none p
then_ends owes h m id steps read written (Some t) e lt r p = ends_more owes (due t) read written (own id steps) (taken id steps) (find m.slots id) p (kept h m id steps t e r).ends

pub over_then : (ends : List ℕ → Bool) (h m : HostState) (id : SessionId) (steps : List Step) (read : List ℕ) (old : Option SessionView) → find h.slots id ≡ old → id.generation < h.slots.next → IsRun h steps m → OverFrom ends read old → OverFrom ends (read ++ own id steps) (find m.slots id)
over_then ends h m id steps read None e lt r p = over_none ends (read ++ own id steps) (find m.slots id) (gone h m id steps e lt r).none
over_then ends h m id steps read (Some t) e lt r p = over_more ends (is_over_due t) read (own id steps) (find m.slots id) p (kept_over h m id steps t e r)

pub then_whole : (h m : HostState) (id : SessionId) (steps : List Step) (lost more : List ℕ) (old : Option SessionView) → find h.slots id ≡ old → id.generation < h.slots.next → IsRun h steps m → (IsSome old → lost ≡ []) → (IsSome (find m.slots id) → more ≡ []) → IsSome (find m.slots id) → lost ++ more ≡ []
then_whole h m id steps lost more None e lt r p q some = some_none (find m.slots id) (lost ++ more) (gone h m id steps e lt r).none some
then_whole h m id steps lost more (Some t) e lt r p q some = rw (p refl, q some) refl

-- a connection was served, and then more of it
abbrev pub served_then : (owes : List ℕ → List ℕ) (a b c : Report) (h m : HostState) (n : ℕ) (id : SessionId) (steps : List Step) (lost : List ℕ) → id.generation < h.slots.next → IsRun h steps m → Served owes a b n (find h.slots id)
    → Consumes (b.unread n) (c.unread n) (own id steps ++ lost) → Appends (b.given n) (c.given n) (own id steps ++ lost) → Appends (b.written n) (c.written n) (taken id steps) → (IsSome (find m.slots id) → lost ≡ []) → Served owes a c n (find m.slots id)
served_then owes a b c h m n id steps lost lt r s u g w whole = record {
  read = s.read ++ own id steps;
  lost = s.lost ++ lost;
  written = s.written ++ taken id steps;
  consumed = subst (Consumes (a.unread n) (c.unread n)) (lost_order s.read s.lost (own id steps) lost (then_order h m id steps s.lost (find h.slots id) refl lt r s.whole)) (Consumes-trans _ _ _ (s.read ++ s.lost) (own id steps ++ lost) s.consumed u);
  given = subst (Appends (a.given n) (c.given n)) (lost_order s.read s.lost (own id steps) lost (then_order h m id steps s.lost (find h.slots id) refl lt r s.whole)) (Appends-trans _ _ _ (s.read ++ s.lost) (own id steps ++ lost) s.given g);
  appended = Appends-trans _ _ _ s.written (taken id steps) s.appended w;
  ends = then_ends owes h m id steps s.read s.written (find h.slots id) refl lt r s.ends;
  whole = then_whole h m id steps s.lost lost (find h.slots id) refl lt r s.whole whole;
}

-- the connection was met in the next part
abbrev pub served_on : (owes : List ℕ → List ℕ) (marks : List Connection) (bound : ℕ) (a b c : Report) (h m : HostState) (steps : List Step) (l : Link) → l.id.generation < h.slots.next → IsRun h steps m → Served owes a b l.number (find h.slots l.id) → Transferred marks bound b h steps c m l → Served owes a c l.number (find m.slots l.id)
served_on owes marks bound a b c h m steps l lt r s k =
    served_then owes a b c h m l.number l.id steps k.lost lt r s k.consumed k.given k.appended (λ some. not_lost m l.id k.lost k.whole some)

-- the connection was not met in the next part
abbrev pub served_aside : (owes : List ℕ → List ℕ) (a b c : Report) (h m : HostState) (n : ℕ) (id : SessionId) (steps : List Step) → id.generation < h.slots.next → IsRun h steps m → Served owes a b n (find h.slots id) → LeavesUntouched id steps → KeepsConnection b c n → Served owes a c n (find m.slots id)
served_aside owes a b c h m n id steps lt r s alone k =
    served_then owes a b c h m n id steps [] lt r s (rw alone.stored (Consumes-none _ _ k.unread)) (rw alone.stored (Appends-none _ _ k.given)) (rw alone.passed (Appends-none _ _ k.written)) (λ some. refl)

pub Keeps-Consumes : (a b c : Option (List ℕ)) (bs : List ℕ) → Keeps a b → Consumes b c bs → Consumes a c bs
Keeps-Consumes None b c bs p q = tt
Keeps-Consumes (Some x) None c bs p q = absurd p
Keeps-Consumes (Some x) (Some y) None bs p q = absurd q
Keeps-Consumes (Some x) (Some y) (Some z) bs p q = sym p ∙ q

-- ---- a prefix, and all

pub prefix_written : (owes : List ℕ → List ℕ) (read written : List ℕ) (now : Option SessionView) → EndsFrom owes read written now → IsPrefixOf written (owes read)
prefix_written owes read written None h = h
prefix_written owes read written (Some t) h = (due t [], h [] ∙ ap owes (append-nil read))

pub all_written : (owes : List ℕ → List ℕ) (read written : List ℕ) (now : Option SessionView) → EndsFrom owes read written now → IsSettled now → queued_of now ≡ [] → written ≡ owes read
all_written owes read written None h settled none = absurd settled
all_written owes read written (Some t) h settled none =
    sym (append-nil written) ∙ (ap (λ xs. written ++ xs) (sym (due-settled t settled ∙ none)) ∙ (h [] ∙ ap owes (append-nil read)))

-- ---- links

pub strange_each : (ls : List Link) (id : SessionId) → ((l : Link) → IsAmong ls l → l.id ≡ id → ⊥) → Each (λ other. other.id ≢ id) ls
strange_each [] id f = tt
strange_each (x ∷ xs) id f = (f x (inl refl), strange_each xs id (λ l m. f l (inr m)))
