-- Pending sessions, and connections that are finished with.
use Rattle.std.proofs.Common.{◌≡◌, ℕ, zero, suc, ◌+◌, ◌<◌, Bool, true, false, List, [], ◌∷◌, ◌++◌, get_or, take, length, Option, None, Some, not, ◌&&◌, ◌==◌, refl, sym, ap, ◌∙◌, arith}
use Rattle.std.specs.Prelude.{◌||◌, is_some, nat_lt}
use Rattle.std.proofs.lemmas.Bool.{lt-ltb, ne_eqb}
use Rattle.std.proofs.lemmas.List.{take_more}
use Rattle.session_slots.specs.Slots.{find}
use Rattle.host_core.specs.Steps.{HostState}
use Rattle.usi_session.specs.Due.{SessionView, is_pending}
use Rattle.host_core.specs.ById.{is_over_of, pending_of, queued_of}
use Rattle.socket_loop.specs.declared.connection.Connection.{Connection}
use Rattle.socket_loop.specs.Links.{links_of}
use Rattle.socket_loop.specs.Parts.{is_finished_with}
use Rattle.socket_loop.specs.Turns.{any_pending}

or_swap : (x : Bool) → (x || false) ≡ (false || x)
or_swap true = refl
or_swap false = refl

or_assoc : (x y z : Bool) → (x || (y || z)) ≡ ((x || y) || z)
or_assoc true y z = refl
or_assoc false true z = refl
or_assoc false false true = refl
or_assoc false false false = refl

any_last : (h : HostState) (xs : List Connection) (x : Connection) → any_pending h (links_of (xs ++ x ∷ [])) ≡ (any_pending h (links_of xs) || pending_of (find h.slots x.link.id))
any_last h [] x = or_swap (pending_of (find h.slots x.link.id))
any_last h (y ∷ ys) x = ap (λ (b : Bool). pending_of (find h.slots y.link.id) || b) (any_last h ys x) ∙ or_assoc (pending_of (find h.slots y.link.id)) (any_pending h (links_of ys)) (pending_of (find h.slots x.link.id))

-- one more session is not pending
pub any_none : (h : HostState) (xs : List Connection) (i : ℕ) (d : Connection) → i < length xs → any_pending h (links_of (take i xs)) ≡ false → pending_of (find h.slots (get_or xs i d).link.id) ≡ false → any_pending h (links_of (take (i + 1) xs)) ≡ false
any_none h xs i d lt e f = ap (λ ys. any_pending h (links_of ys)) (take_more xs i d lt) ∙ (any_last h (take i xs) (get_or xs i d) ∙ rw (e, f) refl)

or_true : (x : Bool) → (x || true) ≡ true
or_true true = refl
or_true false = refl

-- one session is pending
pub any_one : (h : HostState) (xs : List Connection) (i : ℕ) (d : Connection) → i < length xs → pending_of (find h.slots (get_or xs i d).link.id) ≡ true → any_pending h (links_of xs) ≡ true
any_one h [] i d lt e = absurd (omega arith)
any_one h (x ∷ xs) zero d lt e = ap (λ (b : Bool). b || any_pending h (links_of xs)) e
any_one h (x ∷ xs) (suc i) d lt e = ap (λ (b : Bool). pending_of (find h.slots x.link.id) || b) (any_one h xs i d (omega arith) e) ∙ or_true (pending_of (find h.slots x.link.id))

none_queued : (bytes : List ℕ) → not (nat_lt 0 (length bytes)) ≡ (length bytes == 0)
none_queued [] = refl
none_queued (x ∷ bytes) = ap not (lt-ltb 0 (length (x ∷ bytes)) (omega arith)) ∙ sym (ne_eqb (length (x ∷ bytes)) 0 (λ e. absurd (omega arith)))

-- the answers of a session tell whether its connection is finished with
pub finished_by : (has_ended : Bool) (found : Option SessionView) → (not (is_some found) || (((has_ended || is_over_of found) && not (nat_lt 0 (length (queued_of found)))) && not (pending_of found))) ≡ is_finished_with has_ended found
finished_by has_ended None = refl
finished_by has_ended (Some t) = ap (λ (b : Bool). ((has_ended || t.state.is_over) && b) && not (is_pending t)) (none_queued t.queued)
