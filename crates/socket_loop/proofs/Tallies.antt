-- The count of shut connections, visit by visit.
use Rattle.std.proofs.Common.{◌≡◌, ◌∙◌, ◌+◌, ◌<◌, ℕ, zero, suc, Bool, true, false, List, [], ◌∷◌, ◌++◌, length, cond, get_or, set, take, refl, sym, ap, arith}
use Rattle.std.specs.Prelude.{◌&&◌, not}
use Rattle.std.proofs.lemmas.List.{take_more}
use Rattle.session_slots.specs.Slots.{find}
use Rattle.host_core.specs.Steps.{HostState}
use Rattle.host_core.specs.ById.{pending_of}
use Rattle.socket_loop.specs.Links.{links_of}
use Rattle.socket_loop.specs.declared.connection.Connection.{Connection}
use Rattle.socket_loop.specs.Tallies.{pending_count, shut_count}

-- 1 if the mark was made now
abbrev newly : Bool → Bool → ℕ
newly old new = cond (new && not old) 1 0

one_more : (old new : Bool) → (old ≡ true → new ≡ true) → newly old new + cond old 1 0 ≡ cond new 1 0
one_more true true stays = refl
one_more true false stays = absurd (let bad : false ≡ true = stays refl in cc)
one_more false true stays = refl
one_more false false stays = refl

shut_set : (held : List Connection) (n : ℕ) (y d : Connection) → n < length held → ((get_or held n d).is_shut ≡ true → y.is_shut ≡ true)
    → newly ((get_or held n d).is_shut) y.is_shut + shut_count held ≡ shut_count (set held n y)
shut_set [] n y d lt stays = absurd (omega (arith, lt))
shut_set (x ∷ xs) zero y d lt stays =
    let one : newly x.is_shut y.is_shut + cond x.is_shut 1 0 ≡ cond y.is_shut 1 0 = one_more x.is_shut y.is_shut stays in
    omega arith
shut_set (x ∷ xs) (suc n) y d lt stays =
    let rest : newly ((get_or xs n d).is_shut) y.is_shut + shut_count xs ≡ shut_count (set xs n y) = shut_set xs n y d (omega (arith, lt)) stays in
    omega arith

-- one more connection was visited
pub shut_next : (shut one : ℕ) (start held : List Connection) (n : ℕ) (y d : Connection) → n < length held → shut + shut_count start ≡ shut_count held
    → ((get_or held n d).is_shut ≡ true → y.is_shut ≡ true) → one ≡ newly ((get_or held n d).is_shut) y.is_shut → (shut + one) + shut_count start ≡ shut_count (set held n y)
shut_next shut one start held n y d lt so_far stays is =
    let all : newly ((get_or held n d).is_shut) y.is_shut + shut_count held ≡ shut_count (set held n y) = shut_set held n y d lt stays in
    omega arith

pending_last : (h : HostState) (xs : List Connection) (x : Connection) → pending_count h (links_of (xs ++ x ∷ [])) ≡ pending_count h (links_of xs) + cond (pending_of (find h.slots x.link.id)) 1 0
pending_last h [] x = omega arith
pending_last h (y ∷ ys) x =
    let rest : pending_count h (links_of (ys ++ x ∷ [])) ≡ pending_count h (links_of ys) + cond (pending_of (find h.slots x.link.id)) 1 0 = pending_last h ys x in
    omega arith

-- one more connection was counted
pub pending_more : (h : HostState) (xs : List Connection) (i : ℕ) (d : Connection) (n : ℕ) (is : Bool) (one : ℕ) → i < length xs → n ≡ pending_count h (links_of (take i xs))
    → is ≡ pending_of (find h.slots (get_or xs i d).link.id) → one ≡ cond is 1 0 → n + one ≡ pending_count h (links_of (take (i + 1) xs))
pending_more h xs i d n is one lt so_far same counts =
    let last : pending_count h (links_of (take i xs ++ get_or xs i d ∷ [])) ≡ pending_count h (links_of (take i xs)) + cond (pending_of (find h.slots (get_or xs i d).link.id)) 1 0 = pending_last h (take i xs) (get_or xs i d) in
    let this : one ≡ cond (pending_of (find h.slots (get_or xs i d).link.id)) 1 0 = rw same at counts in
    let all : n + one ≡ pending_count h (links_of (take i xs ++ get_or xs i d ∷ [])) = omega arith in
    all ∙ sym (ap (λ ys. pending_count h (links_of ys)) (take_more xs i d lt))
