-- The calls of a turn, one by one.
use Rattle.std.proofs.Common.{◌≡◌, ◌⊎◌, ℕ, zero, suc, ◌+◌, ◌<◌, Bool, true, false, cond, List, [], ◌∷◌, ◌++◌, length, take, get_or, set, Option, Some, None, Result, Ok, refl, sym, ap, ◌∙◌, arith, append_assoc, append-nil, inl, inr, Err}
use Rattle.std.proofs.lemmas.List.{length-map}
use Rattle.std.proofs.Math.Seq.{take-append_seam}
use Rattle.session_slots.specs.declared.id.SessionId.{SessionId}
use Rattle.host_core.specs.Steps.{HostState}
use Rattle.host_core.specs.Events.{Event, Outcome, Opened, Done, Worked, Gave, Refused, Close}
use Rattle.host_core.specs.Runs.{IsStep}
use Rattle.host_core.proofs.Chains.{run-start}
use Rattle.transport.specs.declared.wire.WireFault.{WireFault}
use Rattle.transport.proofs.Asked.{asks_none, asks_then}
use Rattle.socket_loop.specs.declared.connection.Connection.{Connection}
use Rattle.transport.specs.Asked.{Call, Accept, Read, Write, Shut, Asks, IsCalled}
use Rattle.socket_loop.specs.declared.connection.Link.{Link}
use Rattle.socket_loop.specs.Links.{links_of, IsAmong}
use Rattle.socket_loop.specs.Calls.{IsOf, IsVisit, Visits, is_to_read, is_to_write, is_to_shut, reads_of, writes_of, ends_of, AreVisitedTo, AsksTo, IsAdmittedAs, AreAccepted, AsksAll, EndsAccepting, shuts_of}
use Rattle.host_core.specs.declared.event.HostFault.{HostFault}
use Rattle.host_core.specs.declared.event.HostFault.TheVariants.{Full, OutOfMemory, UnknownSession, NotReady}
use Rattle.socket_loop.specs.Turns.{HaveSessions, KeepsMade}
use Rattle.session_slots.specs.Slots.{find}
use Rattle.host_core.specs.ById.{queued_of}
use Rattle.socket_loop.proofs.Stirs.{made_same}
use Rattle.socket_loop.proofs.Runs.{run-one, run-two}
use Rattle.socket_loop.specs.Past.{Accepted}
use Rattle.socket_loop.specs.Accepting.{AsksAdmission}
use Rattle.socket_loop.specs.Visits.{IsClosing}

-- ---- what was asked

-- the new connection is held with its session, without a call
pub asks_held : (met : List Link) (l : Link) (a b : Option (List Call)) → IsAmong met l → b ≡ a → AsksAdmission met l.number (Opened l.id) a b
asks_held met l a b among e = record { calls = []; admitted = ((l, (among, (refl, refl))), refl); asked = rw e (asks_none a) }

-- ---- one connection

shuts_one : (old new : Connection) → old.is_shut ≡ false → new.is_shut ≡ true → shuts_of old new ≡ Shut old.link.number ∷ []
shuts_one old new e f = rw (e, f) refl

-- the connection was shut, with one call
pub asks_shut : (a b : Option (List Call)) (old new : Connection) → old.is_shut ≡ false → new.is_shut ≡ true → Asks a b (Shut old.link.number ∷ []) → Asks a b (shuts_of old new)
asks_shut a b old new e f p = rw (shuts_one old new e f) p

-- a due call, and the calls after it
pub asks_due : (a b c : Option (List Call)) (due : Bool) (first : Call) (more : List Call) → due ≡ true → Asks a b (first ∷ []) → Asks b c more → Asks a c (cond due (first ∷ more) [])
asks_due a b c due first more e p q = rw e (asks_then a b c (first ∷ []) more p q)

pub visits_nothing : (kind : Event → Type 0) (id : SessionId) (a : HostState) → Visits kind id a a
visits_nothing kind id a = record { steps = []; kinds = tt; of_it = tt; run = run-start a }

pub visits_step : (kind : Event → Type 0) (id : SessionId) (a b : HostState) (event : Event) (o : Outcome) → kind event → IsOf id event → IsStep a (record { event = event; outcome = o }) b → Visits kind id a b
visits_step kind id a b event o k e s = record { steps = record { event = event; outcome = o } ∷ []; kinds = (k, tt); of_it = (e, tt); run = run-one a b _ s }

pub visits_closing : (kind : Event → Type 0) (id : SessionId) (a b : HostState) → kind (Close id) → IsClosing a id b → Visits kind id a b
visits_closing kind id a b k c = visits_step kind id a b (Close id) c.outcome k refl c.step

pub visits_two : (kind : Event → Type 0) (id : SessionId) (a b c : HostState) (event : Event) (o : Outcome) → kind event → kind (Close id) → IsOf id event → IsStep a (record { event = event; outcome = o }) b → IsClosing b id c → Visits kind id a c
visits_two kind id a b c event o k l e s t = record { steps = record { event = event; outcome = o } ∷ record { event = Close id; outcome = t.outcome } ∷ []; kinds = (k, (l, tt)); of_it = (e, (refl, tt)); run = run-two a b c _ _ s t.step }

-- ---- what a visit leaves

-- a connection shut in the visit has its session closed
abbrev pub ClosesShut : HostState → Connection → Connection → Type 0
ClosesShut after x y = y.is_shut ≡ true → (x.is_shut ≡ true) ⊎ (find after.slots x.link.id ≡ None)

-- no call, and no change
visit_same : (after : HostState) (x y : Connection) → y ≡ x → IsVisit after [] x y
visit_same after x y e = rw e (record { link = refl; made = made_same x; shut = (λ was. inl was, λ o. elim o [ inl was ↦ was | inr none ↦ absurd none ]); closed = λ was. inl was; ended = λ was. inl was })

shut_called : (first : Call) (x y : Connection) (was : Bool) → x.is_shut ≡ was → y.is_shut ≡ true → (x.is_shut ≡ true) ⊎ IsCalled (first ∷ shuts_of x y) (Shut x.link.number)
shut_called first x y true e f = inl e
shut_called first x y false e f = inr (inr (rw (shuts_one x y e f) (inl refl)))

called_shut : (x y : Connection) (now : Bool) → y.is_shut ≡ now → IsCalled (shuts_of x y) (Shut x.link.number) → y.is_shut ≡ true
called_shut x y true e m = e
called_shut x y false e m = (let none : IsCalled [] (Shut x.link.number) = rw e at m in absurd none)

-- a call other than a shut, then perhaps a shut
visit_first : (after : HostState) (first : Call) (x y : Connection) → (Shut x.link.number ≡ first → ⊥) → y.link ≡ x.link → KeepsMade x y → ClosesShut after x y → (y.has_ended ≡ true → (x.has_ended ≡ true) ⊎ IsCalled (first ∷ shuts_of x y) (Read x.link.number 4096)) → IsVisit after (first ∷ shuts_of x y) x y
visit_first after first x y other link made closed ended = record {
  link = link;
  made = made;
  shut = (
    λ now. shut_called first x y x.is_shut refl now,
    λ o. elim o [
      | inl was ↦ made.shut was
      | inr called ↦ elim called [ inl same ↦ absurd (other same) | inr later ↦ called_shut x y y.is_shut refl later ]
    ],
  );
  closed = closed;
  ended = ended;
}

reads_by : (host after : HostState) (x y : Connection) (due : Bool) → is_to_read host x ≡ due → y.link ≡ x.link → KeepsMade x y → ClosesShut after x y → (is_to_read host x ≡ false → y ≡ x) → IsVisit after (reads_of host x y) x y
reads_by host after x y true e link made closed still = rw e (visit_first after (Read x.link.number 4096) x y (λ f. absurd (cc)) link made closed (λ now. inr (inl refl)))
reads_by host after x y false e link made closed still = rw e (visit_same after x y (still e))

pub visit_reads : (host after : HostState) (x y : Connection) → y.link ≡ x.link → KeepsMade x y → ClosesShut after x y → (is_to_read host x ≡ false → y ≡ x) → IsVisit after (reads_of host x y) x y
visit_reads host after x y link made closed still = reads_by host after x y (is_to_read host x) refl link made closed still

writes_by : (host after : HostState) (x y : Connection) (due : Bool) → is_to_write host x ≡ due → y.link ≡ x.link → KeepsMade x y → y.has_ended ≡ x.has_ended → ClosesShut after x y → (is_to_write host x ≡ false → y ≡ x) → IsVisit after (writes_of host x y) x y
writes_by host after x y true e link made ended closed still = rw e (visit_first after (Write x.link.number (queued_of (find host.slots x.link.id))) x y (λ f. absurd (cc)) link made closed (λ now. inl (sym ended ∙ now)))
writes_by host after x y false e link made ended closed still = rw e (visit_same after x y (still e))

pub visit_writes : (host after : HostState) (x y : Connection) → y.link ≡ x.link → KeepsMade x y → y.has_ended ≡ x.has_ended → ClosesShut after x y → (is_to_write host x ≡ false → y ≡ x) → IsVisit after (writes_of host x y) x y
visit_writes host after x y link made ended closed still = writes_by host after x y (is_to_write host x) refl link made ended closed still

ends_by : (host after : HostState) (x y : Connection) (due : Bool) → is_to_shut host x ≡ due → y.link ≡ x.link → KeepsMade x y → y.has_ended ≡ x.has_ended → ClosesShut after x y → (is_to_shut host x ≡ true → y.is_shut ≡ true) → (is_to_shut host x ≡ false → y ≡ x) → IsVisit after (ends_of host x y) x y
ends_by host after x y true e link made ended closed shuts still = rw e (record {
  link = link;
  made = made;
  shut = (λ now. inr (inl refl), λ o. shuts e);
  closed = closed;
  ended = λ now. inl (sym ended ∙ now);
})
ends_by host after x y false e link made ended closed shuts still = rw e (visit_same after x y (still e))

pub visit_ends : (host after : HostState) (x y : Connection) → y.link ≡ x.link → KeepsMade x y → y.has_ended ≡ x.has_ended → ClosesShut after x y → (is_to_shut host x ≡ true → y.is_shut ≡ true) → (is_to_shut host x ≡ false → y ≡ x) → IsVisit after (ends_of host x y) x y
visit_ends host after x y link made ended closed shuts still = ends_by host after x y (is_to_shut host x) refl link made ended closed shuts still

-- ---- one connection after the other

pub asks_start : (due : HostState → Connection → Connection → List Call) (kind : Event → Type 0) (h : HostState) (xs : List Connection) (a : Option (List Call)) → AsksTo 0 due kind h xs xs a a h
asks_start due kind h xs a = record { calls = []; visited = (refl, (refl, refl)); asked = asks_none a }

visited_next : (n : ℕ) (due : HostState → Connection → Connection → List Call) (kind : Event → Type 0) (h i j : HostState) (xs ys : List Connection) (calls : List Call) (y d : Connection) → n < length ys → AreVisitedTo n due kind h xs ys calls i → IsVisit j (due i (get_or ys n d) y) (get_or ys n d) y → Visits kind (get_or ys n d).link.id i j
    → AreVisitedTo (suc n) due kind h xs (set ys n y) (calls ++ due i (get_or ys n d) y) j
visited_next zero due kind h i j xs [] calls y d lt p w v = absurd (omega (arith, lt))
visited_next zero due kind h i j xs (z ∷ zs) calls y d lt p w v =
    rw (sym p.0, p.1.0, sym p.1.1) (j, ([], (sym (append-nil (due i z y)), (w, (v, (refl, (refl, refl)))))))
visited_next (suc n) due kind h i j [] ys calls y d lt p w v = absurd p
visited_next (suc n) due kind h i j (x ∷ xs) [] calls y d lt p w v = absurd p
visited_next (suc n) due kind h i j (x ∷ xs) (z ∷ zs) calls y d lt p w v =
    (p.0, (p.1.0 ++ due i (get_or zs n d) y, (ap (λ (l : List Call). l ++ due i (get_or zs n d) y) p.1.1.0 ∙ append_assoc (due h x z) p.1.0 (due i (get_or zs n d) y), (p.1.1.1.0, (p.1.1.1.1.0, visited_next n due kind p.0 i j xs zs p.1.0 y d (omega (arith, lt)) p.1.1.1.1.1 w v)))))

pub asks_next : (n : ℕ) (due : HostState → Connection → Connection → List Call) (kind : Event → Type 0) (h i j : HostState) (xs ys : List Connection) (y d : Connection) (a b c : Option (List Call)) → n < length ys → AsksTo n due kind h xs ys a b i → IsVisit j (due i (get_or ys n d) y) (get_or ys n d) y → Visits kind (get_or ys n d).link.id i j → Asks b c (due i (get_or ys n d) y)
    → AsksTo (n + 1) due kind h xs (set ys n y) a c j
asks_next n due kind h i j xs ys y d a b c lt p w v q =
    let one : n + 1 ≡ suc n = omega arith in
    rw one (record {
      calls = p.calls ++ due i (get_or ys n d) y;
      visited = visited_next n due kind h i j xs ys p.calls y d lt p.visited w v;
      asked = asks_then a b c p.calls (due i (get_or ys n d) y) p.asked q;
    })

-- `take` of the visited part of a list drops the rest
pub all_taken : (m : ℕ) (ys rest : List Connection) → m ≡ length ys → take m (ys ++ rest) ≡ ys
all_taken m ys rest e = rw e (take-append_seam ys rest)

-- all connections were visited, and none was added
pub asks_end : (n m : ℕ) (due : HostState → Connection → Connection → List Call) (kind : Event → Type 0) (h i : HostState) (xs ys rest : List Connection) (a b : Option (List Call)) → n ≡ length ys → m ≡ length ys → links_of ys ≡ links_of xs → AsksTo n due kind h xs ys a b i → AsksTo (length xs) due kind h xs (take m (ys ++ rest)) a b i
asks_end n m due kind h i xs ys rest a b e f same p =
    let as_many : length ys ≡ length xs = sym (length-map ys (λ (c : Connection). c.link)) ∙ (ap length same ∙ length-map xs (λ (c : Connection). c.link)) in
    rw (f, take-append_seam ys rest, sym (e ∙ as_many)) p

-- ---- new connections

-- these connections were accepted, with their calls
pub record AsksAccepts (met : List Link) (items : List Accepted) (old new : Option (List Call))
    : Type 0 where
  pub calls : List Call
  pub accepted : AreAccepted met items calls
  pub asked : Asks old new calls

accepted_next : (met : List Link) (items : List Accepted) (calls : List Call) (item : Accepted) (more : List Call) → AreAccepted met items calls → IsAdmittedAs met item item.outcome more → AreAccepted met (items ++ (item ∷ [])) (calls ++ (Accept (Ok (Some item.number)) ∷ more))
accepted_next met [] calls item more p m = rw p (more, ([], (ap (λ (l : List Call). Accept (Ok (Some item.number)) ∷ l) (sym (append-nil more)), (m, refl))))
accepted_next met (x ∷ items) calls item more p m =
    let first = p.0 in
    let rest = p.1.0 in
    let is : calls ≡ Accept (Ok (Some x.number)) ∷ (first ++ rest) = p.1.1.0 in
    (first, (rest ++ (Accept (Ok (Some item.number)) ∷ more), (rw is (ap (λ (l : List Call). Accept (Ok (Some x.number)) ∷ l) (append_assoc first rest (Accept (Ok (Some item.number)) ∷ more))), (p.1.1.1.0, accepted_next met items rest item more p.1.1.1.1 m))))

-- an admission stays true with more links
admitted_on : (ms ns : List Link) (item : Accepted) (o : Outcome) (calls : List Call) → ((l : Link) → IsAmong ms l → IsAmong ns l) → IsAdmittedAs ms item o calls → IsAdmittedAs ns item o calls
admitted_on ms ns item (Opened id) calls stay h = ((h.0.0, (stay h.0.0 h.0.1.0, h.0.1.1)), h.1)
admitted_on ms ns item (Refused Full) calls stay p = p
admitted_on ms ns item (Refused OutOfMemory) calls stay p = p
admitted_on ms ns item (Refused UnknownSession) calls stay p = p
admitted_on ms ns item (Refused NotReady) calls stay p = p
admitted_on ms ns item Done calls stay p = p
admitted_on ms ns item (Worked n) calls stay p = p
admitted_on ms ns item (Gave bytes) calls stay p = p

accepted_on : (ms ns : List Link) (items : List Accepted) (calls : List Call) → ((l : Link) → IsAmong ms l → IsAmong ns l) → AreAccepted ms items calls → AreAccepted ns items calls
accepted_on ms ns [] calls stay p = p
accepted_on ms ns (x ∷ items) calls stay p =
    (p.0, (p.1.0, (p.1.1.0, (admitted_on ms ns x x.outcome p.0 stay p.1.1.1.0, accepted_on ms ns items p.1.0 stay p.1.1.1.1))))

pub asks_on : (ms ns : List Link) (items : List Accepted) (a b : Option (List Call)) → ((l : Link) → IsAmong ms l → IsAmong ns l) → AsksAccepts ms items a b → AsksAccepts ns items a b
asks_on ms ns items a b stay p = record { calls = p.calls; accepted = accepted_on ms ns items p.calls stay p.accepted; asked = p.asked }

pub asks_no_accept : (met : List Link) (a : Option (List Call)) → AsksAccepts met [] a a
asks_no_accept met a = record { calls = []; accepted = refl; asked = asks_none a }

pub asks_accept : (met : List Link) (items : List Accepted) (item : Accepted) (a b c d : Option (List Call)) → AsksAccepts met items a b → Asks b c (Accept (Ok (Some item.number)) ∷ []) → AsksAdmission met item.number item.outcome c d → AsksAccepts met (items ++ (item ∷ [])) a d
asks_accept met items item a b c d p q r = record {
  calls = p.calls ++ (Accept (Ok (Some item.number)) ∷ r.calls);
  accepted = accepted_next met items p.calls item r.calls p.accepted r.admitted;
  asked = asks_then a b d p.calls (Accept (Ok (Some item.number)) ∷ r.calls) p.asked (asks_then b c d (Accept (Ok (Some item.number)) ∷ []) r.calls q r.asked);
}

-- the accept gave nobody
abbrev pub GivesNobody : Result (Option ℕ) WireFault → Type 0
GivesNobody (Ok (Some number)) = ⊥
GivesNobody (Ok None) = Unit {0}
GivesNobody (Err fault) = Unit {0}

nobody : (answer : Result (Option ℕ) WireFault) → GivesNobody answer → (Accept answer ∷ [] ≡ Accept (Ok None) ∷ []) ⊎ ((fault : WireFault) × (Accept answer ∷ [] ≡ Accept (Err fault) ∷ []))
nobody (Ok (Some number)) g = absurd g
nobody (Ok None) g = inl refl
nobody (Err fault) g = inr (fault, refl)

pub asks_stop : (host : HostState) (ls met : List Link) (items : List Accepted) (a b c : Option (List Call)) (answer : Result (Option ℕ) WireFault) → length items < 16 → AsksAccepts met items a b → Asks b c (Accept answer ∷ []) → GivesNobody answer → AsksAll host ls met items a c
asks_stop host ls met items a b c answer lt p q g = record {
  first = p.calls;
  last = Accept answer ∷ [];
  accepted = p.accepted;
  ends = inl (inr (lt, nobody answer g));
  asked = asks_then a b c p.calls (Accept answer ∷ []) p.asked q;
}

pub asks_full : (host : HostState) (ls met : List Link) (items : List Accepted) (a b : Option (List Call)) → (length items ≡ 16) ⊎ ¬ HaveSessions host ls → AsksAccepts met items a b → AsksAll host ls met items a b
asks_full host ls met items a b e p =
    let ends_ : EndsAccepting items [] ⊎ (([] ≡ []) × ¬ HaveSessions host ls) = elim e [ inl most ↦ inl (inl (most, refl)) | inr lacks ↦ inr (refl, lacks) ] in
    record { first = p.calls; last = []; accepted = p.accepted; ends = ends_; asked = rw (append-nil p.calls) p.asked }

-- memory ran out for a session
pub refused_admitted : (met : List Link) (number : ℕ) (fault : HostFault) → (fault ≡ Full → ⊥) → IsAdmittedAs met (record { number = number; outcome = Refused fault }) (Refused fault) (Shut number ∷ [])
refused_admitted met number Full f = absurd (f refl)
refused_admitted met number OutOfMemory f = refl
refused_admitted met number UnknownSession f = refl
refused_admitted met number NotReady f = refl
