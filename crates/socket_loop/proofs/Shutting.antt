-- Each connection shut in a turn has its session closed.
use Rattle.std.proofs.Common.{◌≡◌, ◌⊎◌, ℕ, zero, suc, ◌<◌, ◌≤◌, List, [], ◌∷◌, ◌++◌, Option, refl, sym, ap, ◌∙◌, arith, inl, inr, length}
use Rattle.session_slots.specs.declared.id.SessionId.{SessionId}
use Rattle.host_core.specs.Steps.{HostState}
use Rattle.host_core.specs.Events.{Event}
use Rattle.host_core.specs.Made.{Step}
use Rattle.host_core.specs.Runs.{IsRun}
use Rattle.host_core.proofs.Chains.{run-start}
use Rattle.host_core.proofs.OneSession.{gone}
use Rattle.socket_loop.specs.declared.connection.Link.{Link}
use Rattle.socket_loop.specs.declared.connection.Connection.{Connection}
use Rattle.transport.specs.Asked.{Call}
use Rattle.socket_loop.specs.Links.{Ties, IsAmong, IsMarked, links_of, was_shut}
use Rattle.socket_loop.specs.Parts.{IsGone, IsInput, IsOutput, IsEnd}
use Rattle.socket_loop.specs.Calls.{IsVisit, Visits, AreVisitedTo, reads_of, writes_of, ends_of, AsksTo}
use Rattle.socket_loop.specs.Turns.{FitsOne}
use Rattle.socket_loop.proofs.Runs.{run-append, next_rises}
use Rattle.socket_loop.proofs.Accepting.{tied_of}
use Rattle.socket_loop.specs.Accepting.{AddsNoMark}

-- some run leads from `h` to `i`
record Onward (h i : HostState) : Type 0 where
  pub steps : List Step
  pub run : IsRun h steps i

-- a link with the number has its session gone
record ClosedOne (h : HostState) (ls : List Link) (n : ℕ) : Type 0 where
  pub link : Link
  pub among : IsAmong ls link
  pub same : link.number ≡ n
  pub gone : IsGone h link.id

later_gone : (h i : HostState) (id : SessionId) (steps : List Step) → IsRun h steps i → IsGone h id → IsGone i id
later_gone h i id steps r g =
    let u : h.slots.next ≤ i.slots.next = next_rises h i steps r in
    let v : id.generation < h.slots.next = g.below in
    record { none = (gone h i id steps g.none g.below r).none; below = omega arith }

later_one : (h i : HostState) (ls : List Link) (n : ℕ) (steps : List Step) → IsRun h steps i → ClosedOne h ls n → ClosedOne i ls n
later_one h i ls n steps r c = record { link = c.link; among = c.among; same = c.same; gone = later_gone h i c.link.id steps r c.gone }

onward : (n : ℕ) (due : HostState → Connection → Connection → List Call) (kind : Event → Type 0) (h i : HostState) (xs ys : List Connection) (calls : List Call) → AreVisitedTo n due kind h xs ys calls i → Onward h i
onward zero due kind h i xs ys calls p = record { steps = []; run = rw p.1.1 (run-start h) }
onward (suc n) due kind h i [] ys calls p = absurd p
onward (suc n) due kind h i (x ∷ xs) [] calls p = absurd p
onward (suc n) due kind h i (x ∷ xs) (y ∷ ys) calls p =
    let first : Visits kind x.link.id h p.0 = p.1.1.1.1.0 in
    let rest : Onward p.0 i = onward n due kind p.0 i xs ys p.1.0 p.1.1.1.1.1 in
    record { steps = first.steps ++ rest.steps; run = run-append h p.0 i first.steps rest.steps first.run rest.run }

-- a connection marked as shut was marked before, or its session is gone
mark_visited : (n : ℕ) (due : HostState → Connection → Connection → List Call) (kind : Event → Type 0) (h i : HostState) (xs ys : List Connection) (calls : List Call) → AreVisitedTo n due kind h xs ys calls i → ((l : Link) → IsAmong (links_of xs) l → l.id.generation < h.slots.next) → (number : ℕ) → IsMarked was_shut ys number
    → IsMarked was_shut xs number ⊎ ClosedOne i (links_of xs) number
mark_visited zero due kind h i xs ys calls p below number m = inl (rw p.0 at m)
mark_visited (suc n) due kind h i [] ys calls p below number m = absurd p
mark_visited (suc n) due kind h i (x ∷ xs) [] calls p below number m = absurd p
mark_visited (suc n) due kind h i (x ∷ xs) (y ∷ ys) calls p below number (inl here) =
    let visit : IsVisit p.0 (due h x y) x y = p.1.1.1.0 in
    let first : Visits kind x.link.id h p.0 = p.1.1.1.1.0 in
    let rest : Onward p.0 i = onward n due kind p.0 i xs ys p.1.0 p.1.1.1.1.1 in
    let same : x.link.number ≡ number = ap (λ (k : Link). k.number) (sym visit.link) ∙ here.0 in
    let u : x.link.id.generation < h.slots.next = below x.link (inl refl) in
    let v : h.slots.next ≤ p.0.slots.next = next_rises h p.0 first.steps first.run in
    elim (visit.closed here.1) [
      | inl was ↦ inl (inl (same, was))
      | inr none ↦ inr (record { link = x.link; among = inl refl; same = same; gone = later_gone p.0 i x.link.id rest.steps rest.run (record { none = none; below = omega arith }) })
    ]
mark_visited (suc n) due kind h i (x ∷ xs) (y ∷ ys) calls p below number (inr there) =
    let first : Visits kind x.link.id h p.0 = p.1.1.1.1.0 in
    let v : h.slots.next ≤ p.0.slots.next = next_rises h p.0 first.steps first.run in
    elim (mark_visited n due kind p.0 i xs ys p.1.0 p.1.1.1.1.1 (λ l among. (let u : l.id.generation < h.slots.next = below l (inr among) in omega arith)) number there) [
      | inl was ↦ inl (inr was)
      | inr one ↦ inr (record { link = one.link; among = inr one.among; same = one.same; gone = one.gone })
    ]

-- each connection met and marked as shut was marked before the turn, or its session is gone
abbrev pub ShutsAll : List Connection → List Connection → List Connection → HostState → Type 0
ShutsAll held met last after = (x : Link) → IsAmong (links_of met) x → IsMarked was_shut last x.number → IsMarked was_shut held x.number ⊎ IsGone after x.id

-- the link with the number is the one whose session is gone
closed_tied : (bound : ℕ) (i m : HostState) (ls : List Link) (x : Link) → FitsOne ls bound i x → ClosedOne m ls x.number → IsGone m x.id
closed_tied bound i m ls x fit c =
    let t : Ties c.link x = tied_of ls x c.link fit.tied c.among in
    rw (sym (t.by_number c.same)) c.gone

pub shuts_all : (held met read written last : List Connection) (bound : ℕ) (i j k l m : HostState) (round : List Step) (a b c d : Option (List Call)) → ((n : ℕ) → AddsNoMark held met n) → ((x : Link) → IsAmong (links_of met) x → FitsOne (links_of met) bound i x) → links_of read ≡ links_of met → links_of written ≡ links_of met
    → AsksTo (length met) reads_of IsInput i met read a b j → IsRun j round k → AsksTo (length read) writes_of IsOutput k read written b c l → AsksTo (length written) ends_of IsEnd l written last c d m → ShutsAll held met last m
shuts_all held met read written last bound i j k l m round a b c d adds fits read_links written_links reads run writes ends = λ x among mark.
    let r : Onward i j = onward (length met) reads_of IsInput i j met read reads.calls reads.visited in
    let w : Onward k l = onward (length read) writes_of IsOutput k l read written writes.calls writes.visited in
    let e : Onward l m = onward (length written) ends_of IsEnd l m written last ends.calls ends.visited in
    let s : i.slots.next ≤ j.slots.next = next_rises i j r.steps r.run in
    let t : j.slots.next ≤ k.slots.next = next_rises j k round run in
    let u : k.slots.next ≤ l.slots.next = next_rises k l w.steps w.run in
    let below_k : (y : Link) → IsAmong (links_of read) y → y.id.generation < k.slots.next = (λ y p. (let v : y.id.generation < i.slots.next = (fits y (rw read_links at p)).opened in omega arith)) in
    let below_l : (y : Link) → IsAmong (links_of written) y → y.id.generation < l.slots.next = (λ y p. (let v : y.id.generation < i.slots.next = (fits y (rw written_links at p)).opened in omega arith)) in
    elim (mark_visited (length written) ends_of IsEnd l m written last ends.calls ends.visited below_l x.number mark) [
      | inr one ↦ inr (closed_tied bound i m (links_of met) x (fits x among) (rw written_links at one))
      | inl on_written ↦ elim (mark_visited (length read) writes_of IsOutput k l read written writes.calls writes.visited below_k x.number on_written) [
        | inr one ↦ inr (closed_tied bound i m (links_of met) x (fits x among) (rw read_links at (later_one l m (links_of read) x.number e.steps e.run one)))
        | inl on_read ↦ elim (mark_visited (length met) reads_of IsInput i j met read reads.calls reads.visited (λ y p. (fits y p).opened) x.number on_read) [
          | inr one ↦ inr (closed_tied bound i m (links_of met) x (fits x among) (later_one l m (links_of met) x.number e.steps e.run (later_one k l (links_of met) x.number w.steps w.run (later_one j k (links_of met) x.number round run one))))
          | inl on_met ↦ inl ((adds x.number).shut on_met)
        ]
      ]
    ]
