-- New connections, and what their accepts keep.
use Rattle.std.proofs.Common.{◌≡◌, ◌≢◌, ◌⊎◌, ℕ, zero, suc, ◌+◌, ◌<◌, ◌≤◌, Bool, true, false, List, [], ◌∷◌, ◌++◌, Option, Some, None, Result, Ok, Err, map, drop, refl, sym, ap, ◌∙◌, subst, arith, take-append-drop, inl, inr, length, append-nil, length-append}
use Rattle.std.specs.Prelude.{insert, ◌||◌}
use Rattle.std.proofs.lemmas.Bool.{cases_eq}
use Rattle.std.proofs.lemmas.List.{map-append}
use Rattle.std.proofs.KnownBytes.{Appends-kept, Keeps-trans}
use Rattle.session_slots.specs.declared.id.SessionId.{SessionId}
use Rattle.session_slots.specs.Slots.{Opens}
use Rattle.usi_session.specs.Due.{new_session_under}
use Rattle.host_core.specs.Steps.{HostState}
use Rattle.host_core.specs.declared.event.HostFault.{HostFault}
use Rattle.host_core.specs.Events.{Outcome, Opened, Refused, Open}
use Rattle.host_core.specs.Made.{Step, is_opened}
use Rattle.host_core.specs.Runs.{IsStep}
use Rattle.host_core.specs.Headline.{IsPrefixOf}
use Rattle.host_core.proofs.Chains.{run-start}
use Rattle.host_core.proofs.Ids.{is_same_id-refl}
use Rattle.socket_loop.specs.declared.connection.Link.{Link}
use Rattle.socket_loop.specs.declared.tally.Arrivals.{Arrivals}
use Rattle.socket_loop.specs.declared.tally.Admission.{Admission}
use Rattle.socket_loop.specs.Tallies.{full_of, unopened_of, count_of}
use Rattle.socket_loop.specs.declared.connection.Connection.{Connection}
use Rattle.transport.specs.declared.wire.WireFault.{WireFault}
use Rattle.transport.specs.Report.{Report, KeepsConnection, KeepsAll, Writes, Shuts, bytes_written, GivesNumber}
use Rattle.socket_loop.specs.Links.{Ties, IsAmong, IsNotAmong, links_of, Each}
use Rattle.socket_loop.specs.Parts.{IsAdmission}
use Rattle.transport.specs.Moves.{AllMove}
use Rattle.socket_loop.specs.Turns.{Fits, AreNumbered, HasSession, HaveSessions, IsRejected, rejection_text}
use Rattle.transport.proofs.Reported.{kept_same, kept_then, all_kept, moves_then, away_moves, stays_raised, rises_then, stays_rise, reported_failure, raised_rises, Consumes-none, Appends-none, Keeps-Appends}
use Rattle.transport.specs.Asked.{Call, Accept, Asks}
use Rattle.socket_loop.specs.Calls.{AsksAll}
use Rattle.socket_loop.proofs.Calls.{AsksAccepts, asks_accept, asks_full, asks_no_accept, asks_on, asks_stop, GivesNobody}
use Rattle.socket_loop.proofs.Left.{once_insert}
use Rattle.socket_loop.proofs.Runs.{run-one, run-append, own-append, taken-append, all_append, next_rises, step_rises, opened_left, opened_right}
use Rattle.socket_loop.specs.Past.{Accepted}
use Rattle.socket_loop.specs.Accepting.{Accepts, Admits, AllAccepted, AreArrivals, AsksAdmission, IsNew, IsShutAfterPrefix}

-- ---- rejected

written_prefix : (r : Result ℕ WireFault) (bytes : List ℕ) → IsPrefixOf (bytes_written r bytes) bytes
written_prefix (Ok n) bytes = (drop n bytes, take-append-drop n bytes)
written_prefix (Err e) bytes = (bytes, refl)

-- a text was written, or a prefix of it, and the connection was shut
pub away : (a b c : Report) (bound number : ℕ) (r : Result ℕ WireFault) (bytes text : List ℕ) → bytes ≡ text → Writes a b number r bytes → Shuts bound b c number → IsShutAfterPrefix bound text a c number
away a b c bound number r bytes text e w s = record {
  unread = Keeps-trans _ _ _ w.unread s.unread;
  given = Keeps-trans _ _ _ w.given s.given;
  bytes = bytes_written r bytes;
  prefix = subst (λ (xs : List ℕ). IsPrefixOf (bytes_written r bytes) xs) e (written_prefix r bytes);
  appended = Appends-kept _ _ _ _ w.appended s.written;
  shut = λ lt. stays_raised _ _ _ w.shut (s.shut lt);
  only_rises = rises_then _ _ _ (stays_rise _ _ w.shut) s.only_rises;
  failed = rises_then _ _ _ (reported_failure r _ _ w.failed) (stays_rise _ _ s.failed);
  others = λ other differs. kept_then a b c other (w.others other differs) (s.others other differs);
}

-- the connection was shut without a word
pub away_mute : (a b : Report) (bound number : ℕ) (text : List ℕ) → Shuts bound a b number → IsShutAfterPrefix bound text a b number
away_mute a b bound number text s = record {
  unread = s.unread;
  given = s.given;
  bytes = [];
  prefix = (text, refl);
  appended = Appends-none _ _ s.written;
  shut = s.shut;
  only_rises = s.only_rises;
  failed = stays_rise _ _ s.failed;
  others = s.others;
}

away_move : (a b : Report) (bound number : ℕ) (text : List ℕ) → IsShutAfterPrefix bound text a b number → AllMove a b
away_move a b bound number text w = away_moves a b number [] w.bytes w.only_rises w.failed (Consumes-none _ _ w.unread) (Appends-none _ _ w.given) w.appended w.others

-- ---- no connection is added

fits_more : (ls : List Link) (from to : ℕ) (h i : HostState) → from ≤ to → h.slots.next ≤ i.slots.next → Fits ls from h → Fits ls to i
fits_more ls from to h i r n f = λ l m.
    let u : l.number < from = (f l m).number in
    let v : l.id.generation < h.slots.next = (f l m).opened in
    record { tied = (f l m).tied; number = omega arith; opened = omega arith }

pub accepts_none : (ls : List Link) (from to : ℕ) (a b : Report) (h : HostState) → from ≤ to → KeepsAll a b → Accepts ls from a h ls to b h
accepts_none ls from to a b h rises k = record {
  accepted = [];
  host = record {
    steps = [];
    kinds = tt;
    chain = run-start h;
    no_own = λ id. refl;
    no_taken = λ id. refl;
    answers = refl;
  };
  rises = rises;
  numbered = rises;
  kept = λ n l. k n;
  each = λ n. inl (k n);
  all = all_kept a b k;
  accounted = λ fit new one. absurd one;
  stay = λ l m. m;
  are = λ l m. inl m;
  fits = fits_more ls from to h h rises (omega arith);
  once = λ fit o. o;
}

pub accepts_start : (ls : List Link) (from : ℕ) (a : Report) (h : HostState) → Accepts ls from a h ls from a h
accepts_start ls from a h = accepts_none ls from from a a h (omega arith) (kept_same a)

away_one : (a b c : Report) (from number to : ℕ) (o : HostFault) → KeepsAll a b → from ≤ number → number < to → IsShutAfterPrefix to (rejection_text o) b c number → IsRejected from to (record { number = number; outcome = Refused o } ∷ []) a c number
away_one a b c from number to o k least most w = record {
  least = least;
  most = most;
  fault = o;
  answered = inl refl;
  unread = Keeps-trans _ _ _ (k number).unread w.unread;
  given = Keeps-trans _ _ _ (k number).given w.given;
  bytes = w.bytes;
  prefix = w.prefix;
  appended = Keeps-Appends _ _ _ _ (k number).written w.appended;
  shut = stays_raised _ _ _ (k number).shut (w.shut most);
  failed = rises_then _ _ _ (stays_rise _ _ (k number).failed) w.failed;
}

away_each : (a b c : Report) (from number to n : ℕ) (o : HostFault) → KeepsAll a b → from ≤ number → number < to → IsShutAfterPrefix to (rejection_text o) b c number → KeepsConnection a c n ⊎ IsRejected from to (record { number = number; outcome = Refused o } ∷ []) a c n
away_each a b c from number to n o k least most w =
    elim (cases_eq n number) [
      | inl same ↦ inr (rw same (away_one a b c from number to o k least most w))
      | inr apart ↦ inl (kept_then a b c n (k n) (w.others n apart))
    ]

-- no link has the number
pub apart_each : (ls : List Link) (n : ℕ) → ((l : Link) → IsAmong ls l → l.number ≢ n) → IsNotAmong ls n
apart_each [] n f = tt
apart_each (x ∷ xs) n f = (f x (inl refl), apart_each xs n (λ l m. f l (inr m)))

pub each_apart : (ls : List Link) (n : ℕ) (l : Link) → IsNotAmong ls n → IsAmong ls l → l.number ≢ n
each_apart [] n l p m = absurd m
each_apart (x ∷ xs) n l p (inl e) = λ same. p.0 (ap (λ (k : Link). k.number) (sym e) ∙ same)
each_apart (x ∷ xs) n l p (inr m) = each_apart xs n l p.1 m

-- the `Open` was refused: no session was opened
pub admits_away : (ls : List Link) (a b : Report) (h i : HostState) (number to : ℕ) (o : HostFault) → IsShutAfterPrefix to (rejection_text o) a b number → IsStep h (record { event = Open; outcome = Refused o }) i → Admits ls a h number (Refused o) to ls b i
admits_away ls a b h i number to o w s = λ from old kept least most.
    record {
      items_are = refl;
      accepts = record {
        accepted = record { number = number; outcome = Refused o } ∷ [];
        host = record {
          steps = record { event = Open; outcome = Refused o } ∷ [];
          kinds = (tt, tt);
          chain = run-one h i _ s;
          no_own = λ x. refl;
          no_taken = λ x. refl;
          answers = refl;
        };
        rises = omega arith;
        numbered = (least, omega arith);
        kept = λ n l. kept_then old a b n (kept n) (w.others n (λ e. (let f : n ≡ number = e in absurd (omega arith))));
        each = λ n. away_each old a b from number to n o kept least most w;
        all = moves_then old a b (all_kept old a kept) (away_move a b to number (rejection_text o) w);
        accounted = λ fit new one. inr (elim one [
          | inl is ↦ rw is (away_one old a b from number to o kept least most w, apart_each ls number (λ l m e. (let u : l.number < from = (fit l m).number in let v : l.number ≡ number = e in absurd (omega arith))))
          | inr none ↦ absurd none
        ]);
        stay = λ l m. m;
        are = λ l m. inl m;
        fits = fits_more ls from to h i (omega arith) (step_rises h i Open (Refused o) s.stepped);
        once = λ fit o_. o_;
      };
    }

-- ---- one connection is added

among_insert : (held : List Connection) (place : ℕ) (c : Connection) (l : Link) → IsAmong (links_of (insert held place c)) l → (l ≡ c.link) ⊎ IsAmong (links_of held) l
among_insert [] zero c l m = m
among_insert [] (suc i) c l m = m
among_insert (x ∷ xs) zero c l m = m
among_insert (x ∷ xs) (suc i) c l (inl e) = inr (inl e)
among_insert (x ∷ xs) (suc i) c l (inr m) = elim (among_insert xs i c l m) [ inl e ↦ inl e | inr n ↦ inr (inr n) ]

insert_among : (held : List Connection) (place : ℕ) (c : Connection) (l : Link) → IsAmong (links_of held) l → IsAmong (links_of (insert held place c)) l
insert_among [] i c l m = absurd m
insert_among (x ∷ xs) zero c l m = inr m
insert_among (x ∷ xs) (suc i) c l (inl e) = inl e
insert_among (x ∷ xs) (suc i) c l (inr m) = inr (insert_among xs i c l m)

pub insert_in : (held : List Connection) (place : ℕ) (c : Connection) → IsAmong (links_of (insert held place c)) c.link
insert_in [] zero c = inl refl
insert_in [] (suc i) c = inl refl
insert_in (x ∷ xs) zero c = inl refl
insert_in (x ∷ xs) (suc i) c = inr (insert_in xs i c)

tied_insert : (held : List Connection) (place : ℕ) (c : Connection) (l : Link) → Ties c.link l → Each (λ other. Ties other l) (links_of held) → Each (λ other. Ties other l) (links_of (insert held place c))
tied_insert [] zero c l t u = (t, tt)
tied_insert [] (suc i) c l t u = (t, tt)
tied_insert (x ∷ xs) zero c l t u = (t, u)
tied_insert (x ∷ xs) (suc i) c l t u = (u.0, tied_insert xs i c l t u.1)

-- the new link ties with each of the links
pub fresh_tied : (ls : List Link) (k : Link) → ((l : Link) → IsAmong ls l → Ties l k) → Each (λ other. Ties other k) ls
fresh_tied [] k f = tt
fresh_tied (x ∷ xs) k f = (f x (inl refl), fresh_tied xs k (λ l m. f l (inr m)))

-- one link ties with another
pub tied_of : (ls : List Link) (k l : Link) → Each (λ other. Ties other k) ls → IsAmong ls l → Ties l k
tied_of [] k l t m = absurd m
tied_of (x ∷ xs) k l t (inl e) = rw e t.0
tied_of (x ∷ xs) k l t (inr m) = tied_of xs k l t.1 m

same_ties : (k l : Link) → l ≡ k → Ties k l
same_ties k l e = record { by_number = λ _. ap (λ (x : Link). x.id) (sym e); by_id = λ _. ap (λ (x : Link). x.number) (sym e) }

pub apart_ties : (k l : Link) → k.number < l.number → k.id.generation < l.id.generation → Ties k l
apart_ties k l n g = record {
  by_number = λ e. (let f : k.number ≡ l.number = e in absurd (omega arith));
  by_id = λ e. (let f : k.id.generation ≡ l.id.generation = ap (λ (x : SessionId). x.generation) e in absurd (omega arith));
}

pub ties_apart : (k l : Link) → k.number < l.number → k.id.generation < l.id.generation → Ties l k
ties_apart k l n g = record {
  by_number = λ e. (let f : l.number ≡ k.number = e in absurd (omega arith));
  by_id = λ e. (let f : l.id.generation ≡ k.id.generation = ap (λ (x : SessionId). x.generation) e in absurd (omega arith));
}

-- the new link fits, and all links from before
fits_new : (held : List Connection) (place : ℕ) (c : Connection) (from to : ℕ) (h i : HostState) → from ≤ c.link.number → c.link.number < to → c.link.id.generation ≡ h.slots.next → i.slots.next ≡ h.slots.next + 1 → Fits (links_of held) from h → Fits (links_of (insert held place c)) to i
fits_new held place c from to h i least most g n f = λ l m.
    elim (among_insert held place c l m) [
      | inl same ↦
          let num : l.number ≡ c.link.number = ap (λ (x : Link). x.number) same in
          let gen : l.id.generation ≡ c.link.id.generation = ap (λ (x : Link). x.id.generation) same in
          record {
            tied = tied_insert held place c l (same_ties c.link l same) (fresh_tied (links_of held) l (λ k among. (
                let u : k.number < from = (f k among).number in
                let v : k.id.generation < h.slots.next = (f k among).opened in
                apart_ties k l (omega arith) (omega arith))));
            number = omega arith;
            opened = omega arith;
          }
      | inr old ↦
          let u : l.number < from = (f l old).number in
          let v : l.id.generation < h.slots.next = (f l old).opened in
          record { tied = tied_insert held place c l (ties_apart l c.link (omega arith) (omega arith)) (f l old).tied; number = omega arith; opened = omega arith }
    ]

opened_true : (id : SessionId) → is_opened id (record { event = Open; outcome = Opened id } ∷ []) ≡ true
opened_true id = ap (λ (b : Bool). b || false) (is_same_id-refl id)

pub admits_new : (held : List Connection) (place : ℕ) (c : Connection) (a : Report) (h i : HostState) (to : ℕ) → IsStep h (record { event = Open; outcome = Opened c.link.id }) i → Admits (links_of held) a h c.link.number (Opened c.link.id) to (links_of (insert held place c)) a i
admits_new held place c a h i to s = λ from old kept least most.
    let o : Opens h.slots i.slots c.link.id (new_session_under h.setup) = s.stepped.opens in
    record {
      items_are = refl;
      accepts = record {
        accepted = record { number = c.link.number; outcome = Opened c.link.id } ∷ [];
        host = record {
          steps = record { event = Open; outcome = Opened c.link.id } ∷ [];
          kinds = (tt, tt);
          chain = run-one h i _ s;
          no_own = λ id. refl;
          no_taken = λ id. refl;
          answers = refl;
        };
        rises = omega arith;
        numbered = (least, omega arith);
        kept = λ n l. kept n;
        each = λ n. inl (kept n);
        all = all_kept old a kept;
        accounted = λ fit new one. inl (elim one [
          | inl is ↦ rw is (c.link, (insert_in held place c, (refl, refl)))
          | inr none ↦ absurd none
        ]);
        stay = λ l m. insert_among held place c l m;
        are = λ l m. elim (among_insert held place c l m) [ inl same ↦ inr (rw same (record { least = least; most = most; answered = inl refl; opened = opened_true c.link.id; fresh = (let g : c.link.id.generation ≡ h.slots.next = o.generation_is in omega arith); kept = kept c.link.number })) | inr was ↦ inl was ];
        fits = fits_new held place c from to h i least most o.generation_is o.next_is;
        once = λ fit once. once_insert held place c (λ l m e. (
            let u : l.id.generation < h.slots.next = (fit l m).opened in
            let v : c.link.id.generation ≡ h.slots.next = o.generation_is in
            let w : l.id.generation ≡ c.link.id.generation = ap (λ (x : SessionId). x.generation) e in
            absurd (omega arith))) once;
      };
    }

-- ---- one after the other

one_left : (x y : List Accepted) (e : Accepted) → IsAmong x e → IsAmong (x ++ y) e
one_left [] y e p = absurd p
one_left (f ∷ x) y e (inl p) = inl p
one_left (f ∷ x) y e (inr p) = inr (one_left x y e p)

one_right : (x y : List Accepted) (e : Accepted) → IsAmong y e → IsAmong (x ++ y) e
one_right [] y e p = p
one_right (f ∷ x) y e p = inr (one_right x y e p)

one_either : (x y : List Accepted) (e : Accepted) → IsAmong (x ++ y) e → IsAmong x e ⊎ IsAmong y e
one_either [] y e p = inr p
one_either (f ∷ x) y e (inl p) = inl (inl p)
one_either (f ∷ x) y e (inr p) = elim (one_either x y e p) [ inl first ↦ inl (inr first) | inr second ↦ inr second ]

numbered_from : (f m t : ℕ) (ys : List Accepted) → f ≤ m → AreNumbered m ys t → AreNumbered f ys t
numbered_from f m t [] p q = omega (arith, p, q)
numbered_from f m t (y ∷ ys) p q = (omega (arith, p, q.0), q.1)

numbered_end : (f m : ℕ) (xs : List Accepted) → AreNumbered f xs m → f ≤ m
numbered_end f m [] p = p
numbered_end f m (x ∷ xs) p = (let u : x.number + 1 ≤ m = numbered_end (x.number + 1) m xs p.1 in omega (arith, p.0))

numbered_then : (f m t : ℕ) (xs ys : List Accepted) → AreNumbered f xs m → AreNumbered m ys t → AreNumbered f (xs ++ ys) t
numbered_then f m t [] ys p q = numbered_from f m t ys p q
numbered_then f m t (x ∷ xs) ys p q = (p.0, numbered_then (x.number + 1) m t xs ys p.1 q)

-- a connection rejected first stays as it is afterwards
turned_then : (f m t : ℕ) (x y : List Accepted) (a b c : Report) (n : ℕ) → m ≤ t → IsRejected f m x a b n → KeepsConnection b c n → IsRejected f t (x ++ y) a c n
turned_then f m t x y a b c n v w k =
    let u : n < m = w.most in
    record {
      least = w.least;
      most = omega arith;
      fault = w.fault;
      answered = one_left x y _ w.answered;
      unread = Keeps-trans _ _ _ w.unread k.unread;
      given = Keeps-trans _ _ _ w.given k.given;
      bytes = w.bytes;
      prefix = w.prefix;
      appended = Appends-kept _ _ _ _ w.appended k.written;
      shut = raised_rises _ _ _ w.shut (stays_rise _ _ k.shut);
      failed = rises_then _ _ _ w.failed (stays_rise _ _ k.failed);
    }

-- a connection untouched first is rejected afterwards
then_away : (f m t : ℕ) (x y : List Accepted) (a b c : Report) (n : ℕ) → f ≤ m → KeepsConnection a b n → IsRejected m t y b c n → IsRejected f t (x ++ y) a c n
then_away f m t x y a b c n v k w =
    let u : m ≤ n = w.least in
    record {
      least = omega arith;
      most = w.most;
      fault = w.fault;
      answered = one_right x y _ w.answered;
      unread = Keeps-trans _ _ _ k.unread w.unread;
      given = Keeps-trans _ _ _ k.given w.given;
      bytes = w.bytes;
      prefix = w.prefix;
      appended = Keeps-Appends _ _ _ _ k.written w.appended;
      shut = stays_raised _ _ _ k.shut w.shut;
      failed = rises_then _ _ _ (stays_rise _ _ k.failed) w.failed;
    }

each_then : (f m t : ℕ) (x y : List Accepted) (a b c : Report) (n : ℕ) → f ≤ m → m ≤ t → KeepsConnection a b n ⊎ IsRejected f m x a b n → KeepsConnection b c n ⊎ IsRejected m t y b c n → (n < m → KeepsConnection b c n) → KeepsConnection a c n ⊎ IsRejected f t (x ++ y) a c n
each_then f m t x y a b c n u v (inl k) (inl q) s = inl (kept_then a b c n k q)
each_then f m t x y a b c n u v (inl k) (inr w) s = inr (then_away f m t x y a b c n u k w)
each_then f m t x y a b c n u v (inr w) q s = inr (turned_then f m t x y a b c n v w (s w.most))

kept_before : (f m : ℕ) (x : List Accepted) (a b : Report) (n : ℕ) → m ≤ n → KeepsConnection a b n ⊎ IsRejected f m x a b n → KeepsConnection a b n
kept_before f m x a b n u (inl k) = k
kept_before f m x a b n u (inr w) = (let y : n < m = w.most in absurd (omega arith))

new_then : (g f m t : ℕ) (x y : List Accepted) (a b c : Report) (s r : List Step) (l : Link) → m ≤ t → IsNew f m x g a b s l → (l.number < m → KeepsConnection b c l.number) → IsNew f t (x ++ y) g a c (s ++ r) l
new_then g f m t x y a b c s r l v n k =
    let u : l.number < m = n.most in
    record { least = n.least; most = omega arith; answered = one_left x y _ n.answered; opened = opened_left l.id s r n.opened; fresh = n.fresh; kept = kept_then a b c l.number n.kept (k u) }

then_new : (g k f m t : ℕ) (x y : List Accepted) (a b c : Report) (s r : List Step) (l : Link) → g ≤ k → f ≤ m → KeepsConnection a b l.number ⊎ IsRejected f m x a b l.number → IsNew m t y k b c r l → IsNew f t (x ++ y) g a c (s ++ r) l
then_new g k f m t x y a b c s r l w u e n =
    let v : m ≤ l.number = n.least in
    let z : k ≤ l.id.generation = n.fresh in
    record { least = omega arith; most = n.most; answered = one_right x y _ n.answered; opened = opened_right l.id s r n.opened; fresh = omega arith; kept = kept_then a b c l.number (kept_before f m x a b l.number v e) n.kept }

are_then : (ls : List Link) (g f m t : ℕ) (x y : List Accepted) (a b c : Report) (s r : List Step) (l : Link) → m ≤ t → IsAmong ls l ⊎ IsNew f m x g a b s l → (l.number < m → KeepsConnection b c l.number) → IsAmong ls l ⊎ IsNew f t (x ++ y) g a c (s ++ r) l
are_then ls g f m t x y a b c s r l v (inl old) k = inl old
are_then ls g f m t x y a b c s r l v (inr n) k = inr (new_then g f m t x y a b c s r l v n k)

pub accepts_then : (ls ms ns : List Link) (f m t : ℕ) (a b c : Report) (h i j : HostState) → Accepts ls f a h ms m b i → Accepts ms m b i ns t c j → Accepts ls f a h ns t c j
accepts_then ls ms ns f m t a b c h i j p q =
    let u : f ≤ m = p.rises in
    let v : m ≤ t = q.rises in
    let w : h.slots.next ≤ i.slots.next = next_rises h i p.host.steps p.host.chain in
    let z : i.slots.next ≤ j.slots.next = next_rises i j q.host.steps q.host.chain in
    record {
      accepted = p.accepted ++ q.accepted;
      host = record {
        steps = p.host.steps ++ q.host.steps;
        kinds = all_append IsAdmission p.host.steps q.host.steps p.host.kinds q.host.kinds;
        chain = run-append h i j p.host.steps q.host.steps p.host.chain q.host.chain;
        no_own = λ id. own-append id p.host.steps q.host.steps ∙ rw (p.host.no_own id, q.host.no_own id) refl;
        no_taken = λ id. taken-append id p.host.steps q.host.steps ∙ rw (p.host.no_taken id, q.host.no_taken id) refl;
        answers = map-append (λ (x : Step). x.outcome) p.host.steps q.host.steps ∙ (ap (λ xs. xs ++ map (λ (x : Step). x.outcome) q.host.steps) p.host.answers ∙ (ap (λ xs. map (λ (x : Accepted). x.outcome) p.accepted ++ xs) q.host.answers ∙ sym (map-append (λ (x : Accepted). x.outcome) p.accepted q.accepted)));
      };
      rises = omega arith;
      numbered = numbered_then f m t p.accepted q.accepted p.numbered q.numbered;
      kept = λ n lt. kept_then a b c n (p.kept n lt) (q.kept n (omega arith));
      each = λ n. each_then f m t p.accepted q.accepted a b c n u v (p.each n) (q.each n) (q.kept n);
      all = moves_then a b c p.all q.all;
      accounted = λ fit new one. elim (one_either p.accepted q.accepted new one) [
        | inl first ↦ first_accounted p q new (p.accounted fit new first)
        | inr second ↦ second_accounted p q new u (q.accounted (p.fits fit) new second)
      ];
      stay = λ l among. q.stay l (p.stay l among);
      are = λ l among. elim (q.are l among) [
        | inl mid ↦ are_then ls h.slots.next f m t p.accepted q.accepted a b c p.host.steps q.host.steps l v (p.are l mid) (q.kept l.number)
        | inr new ↦ inr (then_new h.slots.next i.slots.next f m t p.accepted q.accepted a b c p.host.steps q.host.steps l w u (p.each l.number) new)
      ];
      fits = λ fit. q.fits (p.fits fit);
      once = λ fit o. q.once (p.fits fit) (p.once fit o);
    }
  where
    still_apart : (p_ : Accepts ls f a h ms m b i) (q_ : Accepts ms m b i ns t c j) (n : ℕ) (l : Link) → n < m → IsNotAmong ms n → IsAmong ms l ⊎ IsNew m t q_.accepted i.slots.next b c q_.host.steps l → l.number ≢ n
    still_apart p_ q_ n l lt apart (inl mid) = each_apart ms n l apart mid
    still_apart p_ q_ n l lt apart (inr new) = λ e. (let y : m ≤ l.number = new.least in let z : l.number ≡ n = e in absurd (omega arith))

    first_accounted : (p_ : Accepts ls f a h ms m b i) (q_ : Accepts ms m b i ns t c j) (new : Accepted) → HasSession ms new ⊎ (IsRejected f m p_.accepted a b new.number × IsNotAmong ms new.number)
        → HasSession ns new ⊎ (IsRejected f t (p_.accepted ++ q_.accepted) a c new.number × IsNotAmong ns new.number)
    first_accounted p_ q_ new (inl s) = inl (s.0, (q_.stay s.0 s.1.0, s.1.1))
    first_accounted p_ q_ new (inr s) = inr (turned_then f m t p_.accepted q_.accepted a b c new.number q_.rises s.0 (q_.kept new.number s.0.most), apart_each ns new.number (λ l among. still_apart p_ q_ new.number l s.0.most s.1 (q_.are l among)))

    second_accounted : (p_ : Accepts ls f a h ms m b i) (q_ : Accepts ms m b i ns t c j) (new : Accepted) → f ≤ m → HasSession ns new ⊎ (IsRejected m t q_.accepted b c new.number × IsNotAmong ns new.number)
        → HasSession ns new ⊎ (IsRejected f t (p_.accepted ++ q_.accepted) a c new.number × IsNotAmong ns new.number)
    second_accounted p_ q_ new lt (inl s) = inl s
    second_accounted p_ q_ new lt (inr s) = inr (then_away f m t p_.accepted q_.accepted a b c new.number lt (kept_before f m p_.accepted a b new.number s.0.least (p_.each new.number)) s.0, s.1)

-- no connection waits, or the wire fails
pub accepts_stop : (ls ms : List Link) (f m : ℕ) (t : ℕ) (a b c : Report) (h i : HostState) → Accepts ls f a h ms m b i → m ≤ t → KeepsAll b c → Accepts ls f a h ms t c i
accepts_stop ls ms f m t a b c h i p u k = accepts_then ls ms ms f m t a b c h i i p (accepts_none ms m t b c i u k)

-- one more connection was accepted and admitted
pub accepts_more : (ls ms ns : List Link) (f m number t : ℕ) (o : Outcome) (a b c d : Report) (h i j : HostState) → Accepts ls f a h ms m b i → m ≤ number → number < t → KeepsAll b c → Admits ms c i number o t ns d j → Accepts ls f a h ns t d j
accepts_more ls ms ns f m number t o a b c d h i j p u v k q = accepts_then ls ms ns f m t a b d h i j p (q m b k u v).accepts

-- ---- with the calls

length_one : (xs : List Accepted) (x : Accepted) → length (xs ++ (x ∷ [])) ≡ length xs + 1
length_one xs x = length-append xs (x ∷ [])

count_of-append : (f : Outcome → ℕ) (xs ys : List Accepted) → count_of f (xs ++ ys) ≡ count_of f xs + count_of f ys
count_of-append f [] ys = omega arith
count_of-append f (x ∷ xs) ys = let more : count_of f (xs ++ ys) ≡ count_of f xs + count_of f ys = count_of-append f xs ys in omega arith

-- the arrivals after one more admission
abbrev with_one : Arrivals → Admission → Arrivals
with_one arrivals admission = record {
  moved = true;
  accepted = arrivals.accepted + 1;
  full = arrivals.full + admission.full;
  unopened = arrivals.unopened + admission.unopened;
}

one_more : (xs : List Accepted) (x : Accepted) (arrivals : Arrivals) (one : Admission) → AreArrivals xs arrivals → one.full ≡ full_of x.outcome → one.unopened ≡ unopened_of x.outcome → AreArrivals (xs ++ (x ∷ [])) (with_one arrivals one)
one_more xs x arrivals one are full unopened =
    let all : count_of full_of (xs ++ (x ∷ [])) ≡ count_of full_of xs + (full_of x.outcome + 0) = count_of-append full_of xs (x ∷ []) in
    let none : count_of unopened_of (xs ++ (x ∷ [])) ≡ count_of unopened_of xs + (unopened_of x.outcome + 0) = count_of-append unopened_of xs (x ∷ []) in
    let len : length (xs ++ (x ∷ [])) ≡ length xs + 1 = length_one xs x in
    let a : arrivals.accepted ≡ length xs = are.accepted in
    let b : arrivals.full ≡ count_of full_of xs = are.full in
    let c : arrivals.unopened ≡ count_of unopened_of xs = are.unopened in
    record { accepted = omega arith; full = omega arith; unopened = omega arith }

-- `count` connections were accepted, with their calls
pub record AcceptsSome (count : ℕ) (arrivals : Arrivals) (links : List Link) (from : ℕ) (old : Report)
    (before : HostState) (met : List Link) (to : ℕ) (new : Report) (after : HostState)
    (old_calls new_calls : Option (List Call)) : Type 0 where
  pub accepts : Accepts links from old before met to new after
  pub none : arrivals.moved ≡ false → accepts.accepted ≡ []
  pub numbers : AreArrivals accepts.accepted arrivals
  pub counted : length accepts.accepted ≡ count
  pub asked : AsksAccepts met accepts.accepted old_calls new_calls

pub some_start : (moved : Bool) (ls : List Link) (from : ℕ) (a : Report) (h : HostState) (calls : Option (List Call)) → AcceptsSome 0 (record { moved = moved; accepted = 0; full = 0; unopened = 0 }) ls from a h ls from a h calls calls
unfolding accepts_start accepts_none
some_start moved ls from a h calls = record { accepts = accepts_start ls from a h; none = λ e. refl; numbers = record { accepted = refl; full = refl; unopened = refl }; counted = refl; asked = asks_no_accept ls calls }

-- no connection waits, or the wire fails
pub some_stop : (n : ℕ) (moved : Arrivals) (ls ms : List Link) (f m : ℕ) (t : ℕ) (a b c : Report) (h i : HostState) (old mid new : Option (List Call)) (answer : Result (Option ℕ) WireFault) → n < 16 → AcceptsSome n moved ls f a h ms m b i old mid → m ≤ t → KeepsAll b c → Asks mid new (Accept answer ∷ []) → GivesNobody answer → AllAccepted moved ls f a h ms t c i old new
unfolding accepts_stop accepts_then accepts_none
some_stop n moved ls ms f m t a b c h i old mid new answer lt p u k q g =
    let count : length p.accepts.accepted < 16 = (let e : length p.accepts.accepted ≡ n = p.counted in omega arith) in
    record {
      accepts = accepts_stop ls ms f m t a b c h i p.accepts u k;
      none = λ e. ap (λ (xs : List Accepted). xs ++ []) (p.none e);
      numbers = subst (λ (xs : List Accepted). AreArrivals xs moved) (sym (append-nil p.accepts.accepted)) p.numbers;
      asked = subst (λ (xs : List Accepted). AsksAll h ls ms xs old new) (sym (append-nil p.accepts.accepted)) (asks_stop h ls ms p.accepts.accepted old mid new answer count p.asked q g);
    }

-- `ACCEPTS` were accepted, or there is no room
pub some_full : (n : ℕ) (moved : Arrivals) (ls ms : List Link) (f m : ℕ) (a b : Report) (h i : HostState) (old new : Option (List Call)) → (n ≡ 16) ⊎ ¬ HaveSessions h ls → AcceptsSome n moved ls f a h ms m b i old new → AllAccepted moved ls f a h ms m b i old new
some_full n moved ls ms f m a b h i old new e p =
    let full : (length p.accepts.accepted ≡ 16) ⊎ ¬ HaveSessions h ls = elim e [ inl most ↦ inl (p.counted ∙ most) | inr lacks ↦ inr lacks ] in
    record { accepts = p.accepts; none = p.none; numbers = p.numbers; asked = asks_full h ls ms p.accepts.accepted old new full p.asked }

pub some_more : (n : ℕ) (moved : Arrivals) (one : Admission) (o : Outcome) (ls ms ns : List Link) (f m number t : ℕ) (a b c d : Report) (h i j : HostState) (old mid asked new : Option (List Call)) → AcceptsSome n moved ls f a h ms m b i old mid → m ≤ number → number < t → KeepsAll b c → Asks mid asked (Accept (Ok (Some number)) ∷ []) → Admits ms c i number o t ns d j → AsksAdmission ns number o asked new → one.full ≡ full_of o → one.unopened ≡ unopened_of o → AcceptsSome (n + 1) (with_one moved one) ls f a h ns t d j old new
unfolding accepts_more accepts_then
some_more n moved one o ls ms ns f m number t a b c d h i j old mid asked new p u v k q r asks full unopened =
    let item : Accepted = record { number = number; outcome = o } in
    let items : p.accepts.accepted ++ (r m b k u v).accepts.accepted ≡ p.accepts.accepted ++ (item ∷ []) = ap (λ (xs : List Accepted). p.accepts.accepted ++ xs) (r m b k u v).items_are in
    record {
      accepts = accepts_more ls ms ns f m number t o a b c d h i j p.accepts u v k r;
      none = λ e. absurd (cc);
      numbers = subst (λ (xs : List Accepted). AreArrivals xs (with_one moved one)) (sym items) (one_more p.accepts.accepted item moved one p.numbers full unopened);
      counted = ap length items ∙ (length_one p.accepts.accepted item ∙ ap (λ (x : ℕ). x + 1) p.counted);
      asked = subst (λ (xs : List Accepted). AsksAccepts ns xs old new) (sym items) (asks_accept ns p.accepts.accepted item old mid asked new (asks_on ms ns p.accepts.accepted old mid (r m b k u v).accepts.stay p.asked) q asks);
    }

pub number_rises : (old new : ℕ) (r : Result (Option ℕ) WireFault) → GivesNumber old new r → old ≤ new
number_rises old new (Ok (Some n)) p = (let u : old ≤ n = p.0 in let v : n < new = p.1 in omega arith)
number_rises old new (Ok None) p = (let u : new ≡ old = p in omega arith)
number_rises old new (Err e) p = (let u : new ≡ old = p in omega arith)

-- an accepted number lies above the bound from before
pub rose : (a b number c d : ℕ) → a ≤ b → b ≤ number → number < c → d ≡ c → a < d
rose a b number c d p q r e = omega arith

pub below_then : (a b c : ℕ) → a < b → b ≤ c → a < c
below_then a b c p q = omega arith

-- one more admission adds at most one to both counts together
pub few_more : (full unopened n f u : ℕ) → full + unopened ≤ n → f + u ≤ 1 → (full + f) + (unopened + u) ≤ n + 1
few_more full unopened n f u p q = omega arith
