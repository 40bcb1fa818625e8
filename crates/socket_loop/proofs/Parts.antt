-- Consecutive parts of a turn.
use Rattle.std.proofs.Common.{◌≡◌, ◌≢◌, ◌⊎◌, ℕ, zero, suc, ◌<◌, ◌≤◌, true, false, List, [], ◌∷◌, ◌++◌, length, get_or, set, refl, sym, ap, ◌∙◌, subst, arith, append_assoc, append-nil, inl, inr}
use Rattle.std.proofs.lemmas.List.{get_or-map, length-map}
use Rattle.std.proofs.Math.Seq.{map-set_same}
use Rattle.std.proofs.lemmas.Bool.{both_ways}
use Rattle.std.specs.Io.KnownBytes.{Appends, Consumes}
use Rattle.std.proofs.KnownBytes.{Appends-trans, Consumes-trans}
use Rattle.session_slots.specs.declared.id.SessionId.{SessionId}
use Rattle.host_core.specs.Steps.{HostState}
use Rattle.host_core.specs.Events.{Event, Close}
use Rattle.host_core.specs.Made.{Step, own, taken}
use Rattle.host_core.specs.Runs.{IsRun}
use Rattle.host_core.specs.Rounds.{IsRound, works}
use Rattle.host_core.proofs.Chains.{run-start}
use Rattle.host_core.proofs.OneSession.{gone, IsGone as IsOut}
use Rattle.socket_loop.specs.declared.connection.Link.{Link}
use Rattle.socket_loop.specs.declared.connection.Connection.{Connection}
use Rattle.transport.specs.Report.{Report, KeepsConnection, KeepsAll}
use Rattle.socket_loop.specs.Links.{IsNotAmong, links_of, Each, Ties}
use Rattle.socket_loop.specs.Parts.{IsGone, closes, feed_out_of_memory, Finished, Cause, Survives, IsShutDown, Transferred, some_step}
use Rattle.transport.specs.Moves.{AllMove}
use Rattle.transport.proofs.Reported.{stays_then, stays_raised, raised_rises, rises_raised, kept_same, kept_then, all_kept, moves_then, Consumes-none, Appends-none}
use Rattle.socket_loop.proofs.Runs.{run-append, own-append, taken-append, own-works, taken-works, closes-works, some_left, some_right, some_either, some_neither, feed_out_of_memory-works, alone_then, all_append, next_rises}
use Rattle.socket_loop.specs.Visits.{Carries, CarriesBy}

-- ---- why a connection is shut

finished_left : (m : List Connection) (h i j : HostState) (s t : List Step) (l : Link) → IsRun i t j → Finished m h s i l → Finished m h (s ++ t) j l
finished_left m h i j s t l q f = record {
  earlier = f.earlier;
  outcome = f.outcome;
  later = f.later ++ t;
  steps_are = ap (λ (xs : List Step). xs ++ t) f.steps_are ∙ append_assoc f.earlier (record { event = Close l.id; outcome = f.outcome } ∷ f.later) t;
  moment = f.moment;
  run = f.run;
  first = f.first;
  onward = run-append f.moment i j (record { event = Close l.id; outcome = f.outcome } ∷ f.later) t f.onward q;
  has_ended = f.has_ended;
  marked = f.marked;
  finished = f.finished;
}

finished_right : (m : List Connection) (h i j : HostState) (s t : List Step) (l : Link) → some_step (closes l.id) s ≡ false → IsRun h s i → Finished m i t j l → Finished m h (s ++ t) j l
finished_right m h i j s t l c r f = record {
  earlier = s ++ f.earlier;
  outcome = f.outcome;
  later = f.later;
  steps_are = ap (λ (xs : List Step). s ++ xs) f.steps_are ∙ sym (append_assoc s f.earlier (record { event = Close l.id; outcome = f.outcome } ∷ f.later));
  moment = f.moment;
  run = run-append h i f.moment s f.earlier r f.run;
  onward = f.onward;
  first = some_neither (closes l.id) s f.earlier c f.first;
  has_ended = f.has_ended;
  marked = f.marked;
  finished = f.finished;
}

cause_left : (m : List Connection) (a b c : Report) (h i j : HostState) (s t : List Step) (l : Link) → AllMove b c → IsRun i t j → Cause m a h s b i l → Cause m a h (s ++ t) c j l
cause_left m a b c h i j s t l k q (inl failed) = inl (raised_rises _ _ _ failed (k l.number).failed)
cause_left m a b c h i j s t l k q (inr (inl starved)) = inr (inl (some_left (feed_out_of_memory l.id) s t starved))
cause_left m a b c h i j s t l k q (inr (inr f)) = inr (inr (finished_left m h i j s t l q f))

cause_right : (m : List Connection) (a b c : Report) (h i j : HostState) (s t : List Step) (l : Link) → some_step (closes l.id) s ≡ false → AllMove a b → IsRun h s i → Cause m b i t c j l → Cause m a h (s ++ t) c j l
cause_right m a b c h i j s t l u k r (inl failed) = inl (rises_raised _ _ _ (k l.number).failed failed)
cause_right m a b c h i j s t l u k r (inr (inl starved)) = inr (inl (some_right (feed_out_of_memory l.id) s t starved))
cause_right m a b c h i j s t l u k r (inr (inr f)) = inr (inr (finished_right m h i j s t l u r f))

ends_then : (m : List Connection) (n : ℕ) (a b c : Report) (h i j : HostState) (s t : List Step) (l : Link) → AllMove a b → AllMove b c → IsRun h s i → IsRun i t j → Survives a s b l ⊎ IsShutDown m n a h s b i l → Survives b t c l ⊎ IsShutDown m n b i t c j l
    → Survives a (s ++ t) c l ⊎ IsShutDown m n a h (s ++ t) c j l
ends_then m n a b c h i j s t l x y r w (inl p) (inl q) =
    inl (record { shut = stays_then _ _ _ p.shut q.shut; closed = some_neither (closes l.id) s t p.closed q.closed; failed = stays_then _ _ _ p.failed q.failed; fed = some_neither (feed_out_of_memory l.id) s t p.fed q.fed })
ends_then m n a b c h i j s t l x y r w (inl p) (inr q) =
    inr (record { shut = λ lt. stays_raised _ _ _ p.shut (q.shut lt); closed = some_right (closes l.id) s t q.closed; cause = cause_right m a b c h i j s t l p.closed x r q.cause })
ends_then m n a b c h i j s t l x y r w (inr p) q =
    inr (record { shut = λ lt. raised_rises _ _ _ (p.shut lt) (y l.number).shut; closed = some_left (closes l.id) s t p.closed; cause = cause_left m a b c h i j s t l y w p.cause })

-- ---- one connection

-- nothing happened to the connection
pub carried_nothing : (m : List Connection) (n : ℕ) (a b : Report) (h i : HostState) (s : List Step) (l : Link) → own l.id s ≡ [] → taken l.id s ≡ [] → some_step (closes l.id) s ≡ false → some_step (feed_out_of_memory l.id) s ≡ false → KeepsConnection a b l.number → Transferred m n a h s b i l
carried_nothing m n a b h i s l o g e f k = record {
  lost = [];
  consumed = rw o (Consumes-none _ _ k.unread);
  given = rw o (Appends-none _ _ k.given);
  appended = rw g (Appends-none _ _ k.written);
  whole = inl refl;
  fed = λ e. absurd (both_ways (some_step (feed_out_of_memory l.id) s) f e);
  ends = inl (record { shut = k.shut; closed = e; failed = k.failed; fed = f });
}

lost_whole : (h i j : HostState) (id : SessionId) (s t : List Step) (lost more : List ℕ) → (lost ≡ []) ⊎ (IsGone i id × (some_step (feed_out_of_memory id) s ≡ true)) → (more ≡ []) ⊎ (IsGone j id × (some_step (feed_out_of_memory id) t ≡ true)) → (IsGone i id → IsGone j id) → (lost ++ more ≡ []) ⊎ (IsGone j id × (some_step (feed_out_of_memory id) (s ++ t) ≡ true))
lost_whole h i j id s t lost more (inl e) (inl f) k = inl (rw (e, f) refl)
lost_whole h i j id s t lost more (inl e) (inr g) k = inr (g.0, some_right (feed_out_of_memory id) s t g.1)
lost_whole h i j id s t lost more (inr g) w k = inr (k g.0, some_left (feed_out_of_memory id) s t g.1)

pub some_lost : (lost more : List ℕ) → lost ++ more ≡ [] → lost ≡ []
some_lost [] more e = refl
some_lost (x ∷ lost) more e = absurd (cc)

lost_fed : (id : SessionId) (s t : List Step) (lost more : List ℕ) → (some_step (feed_out_of_memory id) s ≡ true → lost ≢ []) → (some_step (feed_out_of_memory id) t ≡ true → more ≢ []) → some_step (feed_out_of_memory id) (s ++ t) ≡ true → lost ++ more ≢ []
lost_fed id s t lost more p q e none =
    let first : lost ≡ [] = some_lost lost more none in
    elim (some_either (feed_out_of_memory id) s t e) [ inl now ↦ p now first | inr later ↦ q later (rw first at none) ]

pub out_gone : (h i : HostState) (id : SessionId) (steps : List Step) → IsRun h steps i → IsGone h id → IsOut id steps i
out_gone h i id steps r g = gone h i id steps g.none g.below r

pub stays_gone : (h i : HostState) (id : SessionId) (steps : List Step) → IsRun h steps i → IsGone h id → IsGone i id
stays_gone h i id steps r g =
    let n : h.slots.next ≤ i.slots.next = next_rises h i steps r in
    let b : id.generation < h.slots.next = g.below in
    record { none = (out_gone h i id steps r g).none; below = omega arith }

-- after lost bytes nothing more is stored
pub lost_order : (o lost p more : List ℕ) → (lost ≡ []) ⊎ (p ≡ []) → (o ++ lost) ++ (p ++ more) ≡ (o ++ p) ++ (lost ++ more)
lost_order o lost p more (inl e) = rw e (ap (λ xs. xs ++ (p ++ more)) (append-nil o) ∙ sym (append_assoc o p more))
lost_order o lost p more (inr e) = rw e (append_assoc o lost more ∙ ap (λ xs. xs ++ (lost ++ more)) (sym (append-nil o)))

lost_then : (h i : HostState) (id : SessionId) (steps : List Step) (lost : List ℕ) {P : Type 0} → IsRun h steps i → (lost ≡ []) ⊎ (IsGone h id × P) → (lost ≡ []) ⊎ (own id steps ≡ [])
lost_then h i id steps lost r (inl e) = inl e
lost_then h i id steps lost r (inr g) = inr (out_gone h i id steps r g.0).no_own

pub carried_then : (m : List Connection) (n : ℕ) (a b c : Report) (h i j : HostState) (l : Link) (s t : List Step) → AllMove a b → AllMove b c → IsRun h s i → IsRun i t j → Transferred m n a h s b i l → Transferred m n b i t c j l → Transferred m n a h (s ++ t) c j l
carried_then m n a b c h i j l s t before after r q x y = record {
  lost = x.lost ++ y.lost;
  consumed = rw (own-append l.id s t)
      (subst (Consumes (a.unread l.number) (c.unread l.number)) (lost_order (own l.id s) x.lost (own l.id t) y.lost (lost_then i j l.id t x.lost q x.whole))
      (Consumes-trans _ _ _ (own l.id s ++ x.lost) (own l.id t ++ y.lost) x.consumed y.consumed));
  given = rw (own-append l.id s t)
      (subst (Appends (a.given l.number) (c.given l.number)) (lost_order (own l.id s) x.lost (own l.id t) y.lost (lost_then i j l.id t x.lost q x.whole))
      (Appends-trans _ _ _ (own l.id s ++ x.lost) (own l.id t ++ y.lost) x.given y.given));
  appended = rw (taken-append l.id s t) (Appends-trans _ _ _ (taken l.id s) (taken l.id t) x.appended y.appended);
  whole = lost_whole h i j l.id s t x.lost y.lost x.whole y.whole (stays_gone i j l.id t q);
  fed = lost_fed l.id s t x.lost y.lost x.fed y.fed;
  ends = ends_then m n a b c h i j s t l before after r q x.ends y.ends;
}

-- ---- many connections

pub carries_then : (m : List Connection) (n : ℕ) (ls : List Link) (s t : List Step) (a b c : Report) (h i j : HostState) → Carries m n ls a h s b i → Carries m n ls b i t c j → Carries m n ls a h (s ++ t) c j
carries_then m n ls s t a b c h i j p q = record {
  chain = run-append h i j s t p.chain q.chain;
  carried = λ l tied. carried_then m n a b c h i j l s t p.all q.all p.chain q.chain (p.carried l tied) (q.carried l tied);
  others = λ x apart. kept_then a b c x (p.others x apart) (q.others x apart);
  foreign = λ id strange. alone_then id s t (p.foreign id strange) (q.foreign id strange);
  all = moves_then a b c p.all q.all;
}

-- steps that neither store, take nor close
pub carries_quiet : (m : List Connection) (n : ℕ) (ls : List Link) (steps : List Step) (a b : Report) (h i : HostState) → IsRun h steps i → KeepsAll a b → ((id : SessionId) → own id steps ≡ []) → ((id : SessionId) → taken id steps ≡ []) → ((id : SessionId) → some_step (closes id) steps ≡ false) → ((id : SessionId) → some_step (feed_out_of_memory id) steps ≡ false) → Carries m n ls a h steps b i
carries_quiet m n ls steps a b h i r k o g e f = record {
  chain = r;
  carried = λ l tied. carried_nothing m n a b h i steps l (o l.id) (g l.id) (e l.id) (f l.id) (k l.number);
  others = λ x apart. k x;
  foreign = λ id strange. record { stored = o id; passed = g id; kept = e id };
  all = all_kept a b k;
}

pub carries_round : (m : List Connection) (n : ℕ) (ls : List Link) (a : Report) (h i : HostState) (budget : ℕ) (ids : List SessionId) (worked refused : ℕ) → (r : IsRound h budget ids worked refused i) → Carries m n ls a h (works budget ids r.outcomes) a i
carries_round m n ls a h i budget ids worked refused r =
    carries_quiet m n ls (works budget ids r.outcomes) a a h i r.run (kept_same a) (λ id. own-works id budget ids r.outcomes) (λ id. taken-works id budget ids r.outcomes) (λ id. closes-works id budget ids r.outcomes) (λ id. feed_out_of_memory-works id budget ids r.outcomes)

tied_at : (ls : List Link) (i : ℕ) (d : Link) (l : Link) → i < length ls → Each (λ other. Ties other l) ls → Each (λ other. Ties other l) (get_or ls i d ∷ [])
tied_at [] i d l h t = absurd (omega arith)
tied_at (k ∷ ks) zero d l h t = (t.0, tt)
tied_at (k ∷ ks) (suc i) d l h t = tied_at ks i d l (omega arith) t.1

apart_at : (ls : List Link) (i : ℕ) (d : Link) (n : ℕ) → i < length ls → IsNotAmong ls n → IsNotAmong (get_or ls i d ∷ []) n
apart_at [] i d n h t = absurd (omega arith)
apart_at (k ∷ ks) zero d n h t = (t.0, tt)
apart_at (k ∷ ks) (suc i) d n h t = apart_at ks i d n (omega arith) t.1

strange_at : (ls : List Link) (i : ℕ) (d : Link) (id : SessionId) → i < length ls → Each (λ other. other.id ≢ id) ls → Each (λ other. other.id ≢ id) (get_or ls i d ∷ [])
strange_at [] i d id h t = absurd (omega arith)
strange_at (k ∷ ks) zero d id h t = (t.0, tt)
strange_at (k ∷ ks) (suc i) d id h t = strange_at ks i d id (omega arith) t.1

carries_at : (m : List Connection) (n : ℕ) (ls : List Link) (i : ℕ) (d : Link) (s : List Step) (a b : Report) (h j : HostState) → i < length ls → Carries m n (get_or ls i d ∷ []) a h s b j → Carries m n ls a h s b j
carries_at m n ls i d s a b h j lt w = record {
  chain = w.chain;
  carried = λ l tied. w.carried l (tied_at ls i d l lt tied);
  others = λ x apart. w.others x (apart_at ls i d x lt apart);
  foreign = λ id strange. w.foreign id (strange_at ls i d id lt strange);
  all = w.all;
}

pub carries_by_then : (kind : Event → Type 0) (m : List Connection) (n : ℕ) (ls : List Link) (a b c : Report) (h i j : HostState) → CarriesBy kind m n ls a h b i → CarriesBy kind m n ls b i c j → CarriesBy kind m n ls a h c j
carries_by_then kind m n ls a b c h i j p q = record {
  steps = p.steps ++ q.steps;
  kinds = all_append kind p.steps q.steps p.kinds q.kinds;
  carries = carries_then m n ls p.steps q.steps a b c h i j p.carries q.carries;
}

carries_by_at : (kind : Event → Type 0) (m : List Connection) (n : ℕ) (ls : List Link) (i : ℕ) (d : Link) (a b : Report) (h j : HostState) → i < length ls → CarriesBy kind m n (get_or ls i d ∷ []) a h b j → CarriesBy kind m n ls a h b j
carries_by_at kind m n ls i d a b h j lt s = record { steps = s.steps; kinds = s.kinds; carries = carries_at m n ls i d s.steps a b h j lt s.carries }

pub carries_by_wire : (kind : Event → Type 0) (m : List Connection) (n : ℕ) (ls : List Link) (a b : Report) (h : HostState) → KeepsAll a b → CarriesBy kind m n ls a h b h
carries_by_wire kind m n ls a b h k = record { steps = []; kinds = tt; carries = carries_quiet m n ls [] a b h h (run-start h) k (λ id. refl) (λ id. refl) (λ id. refl) (λ id. refl) }

pub carries_by_same : (kind : Event → Type 0) (m : List Connection) (n : ℕ) (ls : List Link) (a : Report) (h : HostState) → CarriesBy kind m n ls a h a h
carries_by_same kind m n ls a h = carries_by_wire kind m n ls a a h (kept_same a)

links_at : (items : List Connection) (i : ℕ) (d : Connection) (e : Link) → i < length items → get_or (links_of items) i e ≡ (get_or items i d).link
links_at items i d e lt = get_or-map (λ (c : Connection). c.link) items i d e lt

-- the bytes of the connection at an index were carried
pub carries_by_next : (kind : Event → Type 0) (m : List Connection) (n : ℕ) (items : List Connection) (ls : List Link) (i : ℕ) (d : Connection) (a b c : Report) (h j k : HostState) → i < length items → links_of items ≡ ls → CarriesBy kind m n ls a h b j → CarriesBy kind m n ((get_or items i d).link ∷ []) b j c k → CarriesBy kind m n ls a h c k
carries_by_next kind m n items ls i d a b c h j k lt e s t =
    let e_ : Link = d.link in
    let at : CarriesBy kind m n (get_or (links_of items) i e_ ∷ []) b j c k = subst (λ (x : Link). CarriesBy kind m n (x ∷ []) b j c k) (sym (links_at items i d e_ lt)) t in
    let one : CarriesBy kind m n (links_of items) b j c k = carries_by_at kind m n (links_of items) i e_ b c j k (omega (arith, length-map items (λ (x : Connection). x.link))) at in
    carries_by_then kind m n ls a b c h j k s (rw e at one)

pub links_set : (items : List Connection) (i : ℕ) (d y : Connection) → y.link ≡ (get_or items i d).link → links_of (set items i y) ≡ links_of items
links_set items i d y e = map-set_same (λ (x : Connection). x.link) items i y d e
