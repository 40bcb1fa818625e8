-- One connection in a turn.
use Rattle.std.proofs.Common.{◌≡◌, ◌≢◌, ◌⊎◌, ℕ, ◌<◌, ◌≤◌, Bool, true, false, List, [], ◌∷◌, ◌++◌, Option, Some, None, Result, Ok, Err, cond, take, length, refl, sym, ap, ◌∙◌, subst, arith, append-nil, inl, inr}
use Rattle.std.proofs.lemmas.Bool.{cases_eq, or_left}
use Rattle.std.specs.Prelude.{IsSome, IsErrOf, ◌||◌}
use Rattle.std.specs.Borrow.{Bor}
use Rattle.std.specs.Io.KnownBytes.{Keeps, Appends, Consumes}
use Rattle.std.proofs.KnownBytes.{Appends-kept, Appends-nil, Consumes-kept, Consumes-nil, Keeps-trans, Keeps-refl}
use Rattle.session_slots.specs.declared.id.SessionId.{SessionId}
use Rattle.session_slots.specs.Slots.{find, IsBelow}
use Rattle.usi_session.specs.Due.{SessionView}
use Rattle.usi_session.specs.declared.limits.TheConstants.{CHUNK_MAX}
use Rattle.host_core.specs.declared.event.HostFault.{HostFault}
use Rattle.host_core.specs.declared.event.HostFault.TheVariants.{Full, OutOfMemory, UnknownSession, NotReady}
use Rattle.host_core.specs.Steps.{HostState, Stepped, OnSession}
use Rattle.host_core.specs.Sessions.{Feeds, Takes}
use Rattle.host_core.specs.ById.{IsQueue, wants_input_of, queued_of}
use Rattle.host_core.specs.Events.{Event, Outcome, Opened, Worked, Done, Gave, Refused, Feed, Take, Close}
use Rattle.host_core.specs.Seen.{passed_of}
use Rattle.host_core.specs.Made.{Step, own, taken, is_same_id}
use Rattle.host_core.specs.Runs.{IsStep, IsRun}
use Rattle.host_core.proofs.Chains.{run-start}
use Rattle.host_core.proofs.Ids.{apart_ids, is_same_id-refl}
use Rattle.socket_loop.specs.declared.connection.Link.{Link}
use Rattle.socket_loop.specs.declared.connection.Connection.{Connection}
use Rattle.transport.specs.declared.wire.Got.TheVariants.{Bytes}
use Rattle.transport.specs.declared.wire.WireFault.{WireFault}
use Rattle.transport.specs.Report.{Report, KeepsConnection, Stays, IsRaised, Reads, Writes, Shuts}
use Rattle.socket_loop.specs.Links.{Ties, IsMarked, reads_ended, Each}
use Rattle.socket_loop.specs.Parts.{IsGone, IsInput, IsOutput, IsEnd, closes, feed_out_of_memory, Cause, Transferred, is_finished_with, some_step}
use Rattle.transport.specs.Moves.{GaveBytes}
use Rattle.transport.proofs.Reported.{kept_same, kept_then, moves_then, writes_move, shuts_move, gave_move, stays_rise, raised_rise, stays_raised, raised_rises, stays-refl, rises-refl, Consumes-none, Keeps-nothing, Appends-none}
use Rattle.socket_loop.proofs.Runs.{run-one, run-two, step_rises}
use Rattle.socket_loop.proofs.Parts.{carried_nothing}
use Rattle.socket_loop.specs.Visits.{CarriesBy, IsClosing}

-- the event was carried out
abbrev pub is_done : Outcome → Bool
is_done Done = true
is_done (Opened id) = false
is_done (Worked steps) = false
is_done (Gave bytes) = false
is_done (Refused fault) = false

this_id : (a b : SessionId) → a ≡ b → is_same_id a b ≡ true
this_id a b e = ap (is_same_id a) (sym e) ∙ is_same_id-refl a

at_id : (a b : SessionId) (xs : List ℕ) → a ≡ b → cond (is_same_id a b) xs [] ≡ xs
at_id a b xs e = ap (λ (c : Bool). cond c xs []) (this_id a b e)

off_id : (a b : SessionId) (xs : List ℕ) → (a ≡ b → ⊥) → cond (is_same_id a b) xs [] ≡ []
off_id a b xs f = ap (λ (c : Bool). cond c xs []) (apart_ids a b f)

closes_this : (h : Link) (id : SessionId) → h.id ≡ id → (is_same_id h.id id || false) ≡ true
closes_this h id e = or_left (is_same_id h.id id) false (this_id h.id id e)

closes_other : (h : Link) (id : SessionId) → (h.id ≡ id → ⊥) → (is_same_id h.id id || false) ≡ false
closes_other h id f = ap (λ (b : Bool). b || false) (apart_ids h.id id f)

gave_others : (a b : Report) (h : Link) (bytes : List ℕ) (x : ℕ) → GaveBytes a b h.number bytes → h.number ≢ x → KeepsConnection a b x
gave_others a b h bytes x g apart = g.others x (λ e. apart (sym e))

-- ---- reads

pub gave : (a b : Report) (number : ℕ) (lent : List ℕ) → Reads a b number (Ok Bytes) lent → GaveBytes a b number lent
gave a b number lent r = record { consumed = r.consumed; given = r.given; written = r.written; shut = r.shut; failed = stays_rise _ _ r.failed; others = r.others }

-- a failed read gave no byte
pub read_fault : (a b : Report) (number : ℕ) (e : WireFault) (buf : List ℕ) → Reads a b number (Err e) buf → GaveBytes a b number []
read_fault a b number e buf r = record { consumed = r.consumed; given = r.given; written = r.written; shut = r.shut; failed = raised_rise _ _ r.failed; others = r.others }

-- a failed write took no byte
pub write_fault : (a b : Report) (number : ℕ) (e : WireFault) (buf : List ℕ) → Writes a b number (Err e) buf → GaveBytes a b number []
write_fault a b number e buf w = record { consumed = Consumes-none _ _ w.unread; given = Appends-none _ _ w.given; written = Keeps-nothing _ _ w.appended; shut = w.shut; failed = raised_rise _ _ w.failed; others = w.others }

pub gave_nothing : (a : Report) (number : ℕ) → GaveBytes a a number []
gave_nothing a number = record { consumed = Consumes-nil _; given = Appends-nil _; written = Keeps-refl _; shut = stays-refl _; failed = rises-refl _; others = λ x apart. kept_same a x }

carried_fed : (m : List Connection) (bound : ℕ) (h : Link) (a b : Report) (before after : HostState) (chunk : List ℕ) (l : Link) → Ties h l → GaveBytes a b h.number chunk → Stays (a.has_failed h.number) (b.has_failed h.number) → Transferred m bound a before (record { event = Feed h.id chunk; outcome = Done } ∷ []) b after l
carried_fed m bound h a b before after chunk l t g none =
    elim (cases_eq h.number l.number) [
      | inl same ↦
          let at : cond (is_same_id h.id l.id) chunk [] ≡ chunk = at_id h.id l.id chunk (t.by_number same) in
          let u : Consumes (a.unread l.number) (b.unread l.number) chunk = rw same at g.consumed in
          let v : Appends (a.given l.number) (b.given l.number) chunk = rw same at g.given in
          let w : Keeps (a.written l.number) (b.written l.number) = rw same at g.written in
          let f : Stays (a.is_shut l.number) (b.is_shut l.number) = rw same at g.shut in
          let n : Stays (a.has_failed l.number) (b.has_failed l.number) = rw same at none in
          record {
            lost = [];
            consumed = rw at (subst (Consumes (a.unread l.number) (b.unread l.number)) (sym (append-nil (chunk ++ []) ∙ append-nil chunk)) u);
            given = rw at (subst (Appends (a.given l.number) (b.given l.number)) (sym (append-nil (chunk ++ []) ∙ append-nil chunk)) v);
            appended = Appends-none _ _ w;
            whole = inl refl;
            fed = λ e. absurd (cc);
            ends = inl (record { shut = f; closed = refl; failed = n; fed = refl });
          }
      | inr apart ↦
          let off : cond (is_same_id h.id l.id) chunk [] ≡ [] = off_id h.id l.id chunk (λ e. apart (t.by_id e)) in
          carried_nothing m bound a b before after (record { event = Feed h.id chunk; outcome = Done } ∷ []) l (rw off refl) refl refl refl (gave_others a b h chunk l.number g apart)
    ]

-- the bytes read were stored
pub carries_by_fed : (m : List Connection) (bound : ℕ) (h : Link) (a b : Report) (before after : HostState) (chunk : List ℕ) (o : Outcome) → is_done o ≡ true → GaveBytes a b h.number chunk → Stays (a.has_failed h.number) (b.has_failed h.number) → IsStep before (record { event = Feed h.id chunk; outcome = o }) after → CarriesBy IsInput m bound (h ∷ []) a before b after
carries_by_fed m bound h a b before after chunk Done e g none s = record {
  steps = record { event = Feed h.id chunk; outcome = Done } ∷ [];
  kinds = (tt, tt);
  carries = record {
    chain = run-one before after _ s;
    carried = λ l tied. carried_fed m bound h a b before after chunk l tied.0 g none;
    others = λ x apart. gave_others a b h chunk x g apart.0;
    foreign = λ id strange. record { stored = rw (off_id h.id id chunk strange.0) refl; passed = refl; kept = refl };
    all = gave_move a b h.number chunk g;
  };
}
carries_by_fed m bound h a b before after chunk (Opened id) e g none s = absurd (cc)
carries_by_fed m bound h a b before after chunk (Worked n) e g none s = absurd (cc)
carries_by_fed m bound h a b before after chunk (Gave bytes) e g none s = absurd (cc)
carries_by_fed m bound h a b before after chunk (Refused fault) e g none s = absurd (cc)

-- ---- shutting

same_link : (h l : Link) → h.number ≡ l.number → h.id ≡ l.id → h ≡ l
same_link h l e f = λ i. record { number = e i; id = f i }

-- the steps close a session, and do nothing else
record Closing (id : SessionId) (steps : List Step) : Type 0 where
  pub no_own : (other : SessionId) → own other steps ≡ []
  pub no_taken : (other : SessionId) → taken other steps ≡ []
  pub this : (other : SessionId) → id ≡ other → some_step (closes other) steps ≡ true
  pub no_other : (other : SessionId) → (id ≡ other → ⊥) → some_step (closes other) steps ≡ false
  pub no_hunger : (other : SessionId) → (id ≡ other → ⊥) → some_step (feed_out_of_memory other) steps ≡ false

shut_ends : (m : List Connection) (bound : ℕ) (h : Link) (a b c : Report) (before after : HostState) (steps : List Step) (chunk : List ℕ) (l : Link) → Ties h l → GaveBytes a b h.number chunk → Shuts bound b c h.number → Closing h.id steps → (chunk ≡ []) ⊎ (IsGone after h.id × (some_step (feed_out_of_memory h.id) steps ≡ true)) → (some_step (feed_out_of_memory h.id) steps ≡ true → chunk ≢ []) → Cause m a before steps c after h → Transferred m bound a before steps c after l
shut_ends m bound h a b c before after steps chunk l t g s closing whole fed why =
    elim (cases_eq h.number l.number) [
      | inl same ↦
          let id : h.id ≡ l.id = t.by_number same in
          let u : Consumes (a.unread l.number) (c.unread l.number) chunk = rw same at (Consumes-kept _ _ _ chunk g.consumed s.unread) in
          let v : Appends (a.given l.number) (c.given l.number) chunk = rw same at (Appends-kept _ _ _ chunk g.given s.given) in
          let w : Keeps (a.written l.number) (c.written l.number) = rw same at (Keeps-trans _ _ _ g.written s.written) in
          let f : l.number < bound → IsRaised (a.is_shut l.number) (c.is_shut l.number) = rw same at (λ (lt : h.number < bound). stays_raised (a.is_shut h.number) (b.is_shut h.number) (c.is_shut h.number) g.shut (s.shut lt)) in
          let none : own l.id steps ≡ [] = closing.no_own l.id in
          let no_taken : taken l.id steps ≡ [] = closing.no_taken l.id in
          record {
            lost = chunk;
            consumed = rw none u;
            given = rw none v;
            appended = rw no_taken (Appends-none _ _ w);
            whole = (rw id at whole);
            fed = (rw id at fed);
            ends = inr (record { shut = f; closed = closing.this l.id id; cause = subst (λ (x : Link). Cause m a before steps c after x) (same_link h l same id) why });
          }
      | inr apart ↦
          let kept : KeepsConnection a c l.number = kept_then a b c l.number (gave_others a b h chunk l.number g apart) (s.others l.number (λ e. apart (sym e))) in
          carried_nothing m bound a c before after steps l (closing.no_own l.id) (closing.no_taken l.id) (closing.no_other l.id (λ e. apart (t.by_id e))) (closing.no_hunger l.id (λ e. apart (t.by_id e))) kept
    ]

carries_by_closing : (kind : Event → Type 0) (m : List Connection) (bound : ℕ) (h : Link) (a b c : Report) (before after : HostState) (steps : List Step) (chunk : List ℕ) → Each (λ step. kind step.event) steps → IsRun before steps after → GaveBytes a b h.number chunk → Shuts bound b c h.number → Closing h.id steps → (chunk ≡ []) ⊎ (IsGone after h.id × (some_step (feed_out_of_memory h.id) steps ≡ true)) → (some_step (feed_out_of_memory h.id) steps ≡ true → chunk ≢ []) → Cause m a before steps c after h → CarriesBy kind m bound (h ∷ []) a before c after
carries_by_closing kind m bound h a b c before after steps chunk kinds chain g s closing whole fed why = record {
  steps = steps;
  kinds = kinds;
  carries = record {
    chain = chain;
    carried = λ l tied. shut_ends m bound h a b c before after steps chunk l tied.0 g s closing whole fed why;
    others = λ x apart. kept_then a b c x (gave_others a b h chunk x g apart.0) (s.others x (λ e. apart.0 (sym e)));
    foreign = λ id strange. record { stored = closing.no_own id; passed = closing.no_taken id; kept = closing.no_other id strange.0 };
    all = moves_then a b c (gave_move a b h.number chunk g) (shuts_move bound b c h.number s);
  };
}

closing_alone : (h : Link) (o : Outcome) → Closing h.id (record { event = Close h.id; outcome = o } ∷ [])
closing_alone h o = record { no_own = λ x. refl; no_taken = λ x. refl; this = λ x e. closes_this h x e; no_other = λ x f. closes_other h x f; no_hunger = λ x f. refl }

failed_through : (a b c : Report) (bound : ℕ) (number : ℕ) → IsRaised (a.has_failed number) (b.has_failed number) → Shuts bound b c number → IsRaised (a.has_failed number) (c.has_failed number)
failed_through a b c bound number e s = raised_rises _ _ _ e (stays_rise _ _ s.failed)

-- a read or a write failed, and the connection was shut
pub carries_by_fault : (kind : Event → Type 0) (m : List Connection) (bound : ℕ) (h : Link) (a b c : Report) (before after : HostState) → kind (Close h.id) → GaveBytes a b h.number [] → IsRaised (a.has_failed h.number) (b.has_failed h.number) → Shuts bound b c h.number → IsClosing before h.id after → CarriesBy kind m bound (h ∷ []) a before c after
carries_by_fault kind m bound h a b c before after can g e s close =
    carries_by_closing kind m bound h a b c before after (record { event = Close h.id; outcome = close.outcome } ∷ []) [] (can, tt) (run-one before after _ close.step) g s (closing_alone h close.outcome) (inl refl) (λ e. absurd (cc)) (inl (failed_through a b c bound h.number e s))

-- the connection was finished with, and shut
pub carries_by_finished : (m : List Connection) (bound : ℕ) (h : Link) (a c : Report) (before after : HostState) (has_ended : Bool) → (has_ended ≡ true → IsMarked reads_ended m h.number) → is_finished_with has_ended (find before.slots h.id) ≡ true → Shuts bound a c h.number → IsClosing before h.id after → CarriesBy IsEnd m bound (h ∷ []) a before c after
carries_by_finished m bound h a c before after has_ended marked finished s close =
    carries_by_closing IsEnd m bound h a a c before after (record { event = Close h.id; outcome = close.outcome } ∷ []) [] (tt, tt) (run-one before after _ close.step) (gave_nothing a h.number) s (closing_alone h close.outcome) (inl refl) (λ e. absurd (cc))
    (inr (inr (record { earlier = []; outcome = close.outcome; later = []; steps_are = refl; moment = before; run = run-start before; onward = run-one before after _ close.step; first = refl; has_ended = has_ended; marked = marked; finished = finished })))

-- a session that wants input refuses a feed only for want of memory
pub refused_for_memory : (before after : HostState) (id : SessionId) (chunk : List ℕ) (o : Outcome) (found : Option SessionView) → find before.slots id ≡ found → wants_input_of found ≡ true → length chunk ≤ CHUNK_MAX → OnSession (Feeds chunk) before id found o after → is_done o ≡ false → o ≡ Refused OutOfMemory
refused_for_memory before after id chunk o None e w few p d = absurd (cc)
refused_for_memory before after id chunk Done (Some t) e w few p d = absurd (cc)
refused_for_memory before after id chunk (Opened x) (Some t) e w few p d = absurd p.went
refused_for_memory before after id chunk (Worked x) (Some t) e w few p d = absurd p.went
refused_for_memory before after id chunk (Gave x) (Some t) e w few p d = absurd p.went
refused_for_memory before after id chunk (Refused Full) (Some t) e w few p d = absurd p.went
refused_for_memory before after id chunk (Refused UnknownSession) (Some t) e w few p d = absurd p.went
refused_for_memory before after id chunk (Refused OutOfMemory) (Some t) e w few p d = refl
refused_for_memory before after id chunk (Refused NotReady) (Some t) e w few p d = absurd (p.went.0 (w, few))

-- memory ran out for the bytes read, and the connection was shut
pub carries_by_starved : (m : List Connection) (bound : ℕ) (h : Link) (a b c : Report) (before mid after : HostState) (chunk : List ℕ) (o : Outcome) → wants_input_of (find before.slots h.id) ≡ true → length chunk ≤ CHUNK_MAX → 1 ≤ length chunk → is_done o ≡ false → GaveBytes a b h.number chunk → Shuts bound b c h.number → IsStep before (record { event = Feed h.id chunk; outcome = o }) mid → IsClosing mid h.id after → IsGone after h.id → CarriesBy IsInput m bound (h ∷ []) a before c after
carries_by_starved m bound h a b c before mid after chunk o wants few some d g s step close out =
    let is : o ≡ Refused OutOfMemory = refused_for_memory before mid h.id chunk o (find before.slots h.id) refl wants few step.stepped.0 d in
    starved (rw is at step)
  where
    not_none : (bytes : List ℕ) → 1 ≤ length bytes → bytes ≡ [] → ⊥
    not_none bytes lt e = (let n : length bytes ≡ 0 = ap length e in absurd (omega arith))

    closing : Closing h.id (record { event = Feed h.id chunk; outcome = Refused OutOfMemory } ∷ record { event = Close h.id; outcome = close.outcome } ∷ [])
    closing = record { no_own = λ x. refl; no_taken = λ x. refl; this = λ x e. closes_this h x e; no_other = λ x f. closes_other h x f; no_hunger = λ x f. closes_other h x f }

    starved : IsStep before (record { event = Feed h.id chunk; outcome = Refused OutOfMemory }) mid → CarriesBy IsInput m bound (h ∷ []) a before c after
    starved first =
        carries_by_closing IsInput m bound h a b c before after (record { event = Feed h.id chunk; outcome = Refused OutOfMemory } ∷ record { event = Close h.id; outcome = close.outcome } ∷ []) chunk (tt, (tt, tt)) (run-two before mid after _ _ first close.step) g s closing (inr (out, or_left (is_same_id h.id h.id) (false || false) (is_same_id-refl h.id))) (λ e none. not_none chunk some none)
        (inr (inl (or_left (is_same_id h.id h.id) (false || false) (is_same_id-refl h.id))))

wants_some : (f : Option SessionView) → wants_input_of f ≡ true → IsSome f
wants_some None e = absurd (cc)
wants_some (Some t) e = refl

-- the id of a session that wanted input was given before
pub wanted_below : (host mid : HostState) (id : SessionId) (event : Event) (o : Outcome) → wants_input_of (find host.slots id) ≡ true → IsBelow host.slots → Stepped host event o mid → id.generation < mid.slots.next
wanted_below host mid id event o e below s =
    let b : id.generation < host.slots.next = below id (wants_some (find host.slots id) e) in
    let r : host.slots.next ≤ mid.slots.next = step_rises host mid event o s in
    omega arith

-- ---- writes

queue_of : (found : Option SessionView) (bytes : Bor (List ℕ)) → IsQueue found (Some bytes) → queued_of found ≡ bytes.now
queue_of None bytes p = absurd p
queue_of (Some t) bytes p = sym p

pub has_queue : (host : HostState) (id : SessionId) (bytes : Bor (List ℕ)) → IsQueue (find host.slots id) (Some bytes) → queued_of (find host.slots id) ≡ bytes.now
has_queue host id bytes p = queue_of (find host.slots id) bytes p

is_open : (found : Option SessionView) (bytes : Bor (List ℕ)) → IsQueue found (Some bytes) → IsSome found
is_open None bytes p = absurd p
is_open (Some t) bytes p = refl

pub has_session : (host : HostState) (id : SessionId) (bytes : Bor (List ℕ)) → IsQueue (find host.slots id) (Some bytes) → IsSome (find host.slots id)
has_session host id bytes p = is_open (find host.slots id) bytes p

carried_passed : (m : List Connection) (bound : ℕ) (h : Link) (a b : Report) (before after : HostState) (n : ℕ) (bytes : List ℕ) (l : Link) → Ties h l → Writes a b h.number (Ok n) bytes → Transferred m bound a before (record { event = Take h.id n; outcome = Gave (take n bytes) } ∷ []) b after l
carried_passed m bound h a b before after n bytes l t w =
    elim (cases_eq h.number l.number) [
      | inl same ↦
          let at : cond (is_same_id h.id l.id) (take n bytes) [] ≡ take n bytes = at_id h.id l.id (take n bytes) (t.by_number same) in
          let u : Appends (a.written l.number) (b.written l.number) (take n bytes) = rw same at w.appended in
          let k : Keeps (a.unread l.number) (b.unread l.number) = rw same at w.unread in
          let g : Keeps (a.given l.number) (b.given l.number) = rw same at w.given in
          let f : Stays (a.is_shut l.number) (b.is_shut l.number) = rw same at w.shut in
          let none : Stays (a.has_failed l.number) (b.has_failed l.number) = rw same at w.failed in
          record {
            lost = [];
            consumed = Consumes-none _ _ k;
            given = Appends-none _ _ g;
            appended = rw at (subst (Appends (a.written l.number) (b.written l.number)) (sym (append-nil (take n bytes))) u);
            whole = inl refl;
            fed = λ e. absurd (cc);
            ends = inl (record { shut = f; closed = refl; failed = none; fed = refl });
          }
      | inr apart ↦
          let off : cond (is_same_id h.id l.id) (take n bytes) [] ≡ [] = off_id h.id l.id (take n bytes) (λ e. apart (t.by_id e)) in
          carried_nothing m bound a b before after (record { event = Take h.id n; outcome = Gave (take n bytes) } ∷ []) l refl (rw off refl) refl refl (w.others l.number (λ e. apart (sym e)))
    ]

-- taking no more than is queued succeeds
passed_done : {U : Type 0} (before after : HostState) (id : SessionId) (n : ℕ) (bytes : List ℕ) (r : Result U HostFault) (found : Option SessionView) → find before.slots id ≡ found → IsSome found → queued_of found ≡ bytes → n ≤ length bytes → OnSession (Takes n) before id found (passed_of (take n (queued_of found)) r) after → (IsErrOf r OutOfMemory → ⊥) → passed_of (take n (queued_of found)) r ≡ Gave (take n bytes)
passed_done before after id n bytes r None e some q few p none = absurd (cc)
passed_done before after id n bytes (Ok u) (Some t) e some q few p none = ap (λ (xs : List ℕ). Gave (take n xs)) q
passed_done before after id n bytes (Err Full) (Some t) e some q few p none = absurd p.went
passed_done before after id n bytes (Err UnknownSession) (Some t) e some q few p none = absurd p.went
passed_done before after id n bytes (Err OutOfMemory) (Some t) e some q few p none = absurd (none refl)
passed_done before after id n bytes (Err NotReady) (Some t) e some q few p none = (let l : length t.queued ≡ length bytes = ap length q in let m : length t.queued < n = p.went.0 in absurd (omega arith))

-- the bytes written were taken from the queue
pub carries_by_passed : {U : Type 0} (m : List Connection) (bound : ℕ) (h : Link) (a b : Report) (before after : HostState) (n : ℕ) (bytes : Bor (List ℕ)) (r : Result U HostFault) → IsQueue (find before.slots h.id) (Some bytes) → n ≤ length bytes.now → Writes a b h.number (Ok n) bytes.now → IsBelow before.slots
    → Stepped before (Take h.id n) (passed_of (take n (queued_of (find before.slots h.id))) r) after → (IsErrOf r OutOfMemory → ⊥) → CarriesBy IsOutput m bound (h ∷ []) a before b after
carries_by_passed m bound h a b before after n bytes r queue few w below p none =
    let is : passed_of (take n (queued_of (find before.slots h.id))) r ≡ Gave (take n bytes.now) = passed_done before after h.id n bytes.now r (find before.slots h.id) refl (has_session before h.id bytes queue) (has_queue before h.id bytes queue) few p.0 none in
    passed (rw is at p)
  where
    passed : Stepped before (Take h.id n) (Gave (take n bytes.now)) after → CarriesBy IsOutput m bound (h ∷ []) a before b after
    passed s = record {
      steps = record { event = Take h.id n; outcome = Gave (take n bytes.now) } ∷ [];
      kinds = (tt, tt);
      carries = record {
        chain = run-one before after _ (record { below = below; stepped = s });
        carried = λ l tied. carried_passed m bound h a b before after n bytes.now l tied.0 w;
        others = λ x apart. w.others x (λ e. apart.0 (sym e));
        foreign = λ id strange. record { stored = refl; passed = rw (off_id h.id id (take n bytes.now) strange.0) refl; kept = refl };
        all = writes_move a b h.number (Ok n) bytes.now w;
      };
    }

-- the connection was shut, after a call that did not shut it
pub shut_after : {P Q : Type 0} (a b c : Option Bool) → Stays a b → P ⊎ (Q → IsRaised b c) → P ⊎ (Q → IsRaised a c)
shut_after a b c s (inl p) = inl p
shut_after a b c s (inr f) = inr (λ q. stays_raised a b c s (f q))
