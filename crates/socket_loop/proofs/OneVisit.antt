-- One visit: its effect on the connection, and its calls.
use Rattle.std.proofs.Common.{◌≡◌, ◌≤◌, ℕ, ltb, Bool, true, false, not, cond, ◌&&◌, List, [], ◌∷◌, length, Option, None, Some, Ok, refl, sym, ap, ◌∙◌, subst, arith, inl, inr}
use Rattle.std.proofs.lemmas.Bool.{and_from, and_parts, cases_eq, ltb-false, ltb-true, not-true}
use Rattle.std.specs.Borrow.{Bor}
use Rattle.std.specs.Io.KnownBytes.{Consumes, IsAtEnd}
use Rattle.session_slots.specs.Slots.{find}
use Rattle.usi_session.specs.declared.limits.TheConstants.{CHUNK_MAX}
use Rattle.host_core.specs.Events.{Event}
use Rattle.host_core.specs.Steps.{HostState}
use Rattle.host_core.specs.ById.{IsQueue, queued_of}
use Rattle.transport.specs.declared.wire.Got.TheVariants.{Bytes, Nothing}
use Rattle.transport.specs.Asked.{Call, Read, Write, Shut, Asks}
use Rattle.transport.specs.Report.{Report, KeepsAll, Reads, Shuts, Stays, Writes}
use Rattle.transport.specs.Moves.{IsEmptied}
use Rattle.transport.proofs.Asked.{asks_none}
use Rattle.transport.proofs.Reported.{Keeps-nothing, nothing_keeps, stays_raised}
use Rattle.transport.proofs.Transfers.{read_transfers, write_longer}
use Rattle.socket_loop.specs.declared.connection.Connection.{Connection}
use Rattle.socket_loop.specs.Scenes.{Scene}
use Rattle.socket_loop.specs.Parts.{IsEnd, IsInput, IsOutput, is_finished}
use Rattle.socket_loop.specs.Calls.{Visits, ends_of, is_to_read, is_to_shut, is_to_write, reads_of, shuts_of, writes_of}
use Rattle.socket_loop.specs.Visits.{FeedsOne, IsVisited, VisitsOne}
use Rattle.socket_loop.proofs.Calls.{asks_due, asks_shut}
use Rattle.socket_loop.proofs.Runs.{next_rises}
use Rattle.socket_loop.proofs.Stirs.{made_same}
use Rattle.socket_loop.proofs.Visits.{has_queue, shut_after}

pub at_most_then : (a b c : ℕ) → a ≤ b → b ≤ c → a ≤ c
at_most_then a b c p q = omega arith

-- ---- the marks

-- the connection is unchanged
pub visited_same : (kind : Event → Type 0) (x : Connection) (before after : Scene) → Visits kind x.link.id before.host after.host
    → after.bound ≡ before.bound → before.failed ≤ after.failed → IsVisited kind x x before after
visited_same kind x before after v bound faults = record {
  steps = v;
  link = refl;
  made = made_same x;
  closed = λ was. inl was;
  shut = λ was. inl was;
  bound = bound;
  faults = faults;
  next = next_rises before.host after.host v.steps v.run;
}

-- the reads of the connection have ended
pub visited_ended : (kind : Event → Type 0) (x : Connection) (before after : Scene) → Visits kind x.link.id before.host after.host
    → after.bound ≡ before.bound → before.failed ≤ after.failed → IsVisited kind x (record x { has_ended = true }) before after
visited_ended kind x before after v bound faults = record {
  steps = v;
  link = refl;
  made = record { ended = λ e. refl; shut = λ e. e };
  closed = λ was. inl was;
  shut = λ was. inl was;
  bound = bound;
  faults = faults;
  next = next_rises before.host after.host v.steps v.run;
}

-- the connection was shut, after a call that did not shut it
pub visited_shut : (kind : Event → Type 0) (x : Connection) (before after : Scene) (mid : Report)
    → Stays (before.report.is_shut x.link.number) (mid.is_shut x.link.number) → Shuts before.bound mid after.report x.link.number
    → Visits kind x.link.id before.host after.host → find after.host.slots x.link.id ≡ None
    → after.bound ≡ before.bound → before.failed ≤ after.failed → IsVisited kind x (record x { is_shut = true }) before after
visited_shut kind x before after mid stays shuts v none bound faults = record {
  steps = v;
  link = refl;
  made = record { ended = λ e. e; shut = λ e. refl };
  closed = λ e. inr none;
  shut = λ e. inr (λ lt. stays_raised (before.report.is_shut x.link.number) (mid.is_shut x.link.number) (after.report.is_shut x.link.number) stays (shuts.shut lt));
  bound = bound;
  faults = faults;
  next = next_rises before.host after.host v.steps v.run;
}

-- ---- the calls

none_anew : (b : Bool) (calls : List Call) → cond (b && not b) calls [] ≡ []
none_anew true calls = refl
none_anew false calls = refl

-- an unchanged connection needs no shut
pub asks_no_shut : (a : Option (List Call)) (x : Connection) → Asks a a (shuts_of x x)
asks_no_shut a x = subst (λ (calls : List Call). Asks a a calls) (sym (none_anew x.is_shut (Shut x.link.number ∷ []))) (asks_none a)

asks_once : (a b : Option (List Call)) (due : Bool) (first : Call) (x : Connection) → due ≡ true → Asks a b (first ∷ []) → Asks a b (cond due (first ∷ shuts_of x x) [])
asks_once a b due first x e p = rw (e, none_anew x.is_shut (Shut x.link.number ∷ [])) p

-- ---- a write

to_write : (host : HostState) (x : Connection) → x.is_shut ≡ false → ltb 0 (length (queued_of (find host.slots x.link.id))) ≡ true → is_to_write host x ≡ true
to_write host x «open» some = and_from (not x.is_shut) (ltb 0 (length (queued_of (find host.slots x.link.id)))) (ap not «open») some

asked_queue : (host : HostState) (x : Connection) (bytes : Bor (List ℕ)) (a b : Option (List Call)) → IsQueue (find host.slots x.link.id) (Some bytes)
    → Asks a b (Write x.link.number bytes.now ∷ []) → Asks a b (Write x.link.number (queued_of (find host.slots x.link.id)) ∷ [])
asked_queue host x bytes a b queue p =
    subst (λ (q : List ℕ). Asks a b (Write x.link.number q ∷ [])) (sym (has_queue host x.link.id bytes queue)) p

none_taken : (a b : Report) (number n : ℕ) (bytes : List ℕ) → n ≡ 0 → Writes a b number (Ok n) bytes → KeepsAll a b
none_taken a b number n bytes e w other =
    let z : Writes a b number (Ok 0) bytes = rw e at w in
    elim (cases_eq other number) [
      | inl same ↦ rw same (record { unread = z.unread; given = z.given; written = Keeps-nothing _ _ z.appended; shut = z.shut; failed = z.failed })
      | inr apart ↦ z.others other apart
    ]

at_zero : (n : ℕ) → n ≤ 0 → n ≡ 0
at_zero n h = omega arith

-- the output was written in one write
pub wrote : (x : Connection) (before after : Scene) (n : ℕ) (bytes : Bor (List ℕ)) → x.is_shut ≡ false → IsQueue (find before.host.slots x.link.id) (Some bytes)
    → ltb 0 (length (queued_of (find before.host.slots x.link.id))) ≡ true → Writes before.report after.report x.link.number (Ok n) bytes.now → Asks before.asked after.asked (Write x.link.number bytes.now ∷ [])
    → IsVisited IsOutput x x before after → VisitsOne writes_of IsOutput (ltb 0 n) x x before after
wrote x before after n bytes «open» queue some w asked visit = record {
  visit = visit;
  asked = asks_once before.asked after.asked (is_to_write before.host x) (Write x.link.number (queued_of (find before.host.slots x.link.id))) x (to_write before.host x «open» some) (asked_queue before.host x bytes before.asked after.asked queue asked);
  quiet = λ q. (none_taken before.report after.report x.link.number n bytes.now (at_zero n (ltb-false 0 n q)) w, refl);
  stirs = λ e. inl (inr (write_longer before.report after.report x.link.number n bytes.now (ltb-true 0 n e) w));
}

-- the write failed, and the connection was shut
pub wrote_none : (x : Connection) (before after : Scene) (mid : Option (List Call)) (bytes : Bor (List ℕ)) → x.is_shut ≡ false → IsQueue (find before.host.slots x.link.id) (Some bytes)
    → ltb 0 (length (queued_of (find before.host.slots x.link.id))) ≡ true → Asks before.asked mid (Write x.link.number bytes.now ∷ []) → Asks mid after.asked (Shut x.link.number ∷ [])
    → IsVisited IsOutput x (record x { is_shut = true }) before after → VisitsOne writes_of IsOutput true x (record x { is_shut = true }) before after
wrote_none x before after mid bytes «open» queue some asked shut visit = record {
  visit = visit;
  asked = asks_due before.asked mid after.asked (is_to_write before.host x) (Write x.link.number (queued_of (find before.host.slots x.link.id))) (shuts_of x (record x { is_shut = true })) (to_write before.host x «open» some) (asked_queue before.host x bytes before.asked mid queue asked) (asks_shut mid after.asked x (record x { is_shut = true }) «open» refl shut);
  quiet = λ q. absurd (cc);
  stirs = λ e. inr (inr («open», refl));
}

-- ---- a read

-- the connection is not to be read
pub no_read : (host : HostState) (x : Connection) → is_to_read host x ≡ false → reads_of host x x ≡ []
no_read host x e = ap (λ (due : Bool). cond due (Read x.link.number CHUNK_MAX ∷ shuts_of x x) []) e

-- no byte came
pub read_nothing : (x : Connection) (before after : Scene) (buf : List ℕ) → is_to_read before.host x ≡ true → Reads before.report after.report x.link.number (Ok Nothing) buf
    → Asks before.asked after.asked (Read x.link.number CHUNK_MAX ∷ []) → IsVisited IsInput x x before after → VisitsOne reads_of IsInput false x x before after
read_nothing x before after buf due r asked visit = record {
  visit = visit;
  asked = asks_once before.asked after.asked (is_to_read before.host x) (Read x.link.number CHUNK_MAX) x due asked;
  quiet = λ q. (nothing_keeps before.report after.report x.link.number buf r, refl);
  stirs = λ e. absurd (cc);
}

not_ended : (x : Connection) (wants : Bool) → (not x.has_ended && not x.is_shut) && wants ≡ true → x.has_ended ≡ false
not_ended x wants e = not-true x.has_ended (and_parts (not x.has_ended) (not x.is_shut) (and_parts (not x.has_ended && not x.is_shut) wants e).0).0

-- the reads ended
pub read_ended : (x : Connection) (before after : Scene) → is_to_read before.host x ≡ true
    → Asks before.asked after.asked (Read x.link.number CHUNK_MAX ∷ []) → IsVisited IsInput x (record x { has_ended = true }) before after
    → VisitsOne reads_of IsInput true x (record x { has_ended = true }) before after
read_ended x before after due asked visit = record {
  visit = visit;
  asked = asks_once before.asked after.asked (is_to_read before.host x) (Read x.link.number CHUNK_MAX) x due asked;
  quiet = λ q. absurd (cc);
  stirs = λ e. inr (inl (not_ended x _ due, refl));
}

-- at the end of input nothing is left
pub emptied : (a b : Option (List ℕ)) → Consumes a b [] → IsAtEnd b → IsEmptied a b
emptied None b p q = tt
emptied (Some bytes) None p q = absurd p
emptied (Some bytes) (Some left) p q = ap (λ (l : List ℕ). Some l) q

-- the read failed, and the connection was shut
pub read_none : (x : Connection) (before after : Scene) (mid : Option (List Call)) → is_to_read before.host x ≡ true → x.is_shut ≡ false
    → Asks before.asked mid (Read x.link.number CHUNK_MAX ∷ []) → Asks mid after.asked (Shut x.link.number ∷ [])
    → IsVisited IsInput x (record x { is_shut = true }) before after → VisitsOne reads_of IsInput true x (record x { is_shut = true }) before after
read_none x before after mid due «open» asked shut visit = record {
  visit = visit;
  asked = asks_due before.asked mid after.asked (is_to_read before.host x) (Read x.link.number CHUNK_MAX) (shuts_of x (record x { is_shut = true })) due asked (asks_shut mid after.asked x (record x { is_shut = true }) «open» refl shut);
  quiet = λ q. absurd (cc);
  stirs = λ e. inr (inr («open», refl));
}

-- bytes came, and were fed
pub read_bytes : (x y : Connection) (before mid after : Scene) (lent : List ℕ) → 1 ≤ length lent → is_to_read before.host x ≡ true → x.is_shut ≡ false → mid.bound ≡ before.bound → before.failed ≤ mid.failed
    → Reads before.report mid.report x.link.number (Ok Bytes) lent → Asks before.asked mid.asked (Read x.link.number CHUNK_MAX ∷ [])
    → Visits IsInput x.link.id before.host after.host → FeedsOne lent x y mid after → VisitsOne reads_of IsInput true x y before after
read_bytes x y before mid after lent some due «open» bound faults r asked steps fed = record {
  visit = record {
    steps = steps;
    link = fed.visit.link;
    made = fed.visit.made;
    closed = fed.visit.closed;
    shut = λ e. shut_after (before.report.is_shut x.link.number) (mid.report.is_shut x.link.number) (after.report.is_shut x.link.number) r.shut (rw bound at fed.visit.shut e);
    bound = fed.visit.bound ∙ bound;
    faults = at_most_then before.failed mid.failed after.failed faults fed.visit.faults;
    next = next_rises before.host after.host steps.steps steps.run;
  };
  asked = asks_due before.asked mid.asked after.asked (is_to_read before.host x) (Read x.link.number CHUNK_MAX) (shuts_of x y) due asked (fed.asked «open»);
  quiet = λ q. absurd (cc);
  stirs = λ e. inl (read_transfers before.report mid.report after.report x.link.number lent some r fed.unread fed.given);
}

-- ---- an end

-- the connection is not to be shut
pub no_end : (host : HostState) (x : Connection) → is_to_shut host x ≡ false → ends_of host x x ≡ []
no_end host x e = ap (λ (due : Bool). cond due (Shut x.link.number ∷ []) []) e

-- the connection was finished with, and shut
pub ended : (x : Connection) (before after : Scene) → x.is_shut ≡ false → is_finished before.host x ≡ true → Asks before.asked after.asked (Shut x.link.number ∷ [])
    → IsVisited IsEnd x (record x { is_shut = true }) before after → VisitsOne ends_of IsEnd true x (record x { is_shut = true }) before after
ended x before after «open» finished asked visit =
    let due : is_to_shut before.host x ≡ true = and_from (not x.is_shut) (is_finished before.host x) (ap not «open») finished in
    record {
      visit = visit;
      asked = rw due asked;
      quiet = λ q. absurd (cc);
      stirs = λ e. inr (inr («open», refl));
    }
