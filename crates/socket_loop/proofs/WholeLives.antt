-- The whole life of a connection, turn by turn.
use Rattle.std.proofs.Common.{◌≡◌, ◌≢◌, ◌⊎◌, ℕ, zero, suc, ◌<◌, ◌≤◌, Bool, true, List, [], ◌∷◌, ◌++◌, Result, Ok, Err, IfErr, append_assoc, append-nil, Option, Some, None, refl, sym, ap, ◌∙◌, subst, arith, inl, inr}
use Rattle.std.proofs.lemmas.Bool.{cases_eq}
use Rattle.std.proofs.KnownBytes.{Appends-kept, Consumes-kept, Keeps-trans, Appends-nil, Consumes-nil}
use Rattle.session_slots.specs.declared.id.SessionId.{SessionId}
use Rattle.session_slots.specs.Slots.{find}
use Rattle.usi_session.specs.Due.{SessionView}
use Rattle.usi_session.specs.WholeStream.{replies_under, is_over_after_under}
use Rattle.host_core.specs.Events.{Close, Outcome}
use Rattle.host_core.specs.Headline.{EndsFrom, OverFrom}
use Rattle.socket_loop.specs.declared.connection.Link.{Link}
use Rattle.transport.specs.declared.wire.WireFault.{WireFault}
use Rattle.transport.specs.Report.{KeepsConnection, IsRaised}
use Rattle.socket_loop.specs.Links.{Ties, IsAmong, IsNotAmong, IsMarked, links_of, reads_ended, was_shut}
use Rattle.socket_loop.specs.Turns.{FitsOne, Fits, IsTurn, IsRejected, Joins, Served}
use Rattle.socket_loop.proofs.Accepting.{apart_each, each_apart, fresh_tied, tied_of, ties_apart}
use Rattle.socket_loop.proofs.Lives.{served_on, served_aside, then_ends, over_then, Keeps-Consumes, prefix_written, all_written, strange_each}
use Rattle.transport.proofs.Reported.{kept_same, kept_then, all_kept, moves_then, emptied_move, move_emptied, rises_raised, Keeps-Appends, stays_raised, raised_rises, stays_rise}
use Rattle.socket_loop.proofs.Runs.{next_rises, opened_left}
use Rattle.socket_loop.proofs.Parts.{some_lost}
use Rattle.socket_loop.proofs.Turning.{not_lost}
use Rattle.socket_loop.proofs.Endings.{some_of, not_none, found, Found, stays_open, opened_stays, opened_before, ending, Ending, EndsBy}
use Rattle.socket_loop.specs.Parts.{Transferred, Cause, Finished, Survives, IsShutDown, LeavesUntouched, IsGone}
use Rattle.transport.specs.Moves.{AllMove}
use Rattle.host_core.specs.Made.{Step, own, taken, is_opened}
use Rattle.host_core.specs.Rounds.{works, pending_ids}
use Rattle.host_core.proofs.Ids.{is_same_id-refl}
use Rattle.host_core.specs.Steps.{HostState}
use Rattle.host_core.proofs.Kept.{keeps_setup}
use Rattle.host_core.proofs.OneSession.{gone, opened_under, IsGone as IsOut}
use Rattle.host_core.proofs.Overs.{over_under}
use Rattle.socket_loop.specs.Scenes.{Scene}
use Rattle.socket_loop.specs.Serving.{AreTurns, IsTurnAndWait, IsWait, past_of}
use Rattle.socket_loop.specs.Patience.{AnswersInTime}
use Rattle.socket_loop.specs.Promises.{IsDone, IsStopped}
use Rattle.socket_loop.specs.Life.{Duty, new_duty, duty_of, ReadsEnded, EndsItself, HasEnded, IsAnswered, IsHeldOrGone, IsAccountedFor, IsServed, Lives, IsUntouched}
use Rattle.socket_loop.specs.Past.{WasAccepted, Accepted}
use Rattle.socket_loop.proofs.Turns.{Stops}

-- ---- numbers

-- a link with the number, or none
record Numbered (ls : List Link) (n : ℕ) : Type 0 where
  pub link : Link
  pub among : IsAmong ls link
  pub same : link.number ≡ n

find_number : (ls : List Link) (n : ℕ) → IsNotAmong ls n ⊎ Numbered ls n
find_number [] n = inl tt
find_number (x ∷ xs) n = elim (cases_eq x.number n) [
  | inl same ↦ inr (record { link = x; among = inl refl; same = same })
  | inr differs ↦ elim (find_number xs n) [
    | inl apart ↦ inl (differs, apart)
    | inr there ↦ inr (record { link = there.link; among = inr there.among; same = there.same })
  ]
]

-- ---- what is answered

answered : (duty : Duty) (a b : Scene) (l : Link) → (s : Served duty.owes a.report b.report l.number (find b.host.slots l.id)) → OverFrom duty.ends s.read (find b.host.slots l.id) → (find b.host.slots l.id ≡ None → HasEnded duty a b l.number s.read s.lost s.written) → IsHeldOrGone a b l → FitsOne (links_of b.held) b.bound b.host l → IsAnswered duty a b l
answered duty a b l s o e k f = record {
  served = s;
  prefix = prefix_written duty.owes s.read s.written (find b.host.slots l.id) s.ends;
  all = all_written duty.owes s.read s.written (find b.host.slots l.id) s.ends;
  over = o;
  ended = e;
  kept = k;
  fits = f;
}

nil_or : (xs : List ℕ) → (xs ≡ []) ⊎ (xs ≢ [])
nil_or [] = inl refl
nil_or (x ∷ xs) = inr (λ e. absurd (cc))

ends_start : (found : Option SessionView) → EndsFrom (duty_of found).owes [] [] found
ends_start None = ([], refl)
ends_start (Some t) = λ x. refl

over_start : (found : Option SessionView) → OverFrom (duty_of found).ends [] found
over_start None = tt
over_start (Some t) = λ x. refl

owing_none : (found_ : Option SessionView) (x : List ℕ) → found_ ≡ None → (duty_of found_).owes x ≡ []
owing_none None x e = refl
owing_none (Some t) x e = absurd (cc)

over_of_none : (found_ : Option SessionView) (x : List ℕ) → found_ ≡ None → (duty_of found_).ends x ≡ true
over_of_none None x e = refl
over_of_none (Some t) x e = absurd (cc)

life_start_held : (s : Scene) (l : Link) → IsAmong (links_of s.held) l → FitsOne (links_of s.held) s.bound s.host l → IsServed s s l
life_start_held s l among f = inl (
  among,
  answered (duty_of (find s.host.slots l.id)) s s l
      (record {
        read = [];
        lost = [];
        written = [];
        consumed = Consumes-nil _;
        given = Appends-nil _;
        appended = Appends-nil _;
        ends = ends_start (find s.host.slots l.id);
        whole = λ some. refl;
      })
      (over_start (find s.host.slots l.id))
      (λ none. inr (inr (record { none_lost = refl; all = sym (owing_none (find s.host.slots l.id) [] none); why = inr (record { over = over_of_none (find s.host.slots l.id) [] none; no_more = λ x. owing_none (find s.host.slots l.id) x none }) })))
      (inl among)
      f,
)

-- a served connection is accounted for
account_of : (a b : Scene) (n : ℕ) (l : Link) → l.number ≡ n → IsServed a b l → IsAccountedFor a b n
account_of a b n l same s = subst (λ (x : ℕ). IsAccountedFor a b x) same (inr (l.id, s))

pub lives_start : (s : Scene) → Fits (links_of s.held) s.bound s.host → Lives s s
lives_start s fit = record {
  setup = refl;
  rises = omega arith;
  all = all_kept s.report s.report (kept_same s.report);
  marked = λ n m. inl m;
  unmarked = λ n m. m;
  each = λ n. elim (find_number (links_of s.held) n) [
    | inl apart ↦ inl (record { kept = kept_same s.report n; unheld = apart })
    | inr there ↦ inr (account_of s s n there.link there.same (life_start_held s there.link there.among (fit there.link there.among)))
  ];
  held = λ l among. life_start_held s l among (fit l among);
}

-- ---- a turn

-- links left are among the links met
still_apart : (met now : List Link) (n : ℕ) → ((l : Link) → IsAmong now l → IsAmong met l) → IsNotAmong met n → IsNotAmong now n
still_apart met now n left p = apart_each now n (λ l m. each_apart met n l p (left l m))

next_turned : (slice : ℕ) (moved : Bool) (b c : Scene) → IsTurn slice moved b c → b.host.slots.next ≤ c.host.slots.next
next_turned slice moved b c t = next_rises b.host c.host t.host.steps t.host.chain

-- a link that fits ties with each link met
ties_met : (slice : ℕ) (moved : Bool) (b c : Scene) (t : IsTurn slice moved b c) (k l : Link) → FitsOne (links_of b.held) b.bound b.host l → IsAmong (links_of b.held) k ⊎ Joins b.bound c.bound t.meets.accepted b.host.slots.next c.host.slots.next t.host.parts.admissions k → Ties k l
ties_met slice moved b c t k l f (inl old) = tied_of (links_of b.held) l k f.tied old
ties_met slice moved b c t k l f (inr new) =
    let u : l.number < b.bound = f.number in
    let v : l.id.generation < b.host.slots.next = f.opened in
    let x : b.bound ≤ k.number = new.least in
    let y : b.host.slots.next ≤ k.id.generation = new.fresh in
    ties_apart l k (omega arith) (omega arith)

fits_kept : (slice : ℕ) (moved : Bool) (b c : Scene) (t : IsTurn slice moved b c) (l : Link) → FitsOne (links_of b.held) b.bound b.host l → FitsOne (links_of c.held) c.bound c.host l
fits_kept slice moved b c t l f =
    let u : l.number < b.bound = f.number in
    let v : l.id.generation < b.host.slots.next = f.opened in
    let x : b.bound ≤ c.bound = t.meets.rises in
    let y : b.host.slots.next ≤ c.host.slots.next = next_turned slice moved b c t in
    record {
      tied = fresh_tied (links_of c.held) l (λ k m. ties_met slice moved b c t k l f (t.meets.are k (t.treats.left k m)));
      number = omega arith;
      opened = omega arith;
    }

fits_new : (slice : ℕ) (moved : Bool) (b c : Scene) (t : IsTurn slice moved b c) (l : Link) → IsAmong t.meets.met l → Joins b.bound c.bound t.meets.accepted b.host.slots.next c.host.slots.next t.host.parts.admissions l → FitsOne (links_of c.held) c.bound c.host l
fits_new slice moved b c t l among new = record {
  tied = fresh_tied (links_of c.held) l (λ k m. tied_of t.meets.met l k (t.meets.tied l among) (t.treats.left k m));
  number = new.most;
  opened = new.below;
}

-- ---- a connection that was not met

strange_met : (slice : ℕ) (moved : Bool) (b c : Scene) (t : IsTurn slice moved b c) (k l : Link) → FitsOne (links_of b.held) b.bound b.host l → IsNotAmong t.meets.met l.number → IsAmong t.meets.met k → IsAmong (links_of b.held) k ⊎ Joins b.bound c.bound t.meets.accepted b.host.slots.next c.host.slots.next t.host.parts.admissions k → k.id ≡ l.id → ⊥
strange_met slice moved b c t k l f p among (inl old) e = each_apart t.meets.met l.number k p among ((tied_of (links_of b.held) l k f.tied old).by_id e)
strange_met slice moved b c t k l f p among (inr new) e =
    let v : l.id.generation < b.host.slots.next = f.opened in
    let y : b.host.slots.next ≤ k.id.generation = new.fresh in
    let z : k.id.generation ≡ l.id.generation = ap (λ (x : SessionId). x.generation) e in
    absurd (omega arith)

reads_on : (a b c : Scene) (n : ℕ) → AllMove b.report c.report → ReadsEnded a b n → ReadsEnded a c n
reads_on a b c n move (inl was) = inl was
reads_on a b c n move (inr empty) = inr (emptied_move a.report b.report c.report n empty move)

why_on : (duty : Duty) (a b c : Scene) (n : ℕ) (read written more_read more_written : List ℕ) → AllMove b.report c.report → more_read ≡ [] → more_written ≡ [] → ReadsEnded a b n ⊎ EndsItself duty read written → ReadsEnded a c n ⊎ EndsItself duty (read ++ more_read) (written ++ more_written)
why_on duty a b c n read written more_read more_written move e f (inl was) = inl (reads_on a b c n move was)
why_on duty a b c n read written more_read more_written move e f (inr w) = inr (rw (e, f, append-nil read, append-nil written) w)

-- the connection had ended before
ended_before : (duty : Duty) (a b c : Scene) (n : ℕ) (read lost written more_read more_lost more_written : List ℕ) → AllMove b.report c.report → more_read ≡ [] → more_written ≡ [] → lost ++ more_lost ≡ [] → HasEnded duty a b n read lost written → HasEnded duty a c n (read ++ more_read) (lost ++ more_lost) (written ++ more_written)
ended_before duty a b c n read lost written more_read more_lost more_written move e f g (inl failed) = inl (raised_rises _ _ _ failed (move n).failed)
ended_before duty a b c n read lost written more_read more_lost more_written move e f g (inr (inl some)) = absurd (some (some_lost lost more_lost g))
ended_before duty a b c n read lost written more_read more_lost more_written move e f g (inr (inr k)) =
    inr (inr (record { none_lost = g; all = rw (e, f, append-nil read, append-nil written) k.all; why = why_on duty a b c n read written more_read more_written move e f k.why }))

-- bytes were lost, or the connection ended without loss
ended_or : (duty : Duty) (a c : Scene) (n : ℕ) (read lost written : List ℕ) → (lost ≡ [] → HasEnded duty a c n read lost written) → HasEnded duty a c n read lost written
ended_or duty a c n read lost written f = elim (nil_or lost) [ inl none ↦ f none | inr some ↦ inr (inl some) ]

ended_aside : (slice : ℕ) (moved : Bool) (a b c : Scene) (t : IsTurn slice moved b c) (duty : Duty) (l : Link) (x : IsAnswered duty a b l) (found_ : Option SessionView) → find b.host.slots l.id ≡ found_ → LeavesUntouched l.id t.host.steps → x.served.lost ++ [] ≡ [] → find c.host.slots l.id ≡ None
    → HasEnded duty a c l.number (x.served.read ++ own l.id t.host.steps) (x.served.lost ++ []) (x.served.written ++ taken l.id t.host.steps)
ended_aside slice moved a b c t duty l x None e alone g none = ended_before duty a b c l.number x.served.read x.served.lost x.served.written (own l.id t.host.steps) [] (taken l.id t.host.steps) t.treats.all alone.stored alone.passed g (x.ended e)
ended_aside slice moved a b c t duty l x (Some s) e alone g none =
    absurd (not_none (find c.host.slots l.id) (stays_open b.host c.host l.id t.host.steps t.host.chain alone.kept (some_of (find b.host.slots l.id) s e)) none)

-- a connection not met stays held or gone
kept_aside : (slice : ℕ) (moved : Bool) (a b c : Scene) (t : IsTurn slice moved b c) (l : Link) → IsNotAmong t.meets.met l.number → FitsOne (links_of b.held) b.bound b.host l → IsHeldOrGone a b l → IsHeldOrGone a c l
kept_aside slice moved a b c t l p f (inl held) = absurd (each_apart t.meets.met l.number l p (t.meets.stay l held) refl)
kept_aside slice moved a b c t l p f (inr (inl marked)) = inr (inl marked)
kept_aside slice moved a b c t l p f (inr (inr g)) = inr (inr (record {
  shut = raised_rises _ _ _ g.shut (t.treats.all l.number).shut;
  closed = (gone b.host c.host l.id t.host.steps g.closed f.opened t.host.chain).none;
}))

answered_aside : (slice : ℕ) (moved : Bool) (a b c : Scene) (t : IsTurn slice moved b c) (duty : Duty) (l : Link) → IsNotAmong t.meets.met l.number → KeepsConnection b.report c.report l.number → IsAnswered duty a b l → IsAnswered duty a c l
answered_aside slice moved a b c t duty l p k x =
    let alone : LeavesUntouched l.id t.host.steps = t.treats.foreign l.id x.fits.opened (strange_each t.meets.met l.id (λ j m. strange_met slice moved b c t j l x.fits p m (t.meets.are j m))) in
    answered duty a c l
    (served_aside duty.owes a.report b.report c.report b.host c.host l.number l.id t.host.steps x.fits.opened t.host.chain x.served alone k)
    (over_then duty.ends b.host c.host l.id t.host.steps x.served.read (find b.host.slots l.id) refl x.fits.opened t.host.chain x.over)
    (λ none. ended_or duty a c l.number _ _ _ (λ g. ended_aside slice moved a b c t duty l x (find b.host.slots l.id) refl alone g none))
    (kept_aside slice moved a b c t l p x.fits x.kept)
    (fits_kept slice moved b c t l x.fits)

served_apart : (slice : ℕ) (moved : Bool) (a b c : Scene) (t : IsTurn slice moved b c) (l : Link) → IsNotAmong t.meets.met l.number → KeepsConnection b.report c.report l.number → IsServed a b l → IsServed a c l
served_apart slice moved a b c t l p k (inl s) = inl (s.0, answered_aside slice moved a b c t (duty_of (find a.host.slots l.id)) l p k s.1)
served_apart slice moved a b c t l p k (inr s) = inr (s.0, answered_aside slice moved a b c t (new_duty a.host.setup) l p k s.1)

served_fits : (a b : Scene) (l : Link) → IsServed a b l → FitsOne (links_of b.held) b.bound b.host l
served_fits a b l (inl s) = s.1.fits
served_fits a b l (inr s) = s.1.fits

accounted_below : (a b : Scene) (n : ℕ) → IsAccountedFor a b n → n < b.bound
accounted_below a b n (inl w) = w.most
accounted_below a b n (inr s) = (served_fits a b (record { number = n; id = s.0 }) s.1).number

-- a connection accepted in the turn, and rejected
rejected_now : (slice : ℕ) (moved : Bool) (a b c : Scene) (t : IsTurn slice moved b c) (n : ℕ) → a.bound ≤ b.bound → IsNotAmong t.meets.met n → IsRejected b.bound c.bound t.meets.accepted b.report c.report n → IsUntouched a b n ⊎ IsAccountedFor a b n → IsAccountedFor a c n
rejected_now slice moved a b c t n le p w (inl u) =
    let v : b.bound ≤ n = w.least in
    inl (record {
      least = omega arith;
      most = w.most;
      fault = w.fault;
      unread = Keeps-trans _ _ _ u.kept.unread w.unread;
      given = Keeps-trans _ _ _ u.kept.given w.given;
      bytes = w.bytes;
      prefix = w.prefix;
      appended = Keeps-Appends _ _ _ w.bytes u.kept.written w.appended;
      shut = stays_raised _ _ _ u.kept.shut w.shut;
      unheld = still_apart t.meets.met (links_of c.held) n t.treats.left p;
    })
rejected_now slice moved a b c t n le p w (inr h) =
    let u : n < b.bound = accounted_below a b n h in
    let v : b.bound ≤ n = w.least in
    absurd (omega arith)

accounted_apart : (slice : ℕ) (moved : Bool) (a b c : Scene) (t : IsTurn slice moved b c) (n : ℕ) → IsNotAmong t.meets.met n → KeepsConnection b.report c.report n ⊎ IsRejected b.bound c.bound t.meets.accepted b.report c.report n → IsAccountedFor a b n → IsAccountedFor a c n
accounted_apart slice moved a b c t n p (inl k) (inl w) =
    let v : n < b.bound = w.most in
    let x : b.bound ≤ c.bound = t.meets.rises in
    inl (record {
      least = w.least;
      most = omega arith;
      fault = w.fault;
      unread = Keeps-trans _ _ _ w.unread k.unread;
      given = Keeps-trans _ _ _ w.given k.given;
      bytes = w.bytes;
      prefix = w.prefix;
      appended = Appends-kept _ _ _ w.bytes w.appended k.written;
      shut = raised_rises _ _ _ w.shut (stays_rise _ _ k.shut);
      unheld = still_apart t.meets.met (links_of c.held) n t.treats.left p;
    })
accounted_apart slice moved a b c t n p (inl k) (inr s) = inr (s.0, served_apart slice moved a b c t (record { number = n; id = s.0 }) p k s.1)
accounted_apart slice moved a b c t n p (inr away) h =
    let u : n < b.bound = accounted_below a b n h in
    let v : b.bound ≤ n = away.least in
    absurd (omega arith)

life_apart : (slice : ℕ) (moved : Bool) (a b c : Scene) (t : IsTurn slice moved b c) (n : ℕ) → a.bound ≤ b.bound → IsNotAmong t.meets.met n → KeepsConnection b.report c.report n ⊎ IsRejected b.bound c.bound t.meets.accepted b.report c.report n → IsUntouched a b n ⊎ IsAccountedFor a b n → IsUntouched a c n ⊎ IsAccountedFor a c n
life_apart slice moved a b c t n le p (inl k) (inl u) = inl (record { kept = kept_then a.report b.report c.report n u.kept k; unheld = still_apart t.meets.met (links_of c.held) n t.treats.left p })
life_apart slice moved a b c t n le p (inr w) (inl u) = inr (rejected_now slice moved a b c t n le p w (inl u))
life_apart slice moved a b c t n le p q (inr h) = inr (accounted_apart slice moved a b c t n p q h)

-- ---- a connection that was met

-- the reads of a connection met in the turn have ended
reads_met : (slice : ℕ) (moved : Bool) (a b c : Scene) (t : IsTurn slice moved b c) (n : ℕ) → Lives a b → IsMarked reads_ended t.treats.marks n → ReadsEnded a c n
reads_met slice moved a b c t n lives m = elim (t.treats.marked n m) [
  | inl was ↦ reads_on a b c n t.treats.all (lives.marked n was)
  | inr empty ↦ inr (move_emptied a.report b.report c.report n lives.all empty)
]

-- a connection met in the turn is held, or was removed
kept_met : (slice : ℕ) (moved : Bool) (a b c : Scene) (t : IsTurn slice moved b c) (l : Link) → Lives a b → l.number < c.bound → IsAmong (links_of c.held) l ⊎ (IsMarked was_shut b.held l.number ⊎ ((l.number < c.bound → IsRaised (b.report.is_shut l.number) (c.report.is_shut l.number)) × IsGone c.host l.id)) → IsHeldOrGone a c l
kept_met slice moved a b c t l lives lt (inl held) = inl held
kept_met slice moved a b c t l lives lt (inr (inl marked)) = inr (inl (lives.unmarked l.number marked))
kept_met slice moved a b c t l lives lt (inr (inr g)) = inr (inr (record { shut = rises_raised _ _ _ (lives.all l.number).shut (g.0 lt); closed = g.1.none }))

met_below : (slice : ℕ) (moved : Bool) (b c : Scene) (t : IsTurn slice moved b c) (l : Link) → FitsOne (links_of b.held) b.bound b.host l → l.number < c.bound
met_below slice moved b c t l f =
    let u : l.number < b.bound = f.number in
    let v : b.bound ≤ c.bound = t.meets.rises in
    omega arith

ending_why : (duty : Duty) (slice : ℕ) (moved : Bool) (a b c : Scene) (t : IsTurn slice moved b c) (n : ℕ) (has_ended : Bool) (read written : List ℕ) → Lives a b → (has_ended ≡ true → IsMarked reads_ended t.treats.marks n) → (has_ended ≡ true) ⊎ EndsBy duty.owes duty.ends read written → ReadsEnded a c n ⊎ EndsItself duty read written
ending_why duty slice moved a b c t n has_ended read written lives f (inl e) = inl (reads_met slice moved a b c t n lives (f e))
ending_why duty slice moved a b c t n has_ended read written lives f (inr w) = inr (record { over = w.over; no_more = w.no_more })

ended_cause : (slice : ℕ) (moved : Bool) (a b c : Scene) (t : IsTurn slice moved b c) (duty : Duty) (l : Link) (x : IsAnswered duty a b l) (s : SessionView) (k : Transferred t.treats.marks c.bound b.report b.host t.host.steps c.report c.host l) → Lives a b → find b.host.slots l.id ≡ Some s → x.served.lost ++ k.lost ≡ [] → Cause t.treats.marks b.report b.host t.host.steps c.report c.host l
    → HasEnded duty a c l.number (x.served.read ++ own l.id t.host.steps) (x.served.lost ++ k.lost) (x.served.written ++ taken l.id t.host.steps)
ended_cause slice moved a b c t duty l x s k lives e g (inl failed) = inl (rises_raised _ _ _ (lives.all l.number).failed failed)
ended_cause slice moved a b c t duty l x s k lives e g (inr (inl starved)) =
    let first : x.served.lost ≡ [] = some_lost x.served.lost k.lost g in
    absurd (k.fed starved (rw first at g))
ended_cause slice moved a b c t duty l x s k lives e g (inr (inr f)) =
    let there : Found (find f.moment.slots l.id) = found (find f.moment.slots l.id) (stays_open b.host f.moment l.id f.earlier f.run f.first (some_of (find b.host.slots l.id) s e)) in
    let left : EndsFrom duty.owes (x.served.read ++ own l.id f.earlier) (x.served.written ++ taken l.id f.earlier) (Some there.session) =
    rw there.is at (then_ends duty.owes b.host f.moment l.id f.earlier x.served.read x.served.written (find b.host.slots l.id) refl x.fits.opened f.run x.served.ends) in
    let over : OverFrom duty.ends (x.served.read ++ own l.id f.earlier) (Some there.session) =
    rw there.is at (over_then duty.ends b.host f.moment l.id f.earlier x.served.read (find b.host.slots l.id) refl x.fits.opened f.run x.over) in
    let end : Ending duty.owes duty.ends l.id x.served.read x.served.written t.host.steps f.has_ended = ending duty.owes duty.ends t.treats.marks b.host c.host t.host.steps l x.served.read x.served.written f there.session there.is left over in
    inr (inr (record { none_lost = g; all = end.all; why = ending_why duty slice moved a b c t l.number f.has_ended (x.served.read ++ own l.id t.host.steps) (x.served.written ++ taken l.id t.host.steps) lives f.marked end.why }))

ended_ends : (slice : ℕ) (moved : Bool) (a b c : Scene) (t : IsTurn slice moved b c) (duty : Duty) (l : Link) (x : IsAnswered duty a b l) (s : SessionView) (k : Transferred t.treats.marks c.bound b.report b.host t.host.steps c.report c.host l) → Lives a b → find b.host.slots l.id ≡ Some s → x.served.lost ++ k.lost ≡ [] → find c.host.slots l.id ≡ None → Survives b.report t.host.steps c.report l ⊎ IsShutDown t.treats.marks c.bound b.report b.host t.host.steps c.report c.host l
    → HasEnded duty a c l.number (x.served.read ++ own l.id t.host.steps) (x.served.lost ++ k.lost) (x.served.written ++ taken l.id t.host.steps)
ended_ends slice moved a b c t duty l x s k lives e g none (inl spared) =
    absurd (not_none (find c.host.slots l.id) (stays_open b.host c.host l.id t.host.steps t.host.chain spared.closed (some_of (find b.host.slots l.id) s e)) none)
ended_ends slice moved a b c t duty l x s k lives e g none (inr d) = ended_cause slice moved a b c t duty l x s k lives e g d.cause

ended_on : (slice : ℕ) (moved : Bool) (a b c : Scene) (t : IsTurn slice moved b c) (duty : Duty) (l : Link) (x : IsAnswered duty a b l) (k : Transferred t.treats.marks c.bound b.report b.host t.host.steps c.report c.host l) (found_ : Option SessionView) → Lives a b → find b.host.slots l.id ≡ found_ → x.served.lost ++ k.lost ≡ [] → find c.host.slots l.id ≡ None
    → HasEnded duty a c l.number (x.served.read ++ own l.id t.host.steps) (x.served.lost ++ k.lost) (x.served.written ++ taken l.id t.host.steps)
ended_on slice moved a b c t duty l x k None lives e g none =
    let out : IsOut l.id t.host.steps c.host = gone b.host c.host l.id t.host.steps e x.fits.opened t.host.chain in
    ended_before duty a b c l.number x.served.read x.served.lost x.served.written (own l.id t.host.steps) k.lost (taken l.id t.host.steps) t.treats.all out.no_own out.no_taken g (x.ended e)
ended_on slice moved a b c t duty l x k (Some s) lives e g none = ended_ends slice moved a b c t duty l x s k lives e g none k.ends

answered_on : (slice : ℕ) (moved : Bool) (a b c : Scene) (t : IsTurn slice moved b c) (duty : Duty) (l : Link) → Lives a b → IsAmong t.meets.met l → IsAnswered duty a b l → IsAnswered duty a c l
answered_on slice moved a b c t duty l lives among x =
    let k : Transferred t.treats.marks c.bound b.report b.host t.host.steps c.report c.host l = t.treats.carried l among in
    answered duty a c l
    (served_on duty.owes t.treats.marks c.bound a.report b.report c.report b.host c.host t.host.steps l x.fits.opened t.host.chain x.served k)
    (over_then duty.ends b.host c.host l.id t.host.steps x.served.read (find b.host.slots l.id) refl x.fits.opened t.host.chain x.over)
    (λ none. ended_or duty a c l.number _ _ _ (λ g. ended_on slice moved a b c t duty l x k (find b.host.slots l.id) lives refl g none))
    (kept_met slice moved a b c t l lives (met_below slice moved b c t l x.fits) (t.treats.gone l among))
    (fits_kept slice moved b c t l x.fits)

served_met : (slice : ℕ) (moved : Bool) (a b c : Scene) (t : IsTurn slice moved b c) (l : Link) → Lives a b → IsAmong t.meets.met l → IsServed a b l → IsServed a c l
served_met slice moved a b c t l lives among (inl s) = inl (s.0, answered_on slice moved a b c t (duty_of (find a.host.slots l.id)) l lives among s.1)
served_met slice moved a b c t l lives among (inr s) = inr (s.0, answered_on slice moved a b c t (new_duty a.host.setup) l lives among s.1)

-- the connection of a held link was served under that link
held_life : (a b : Scene) (l : Link) → IsAmong (links_of b.held) l → IsUntouched a b l.number ⊎ IsAccountedFor a b l.number → IsServed a b l
held_life a b l old (inl u) = absurd (each_apart (links_of b.held) l.number l u.unheld old refl)
held_life a b l old (inr (inl w)) = absurd (each_apart (links_of b.held) l.number l w.unheld old refl)
held_life a b l old (inr (inr s)) =
    let other : Link = record { number = l.number; id = s.0 } in
    let same : l.id ≡ s.0 = (tied_of (links_of b.held) other l (served_fits a b other s.1).tied old).by_number refl in
    subst (λ (x : SessionId). IsServed a b (record { number = l.number; id = x })) (sym same) s.1

-- ---- a connection that was accepted

opened_all : (slice : ℕ) (moved : Bool) (b c : Scene) (t : IsTurn slice moved b c) (l : Link) → Joins b.bound c.bound t.meets.accepted b.host.slots.next c.host.slots.next t.host.parts.admissions l → is_opened l.id t.host.steps ≡ true
opened_all slice moved b c t l new =
    let rest : List Step = works slice (pending_ids t.host.start) t.host.round.outcomes ++ (t.host.parts.outputs ++ t.host.parts.ends) in
    rw t.host.steps_are (opened_left l.id (t.host.parts.admissions ++ t.host.parts.inputs) rest (opened_left l.id t.host.parts.admissions t.host.parts.inputs new.opened))

-- the session was opened before it was closed
opened_earlier : (slice : ℕ) (moved : Bool) (b c : Scene) (t : IsTurn slice moved b c) (l : Link) → Joins b.bound c.bound t.meets.accepted b.host.slots.next c.host.slots.next t.host.parts.admissions l → (f : Finished t.treats.marks b.host t.host.steps c.host l) → is_opened l.id f.earlier ≡ true
opened_earlier slice moved b c t l new f =
    let rest : List Step = works slice (pending_ids t.host.start) t.host.round.outcomes ++ (t.host.parts.outputs ++ t.host.parts.ends) in
    let last : Step = record { event = Close l.id; outcome = f.outcome } in
    let same : t.host.parts.admissions ++ (t.host.parts.inputs ++ rest) ≡ f.earlier ++ (last ∷ f.later) = sym (append_assoc t.host.parts.admissions t.host.parts.inputs rest) ∙ (sym t.host.steps_are ∙ f.steps_are) in
    opened_before l.id t.host.parts.admissions (t.host.parts.inputs ++ rest) f.earlier f.later last same new.unclosed (is_same_id-refl l.id) new.opened

new_cause : (slice : ℕ) (moved : Bool) (a b c : Scene) (t : IsTurn slice moved b c) (l : Link) (k : Transferred t.treats.marks c.bound b.report b.host t.host.steps c.report c.host l) → Lives a b → Joins b.bound c.bound t.meets.accepted b.host.slots.next c.host.slots.next t.host.parts.admissions l → k.lost ≡ [] → Cause t.treats.marks b.report b.host t.host.steps c.report c.host l
    → HasEnded (new_duty a.host.setup) a c l.number (own l.id t.host.steps) k.lost (taken l.id t.host.steps)
new_cause slice moved a b c t l k lives new g (inl failed) = inl (rises_raised _ _ _ (lives.all l.number).failed failed)
new_cause slice moved a b c t l k lives new g (inr (inl starved)) = absurd (k.fed starved g)
new_cause slice moved a b c t l k lives new g (inr (inr f)) =
    let early : is_opened l.id f.earlier ≡ true = opened_earlier slice moved b c t l new f in
    let there : Found (find f.moment.slots l.id) = found (find f.moment.slots l.id) (opened_stays b.host f.moment l.id f.earlier f.run f.first early) in
    let left : EndsFrom (replies_under a.host.setup) (own l.id f.earlier) (taken l.id f.earlier) (Some there.session) = rw there.is at (opened_under a.host.setup b.host f.moment l.id f.earlier lives.setup early f.run) in
    let over : OverFrom (is_over_after_under a.host.setup) (own l.id f.earlier) (Some there.session) = rw there.is at (over_under a.host.setup b.host f.moment l.id f.earlier lives.setup early f.run) in
    let end : Ending (replies_under a.host.setup) (is_over_after_under a.host.setup) l.id [] [] t.host.steps f.has_ended = ending (replies_under a.host.setup) (is_over_after_under a.host.setup) t.treats.marks b.host c.host t.host.steps l [] [] f there.session there.is left over in
    inr (inr (record { none_lost = g; all = end.all; why = ending_why (new_duty a.host.setup) slice moved a b c t l.number f.has_ended (own l.id t.host.steps) (taken l.id t.host.steps) lives f.marked end.why }))

new_ends : (slice : ℕ) (moved : Bool) (a b c : Scene) (t : IsTurn slice moved b c) (l : Link) (k : Transferred t.treats.marks c.bound b.report b.host t.host.steps c.report c.host l) → Lives a b → Joins b.bound c.bound t.meets.accepted b.host.slots.next c.host.slots.next t.host.parts.admissions l → k.lost ≡ [] → find c.host.slots l.id ≡ None → Survives b.report t.host.steps c.report l ⊎ IsShutDown t.treats.marks c.bound b.report b.host t.host.steps c.report c.host l
    → HasEnded (new_duty a.host.setup) a c l.number (own l.id t.host.steps) k.lost (taken l.id t.host.steps)
new_ends slice moved a b c t l k lives new g none (inl spared) =
    absurd (not_none (find c.host.slots l.id) (opened_stays b.host c.host l.id t.host.steps t.host.chain spared.closed (opened_all slice moved b c t l new)) none)
new_ends slice moved a b c t l k lives new g none (inr d) = new_cause slice moved a b c t l k lives new g d.cause

new_answered : (slice : ℕ) (moved : Bool) (a b c : Scene) (t : IsTurn slice moved b c) (l : Link) → Lives a b → IsAmong t.meets.met l → Joins b.bound c.bound t.meets.accepted b.host.slots.next c.host.slots.next t.host.parts.admissions l → KeepsConnection a.report b.report l.number → IsAnswered (new_duty a.host.setup) a c l
new_answered slice moved a b c t l lives among new kept_ =
    let k : Transferred t.treats.marks c.bound b.report b.host t.host.steps c.report c.host l = t.treats.carried l among in
    answered (new_duty a.host.setup) a c l
    (record {
      read = own l.id t.host.steps;
      lost = k.lost;
      written = taken l.id t.host.steps;
      consumed = Keeps-Consumes _ _ _ (own l.id t.host.steps ++ k.lost) kept_.unread k.consumed;
      given = Keeps-Appends _ _ _ (own l.id t.host.steps ++ k.lost) kept_.given k.given;
      appended = Keeps-Appends _ _ _ (taken l.id t.host.steps) kept_.written k.appended;
      ends = opened_under a.host.setup b.host c.host l.id t.host.steps lives.setup (opened_all slice moved b c t l new) t.host.chain;
      whole = λ some. not_lost c.host l.id k.lost k.whole some;
    })
    (over_under a.host.setup b.host c.host l.id t.host.steps lives.setup (opened_all slice moved b c t l new) t.host.chain)
    (λ none. ended_or (new_duty a.host.setup) a c l.number _ _ _ (λ g. new_ends slice moved a b c t l k lives new g none k.ends))
    (kept_met slice moved a b c t l lives new.most (t.treats.gone l among))
    (fits_new slice moved b c t l among new)

new_life : (slice : ℕ) (moved : Bool) (a b c : Scene) (t : IsTurn slice moved b c) (l : Link) → Lives a b → IsAmong t.meets.met l → Joins b.bound c.bound t.meets.accepted b.host.slots.next c.host.slots.next t.host.parts.admissions l → IsUntouched a b l.number ⊎ IsAccountedFor a b l.number → IsServed a c l
new_life slice moved a b c t l lives among new (inl u) =
    let le : a.bound ≤ b.bound = lives.rises in
    let v : b.bound ≤ l.number = new.least in
    inr (omega arith, new_answered slice moved a b c t l lives among new u.kept)
new_life slice moved a b c t l lives among new (inr (inl w)) =
    let u : l.number < b.bound = w.most in
    let v : b.bound ≤ l.number = new.least in
    absurd (omega arith)
new_life slice moved a b c t l lives among new (inr (inr x)) =
    let u : l.number < b.bound = (served_fits a b (record { number = l.number; id = x.0 }) x.1).number in
    let v : b.bound ≤ l.number = new.least in
    absurd (omega arith)

life_met : (slice : ℕ) (moved : Bool) (a b c : Scene) (t : IsTurn slice moved b c) (l : Link) → Lives a b → IsAmong t.meets.met l → IsAmong (links_of b.held) l ⊎ Joins b.bound c.bound t.meets.accepted b.host.slots.next c.host.slots.next t.host.parts.admissions l → IsUntouched a b l.number ⊎ IsAccountedFor a b l.number → IsServed a c l
life_met slice moved a b c t l lives among (inl old) life = served_met slice moved a b c t l lives among (held_life a b l old life)
life_met slice moved a b c t l lives among (inr new) life = new_life slice moved a b c t l lives among new life

pub lives_turn : (slice : ℕ) (moved : Bool) (a b c : Scene) → Lives a b → IsTurn slice moved b c → Lives a c
lives_turn slice moved a b c lives t =
    let u : a.bound ≤ b.bound = lives.rises in
    let v : b.bound ≤ c.bound = t.meets.rises in
    record {
      setup = keeps_setup b.host c.host t.host.steps t.host.chain ∙ lives.setup;
      rises = omega arith;
      all = moves_then a.report b.report c.report lives.all t.treats.all;
      marked = λ n m. reads_met slice moved a b c t n lives (t.treats.ended n m);
      unmarked = λ n m. absurd (t.treats.unshut n m);
      each = λ n. elim (find_number t.meets.met n) [
        | inl apart ↦ life_apart slice moved a b c t n u apart (t.treats.others n apart) (lives.each n)
        | inr there ↦ inr (account_of a c n there.link there.same (life_met slice moved a b c t there.link lives there.among (t.meets.are there.link there.among) (lives.each there.link.number)))
      ];
      held = λ l among. life_met slice moved a b c t l lives (t.treats.left l among) (t.meets.are l (t.treats.left l among)) (lives.each l.number);
    }

-- a connection of this number was accepted
abbrev pub IsAcceptedIn : List Accepted → ℕ → Type 0
IsAcceptedIn items number =
    (outcome : Outcome) × IsAmong items (record { number = number; outcome = outcome })

-- an accounted connection stays accounted for, and each accepted in the turn becomes so
accounted_turn : (slice : ℕ) (moved : Bool) (a b c : Scene) (t : IsTurn slice moved b c) (n : ℕ) → Lives a b → IsAccountedFor a b n ⊎ IsAcceptedIn t.meets.accepted n → IsAccountedFor a c n
accounted_turn slice moved a b c t n lives h = elim (find_number t.meets.met n) [
  | inl apart ↦ elim h [
    | inl was ↦ accounted_apart slice moved a b c t n apart (t.treats.others n apart) was
    | inr now ↦ elim (t.meets.accounted (record { number = n; outcome = now.0 }) now.1) [
      | inl session ↦ absurd (each_apart t.meets.met n session.0 apart session.1.0 session.1.1.0)
      | inr away ↦ rejected_now slice moved a b c t n lives.rises apart away (lives.each n)
    ]
  ]
  | inr there ↦ account_of a c n there.link there.same (life_met slice moved a b c t there.link lives there.among (t.meets.are there.link there.among) (lives.each there.link.number))
]

-- ---- a wait

ended_wait : (duty : Duty) (a b c : Scene) (n : ℕ) (read lost written : List ℕ) → AllMove b.report c.report → HasEnded duty a b n read lost written → HasEnded duty a c n read lost written
ended_wait duty a b c n read lost written move (inl failed) = inl (raised_rises _ _ _ failed (move n).failed)
ended_wait duty a b c n read lost written move (inr (inl some)) = inr (inl some)
ended_wait duty a b c n read lost written move (inr (inr k)) =
    inr (inr (record { none_lost = k.none_lost; all = k.all; why = elim k.why [ inl was ↦ inl (reads_on a b c n move was) | inr w ↦ inr w ] }))

kept_wait : {moved : Bool} {answer : Result (Unit {0}) WireFault} (a b c : Scene) (l : Link) → IsWait moved answer b c → IsHeldOrGone a b l → IsHeldOrGone a c l
kept_wait a b c l w (inl held) = inl (rw w.held held)
kept_wait a b c l w (inr (inl marked)) = inr (inl marked)
kept_wait a b c l w (inr (inr g)) = inr (inr (record { shut = raised_rises _ _ _ g.shut (stays_rise _ _ (w.report l.number).shut); closed = rw w.host g.closed }))

answered_wait : {moved : Bool} {answer : Result (Unit {0}) WireFault} (a b c : Scene) (duty : Duty) (l : Link) → IsWait moved answer b c → IsAnswered duty a b l → IsAnswered duty a c l
answered_wait a b c duty l w x =
    let s : Served duty.owes a.report b.report l.number (find b.host.slots l.id) = x.served in
    let k : KeepsConnection b.report c.report l.number = w.report l.number in
    answered duty a c l
    (record {
      read = s.read;
      lost = s.lost;
      written = s.written;
      consumed = Consumes-kept _ _ _ (s.read ++ s.lost) s.consumed k.unread;
      given = Appends-kept _ _ _ (s.read ++ s.lost) s.given k.given;
      appended = Appends-kept _ _ _ s.written s.appended k.written;
      ends = rw w.host s.ends;
      whole = rw w.host s.whole;
    })
    (rw w.host x.over)
    (λ none. ended_wait duty a b c l.number s.read s.lost s.written (all_kept b.report c.report w.report) (x.ended (rw w.host at none)))
    (kept_wait a b c l w x.kept)
    (rw (w.held, w.bound, w.host) x.fits)

served_wait : {moved : Bool} {answer : Result (Unit {0}) WireFault} (a b c : Scene) (l : Link) → IsWait moved answer b c → IsServed a b l → IsServed a c l
served_wait a b c l w (inl s) = inl (s.0, answered_wait a b c (duty_of (find a.host.slots l.id)) l w s.1)
served_wait a b c l w (inr s) = inr (s.0, answered_wait a b c (new_duty a.host.setup) l w s.1)

accounted_wait : {moved : Bool} {answer : Result (Unit {0}) WireFault} (a b c : Scene) (n : ℕ) → IsWait moved answer b c → IsAccountedFor a b n → IsAccountedFor a c n
accounted_wait a b c n w (inl x) =
    let k : KeepsConnection b.report c.report n = w.report n in
    inl (record {
      least = x.least;
      most = rw w.bound x.most;
      fault = x.fault;
      unread = Keeps-trans _ _ _ x.unread k.unread;
      given = Keeps-trans _ _ _ x.given k.given;
      bytes = x.bytes;
      prefix = x.prefix;
      appended = Appends-kept _ _ _ x.bytes x.appended k.written;
      shut = raised_rises _ _ _ x.shut (stays_rise _ _ k.shut);
      unheld = rw w.held x.unheld;
    })
accounted_wait a b c n w (inr s) = inr (s.0, served_wait a b c (record { number = n; id = s.0 }) w s.1)

life_wait : {moved : Bool} {answer : Result (Unit {0}) WireFault} (a b c : Scene) (n : ℕ) → IsWait moved answer b c → IsUntouched a b n ⊎ IsAccountedFor a b n → IsUntouched a c n ⊎ IsAccountedFor a c n
life_wait a b c n w (inl u) = inl (record { kept = kept_then a.report b.report c.report n u.kept (w.report n); unheld = rw w.held u.unheld })
life_wait a b c n w (inr h) = inr (accounted_wait a b c n w h)

pub lives_wait : {moved : Bool} {answer : Result (Unit {0}) WireFault} (a b c : Scene) → Lives a b → IsWait moved answer b c → Lives a c
lives_wait a b c lives w = record {
  setup = ap (λ (h : HostState). h.setup) w.host ∙ lives.setup;
  rises = rw w.bound lives.rises;
  all = moves_then a.report b.report c.report lives.all (all_kept b.report c.report w.report);
  marked = λ n m. reads_on a b c n (all_kept b.report c.report w.report) (lives.marked n (rw w.held at m));
  unmarked = λ n m. lives.unmarked n (rw w.held at m);
  each = λ n. life_wait a b c n w (lives.each n);
  held = λ l among. served_wait a b c l w (lives.held l (rw w.held at among));
}

-- ---- any number of turns

pub record LivesOn (before after : Scene) : Type 0 where
  pub lives : Lives before after
  pub fits : Fits (links_of after.held) after.bound after.host

pub lives_turns : (slice n : ℕ) (a b : Scene) → Fits (links_of a.held) a.bound a.host → AreTurns slice n a b → LivesOn a b
lives_turns slice zero a b fit e = rw e (record { lives = lives_start a fit; fits = fit })
lives_turns slice (suc n) a b fit p =
    let so_far : LivesOn a p.0 = lives_turns slice n a p.0 fit p.1 in
    let next : IsTurnAndWait slice p.0 b = p.2 in
    record {
      lives = lives_wait a next.middle b (lives_turn slice next.turn.moved a p.0 next.middle so_far.lives next.turn.turned.asked.turn) next.wait;
      fits = rw (next.wait.held, next.wait.bound, next.wait.host) next.turn.fits;
    }

-- ---- none that was accepted is forgotten

pub accounted_turns : (slice n : ℕ) (a b : Scene) → Fits (links_of a.held) a.bound a.host → (turns : AreTurns slice n a b) → (number : ℕ) → WasAccepted (past_of slice n a b turns) number → IsAccountedFor a b number
accounted_turns slice zero a b fit p number h = absurd h
accounted_turns slice (suc n) a b fit p number h =
    let lives = (lives_turns slice n a p.0 fit p.1).lives in
    let before : IsAccountedFor a p.0 number ⊎ IsAcceptedIn p.2.turn.turned.asked.turn.meets.accepted number =
    elim h [ inl was ↦ inl (accounted_turns slice n a p.0 fit p.1 number was) | inr now ↦ inr now ] in
    accounted_wait a p.2.middle b number p.2.wait (accounted_turn slice p.2.turn.moved a p.0 p.2.middle p.2.turn.turned.asked.turn number lives before)

pub done_by : (slice n : ℕ) (a b : Scene) → Fits (links_of a.held) a.bound a.host → (turns : AreTurns slice n a b) → AnswersInTime slice n a (past_of slice n a b turns) → IsDone slice n a b
done_by slice n a b fit turns time = record { turns = turns; in_time = time; accounted = accounted_turns slice n a b fit turns }

-- pending sessions are answered in time, for any number of turns
abbrev pub AnswersFrom : ℕ → Scene → Type 0
AnswersFrom slice a = (n : ℕ) (b : Scene) (turns : AreTurns slice n a b) → AnswersInTime slice n a (past_of slice n a b turns)

stopped_one : (slice n : ℕ) (a b : Scene) (fault : WireFault) → Fits (links_of a.held) a.bound a.host → AnswersFrom slice a → Stops slice n a b fault → IsStopped slice n a b fault
stopped_one slice n a b fault fit time s = record {
  count = s.count;
  few = s.few;
  between = s.between;
  turns = s.turns;
  last = s.last;
  turn = s.turn;
  wait = s.wait;
  cause = s.cause;
  in_time = time s.count s.between s.turns;
  accounted = λ number h.
      let before : IsAccountedFor a s.between number ⊎ IsAcceptedIn s.turn.turned.asked.turn.meets.accepted number =
      elim h [ inl was ↦ inl (accounted_turns slice s.count a s.between fit s.turns number was) | inr now ↦ inr now ] in
      accounted_wait a s.last b number s.wait (accounted_turn slice s.turn.moved a s.between s.last s.turn.turned.asked.turn number (lives_turns slice s.count a s.between fit s.turns).lives before);
}

pub stopped_by : (slice n : ℕ) (a b : Scene) (result : Result (Unit {0}) WireFault) → Fits (links_of a.held) a.bound a.host → AnswersFrom slice a → IfErr result (λ fault. Stops slice n a b fault) → IfErr result (λ fault. IsStopped slice n a b fault)
stopped_by slice n a b (Ok value) fit time s = tt
stopped_by slice n a b (Err fault) fit time s = stopped_one slice n a b fault fit time s
