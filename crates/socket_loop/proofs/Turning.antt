-- A turn, put together from its parts.
use Rattle.std.proofs.Common.{◌≡◌, ◌⊎◌, ℕ, ◌<◌, ◌≤◌, Bool, true, false, List, [], ◌∷◌, ◌++◌, Option, Some, None, refl, sym, arith, inl, inr, length}
use Rattle.std.specs.Prelude.{filter, not, ◌||◌, IsSome}
use Rattle.std.proofs.lemmas.Bool.{cond_both}
use Rattle.std.proofs.KnownBytes.{Appends-kept, Keeps-trans}
use Rattle.session_slots.specs.declared.id.SessionId.{SessionId}
use Rattle.session_slots.specs.Slots.{find}
use Rattle.usi_session.specs.Due.{SessionView, due}
use Rattle.usi_session.specs.WholeStream.{replies_under}
use Rattle.host_core.specs.Steps.{HostState}
use Rattle.host_core.specs.Events.{Event}
use Rattle.host_core.specs.Made.{Step, own, taken, is_opened}
use Rattle.host_core.specs.Runs.{IsRun}
use Rattle.host_core.specs.Rounds.{CountsRound, IsRound, works, pending_ids}
use Rattle.host_core.specs.Headline.{EndsFrom}
use Rattle.host_core.proofs.OneSession.{kept, opened_under}
use Rattle.socket_loop.specs.declared.connection.Link.{Link}
use Rattle.socket_loop.specs.declared.connection.Connection.{Connection}
use Rattle.transport.specs.Report.{Report, KeepsConnection, IsRaised}
use Rattle.socket_loop.specs.Links.{IsAmong, IsNotAmong, IsMarked, IsRising, links_of, reads_ended, unshut_of, was_shut, Each, Ties}
use Rattle.socket_loop.specs.Parts.{IsGone, closes, Transferred, IsInput, IsOutput, IsEnd, Grows, some_step}
use Rattle.transport.specs.Moves.{IsEmptied, AllMove}
use Rattle.transport.specs.Asked.{Call}
use Rattle.socket_loop.specs.Calls.{AsksAll, AsksTurn, Turns, reads_of, writes_of, ends_of, AsksTo}
use Rattle.socket_loop.specs.Turns.{FitsOne, Fits, HasSession, Joins, IsRejected, IsTurn, Served, ServesNew, StirsHeld, any_pending}
use Rattle.socket_loop.specs.Scenes.{Scene}
use Rattle.socket_loop.specs.declared.tally.Tally.{Tally}
use Rattle.socket_loop.specs.declared.tally.Arrivals.{Arrivals}
use Rattle.socket_loop.specs.Tallies.{IsTally}
use Rattle.transport.proofs.Reported.{kept_then, moves_then, emptied_move, raised_rises, rises_then, stays_rise}
use Rattle.socket_loop.proofs.Runs.{run-append, next_rises, opened_left, feed_out_of_memory-admissions, closes-admissions, alone_then}
use Rattle.socket_loop.proofs.Parts.{carried_nothing, carried_then, carries_then, carries_round}
use Rattle.socket_loop.proofs.Marks.{marks_none, marks_then, marked_filter, remove_shut, KeepsAllMarks}
use Rattle.socket_loop.proofs.Quiet.{either_false}
use Rattle.socket_loop.proofs.Shutting.{ShutsAll}
use Rattle.socket_loop.specs.Past.{Accepted}
use Rattle.socket_loop.specs.Accepting.{Accepts, AddsNoMark, AllAccepted, IsNew}
use Rattle.socket_loop.specs.Visits.{Carries, CarriesBy, IsQuiet}

away_kept : (f t : ℕ) (x : List Accepted) (a b c : Report) (n : ℕ) → IsRejected f t x a b n → KeepsConnection b c n → IsRejected f t x a c n
away_kept f t x a b c n w q = record {
  least = w.least;
  most = w.most;
  fault = w.fault;
  answered = w.answered;
  unread = Keeps-trans _ _ _ w.unread q.unread;
  given = Keeps-trans _ _ _ w.given q.given;
  bytes = w.bytes;
  prefix = w.prefix;
  appended = Appends-kept _ _ _ _ w.appended q.written;
  shut = raised_rises _ _ _ w.shut (stays_rise _ _ q.shut);
  failed = rises_then _ _ _ w.failed (stays_rise _ _ q.failed);
}

each_kept : (f t : ℕ) (x : List Accepted) (a b c : Report) (n : ℕ) → KeepsConnection a b n ⊎ IsRejected f t x a b n → KeepsConnection b c n → KeepsConnection a c n ⊎ IsRejected f t x a c n
each_kept f t x a b c n (inl k) q = inl (kept_then a b c n k q)
each_kept f t x a b c n (inr w) q = inr (away_kept f t x a b c n w q)

met_keeps : (ls : List Link) (f t : ℕ) (x : List Accepted) (g : ℕ) (a b : Report) (h : HostState) (s : List Step) (l : Link) → Fits ls f h → ((n : ℕ) → n < f → KeepsConnection a b n) → IsAmong ls l ⊎ IsNew f t x g a b s l → KeepsConnection a b l.number
met_keeps ls f t x g a b h s l fit k (inl old) = k l.number (fit l old).number
met_keeps ls f t x g a b h s l fit k (inr new) = new.kept

-- an accepted connection with a session joins
met_are : (ls : List Link) (f t : ℕ) (x : List Accepted) (g last : ℕ) (a b : Report) (s : List Step) (l : Link) → l.id.generation < last → some_step (closes l.id) s ≡ false → IsAmong ls l ⊎ IsNew f t x g a b s l → IsAmong ls l ⊎ Joins f t x g last s l
met_are ls f t x g last a b s l lt unclosed (inl old) = inl old
met_are ls f t x g last a b s l lt unclosed (inr new) = inr (record { least = new.least; most = new.most; answered = new.answered; opened = new.opened; unclosed = unclosed; fresh = new.fresh; below = lt })

-- a connection no longer held was shut, or was marked as shut before
went : (t : ℕ) (a e : Report) (held last : List Connection) (m : HostState) (l : Link) → KeepsAllMarks t a held e last → (IsMarked was_shut last l.number → IsMarked was_shut held l.number ⊎ IsGone m l.id) → IsAmong (links_of (filter (λ x. not x.is_shut) last)) l ⊎ IsMarked was_shut last l.number
    → IsAmong (links_of (filter (λ x. not x.is_shut) last)) l ⊎ (IsMarked was_shut held l.number ⊎ ((l.number < t → IsRaised (a.is_shut l.number) (e.is_shut l.number)) × IsGone m l.id))
went t a e held last m l marks shutting (inl stays) = inl stays
went t a e held last m l marks shutting (inr shut) = inr (elim ((marks l.number).shut shut) [
  | inl was ↦ inl was
  | inr report ↦ elim (shutting shut) [ inl was ↦ inl was | inr closed ↦ inr ((report, closed)) ]
])

-- no connection left is marked as shut
none_shut : (xs : List Connection) (n : ℕ) → IsMarked was_shut (filter (λ x. not x.is_shut) xs) n → ⊥
none_shut [] n m = m
none_shut (x ∷ xs) n m =
    cond_both (not x.is_shut) (x ∷ filter (λ y. not y.is_shut) xs) (filter (λ y. not y.is_shut) xs) (λ (zs : List Connection). IsMarked was_shut zs n → ⊥)
    (λ yes o. elim o [ inl here ↦ not_both x.is_shut yes here.1 | inr rest ↦ none_shut xs n rest ])
    (λ no o. none_shut xs n o) m
  where
    not_both : (b : Bool) → not b ≡ true → b ≡ true → ⊥
    not_both true e f = absurd (cc)
    not_both false e f = absurd (cc)

among_filtered : (p : Connection → Bool) (xs : List Connection) (x : Link) → IsAmong (links_of (filter p xs)) x → IsAmong (links_of xs) x
among_filtered p [] x n = n
among_filtered p (y ∷ ys) x n =
    cond_both (p y) (y ∷ filter p ys) (filter p ys) (λ (zs : List Connection). IsAmong (links_of zs) x → IsAmong (links_of (y ∷ ys)) x)
    (λ yes o. elim o [ inl same_ ↦ inl same_ | inr rest ↦ inr (among_filtered p ys x rest) ])
    (λ no o. inr (among_filtered p ys x o)) n

-- ---- one connection

pub some_none : (found : Option SessionView) (lost : List ℕ) → found ≡ None → IsSome found → lost ≡ []
some_none None lost e some = absurd (cc)
some_none (Some t) lost e some = absurd (cc)

pub not_lost : (host : HostState) (id : SessionId) (lost : List ℕ) {P : Type 0} → (lost ≡ []) ⊎ (IsGone host id × P) → IsSome (find host.slots id) → lost ≡ []
not_lost host id lost (inl e) some = e
not_lost host id lost (inr g) some = some_none (find host.slots id) lost g.0.none some

served : (owes : List ℕ → List ℕ) (marks : List Connection) (bound : ℕ) (a b : Report) (h m : HostState) (steps : List Step) (l : Link) → Transferred marks bound a h steps b m l → EndsFrom owes (own l.id steps) (taken l.id steps) (find m.slots l.id) → Served owes a b l.number (find m.slots l.id)
served owes marks bound a b h m steps l c ends =
    record { read = own l.id steps; lost = c.lost; written = taken l.id steps; consumed = c.consumed; given = c.given; appended = c.appended; ends = ends; whole = λ some. not_lost m l.id c.lost c.whole some }

starts_one : (ls : List Link) (f t : ℕ) (x : List Accepted) (g : ℕ) (marks : List Connection) (a b : Report) (h m : HostState) (first steps : List Step) (l : Link) → IsRun h steps m → Transferred marks t a h steps b m l → ((is_opened l.id first ≡ true) → is_opened l.id steps ≡ true) → IsAmong ls l ⊎ Joins f t x g m.slots.next first l → IsAmong ls l ⊎ Served (replies_under h.setup) a b l.number (find m.slots l.id)
starts_one ls f t x g marks a b h m first steps l r c up (inl old) = inl old
starts_one ls f t x g marks a b h m first steps l r c up (inr new) = inr (served (replies_under h.setup) marks t a b h m steps l c (opened_under h.setup h m l.id steps refl (up new.opened) r))

-- ---- all parts

-- accept, read, work, write, shut
turned : (slice : ℕ) (p : Arrivals) (q r s w : Bool) (held accepted_ read_ written_ last : List Connection) (f t : ℕ) (a b c d e : Report) (h i j k l m : HostState) (worked refused : ℕ) (calls asked_calls last_calls : Option (List Call)) (u v : ℕ) → Fits (links_of held) f h
    → AllAccepted p (links_of held) f a h (links_of accepted_) t b i calls asked_calls → ((n : ℕ) → AddsNoMark held accepted_ n)
    → CarriesBy IsInput written_ t (links_of accepted_) b i c j → KeepsAllMarks t b accepted_ c read_
    → IsRound j slice (pending_ids j) worked refused k
    → CarriesBy IsOutput written_ t (links_of accepted_) c k d l → KeepsAllMarks t c read_ d written_
    → CarriesBy IsEnd written_ t (links_of accepted_) d l e m → KeepsAllMarks t d written_ e last → ((n : ℕ) → IsMarked reads_ended last n → IsMarked reads_ended written_ n)
    → links_of last ≡ links_of accepted_ → ShutsAll held accepted_ last m → IsTurn slice ((((p.moved || q) || r) || s) || w)
    (record { held = held; bound = f; report = a; asked = calls; failed = u; host = h })
    (record { held = filter (λ x. not x.is_shut) last; bound = t; report = e; asked = last_calls; failed = v; host = m })
turned slice p q r s w held accepted_ read_ written_ last f t a b c d e h i j k l m worked refused calls asked_calls last_calls u v fit some adds reads reads_mark round writes writes_mark shuts shuts_mark stay_ended same shutting =
    let ms : List Link = links_of accepted_ in
    let accepts : Accepts (links_of held) f a h ms t b i = some.accepts in
    let first : List Step = accepts.host.steps ++ reads.steps in
    let second : List Step = writes.steps ++ shuts.steps in
    let middle : List Step = works slice (pending_ids j) round.outcomes in
    let late : Carries written_ t ms c j (middle ++ second) e m =
    carries_then written_ t ms middle second c c e j k m (carries_round written_ t ms c j k slice (pending_ids j) worked refused round) (carries_then written_ t ms writes.steps shuts.steps c d e k l m writes.carries shuts.carries) in
    let to_c : AllMove a c = moves_then a b c accepts.all reads.carries.all in
    let to_d : AllMove a d = moves_then a c d to_c writes.carries.all in
    let marks_c : KeepsAllMarks t a held c read_ = marks_then t a b c held accepted_ read_ accepts.all reads.carries.all (marks_none t a b held accepted_ adds) reads_mark in
    let marks_d : KeepsAllMarks t a held d written_ = marks_then t a c d held read_ written_ to_c writes.carries.all marks_c writes_mark in
    let marks_e : KeepsAllMarks t a held e last = marks_then t a d e held written_ last to_d shuts.carries.all marks_d shuts_mark in
    let steps_ : List Step = first ++ (middle ++ second) in
    let to_end : IsRun h steps_ m = run-append h j m first (middle ++ second) (run-append h i j accepts.host.steps reads.steps accepts.host.chain reads.carries.chain) late.chain in
    let are_ : (x : Link) → IsAmong ms x → IsAmong (links_of held) x ⊎ Joins f t accepts.accepted h.slots.next m.slots.next accepts.host.steps x =
    (λ x among. met_are (links_of held) f t accepts.accepted h.slots.next m.slots.next a b accepts.host.steps x (last_below x (accepts.fits fit x among).opened) (closes-admissions x.id accepts.host.steps accepts.host.kinds) (accepts.are x among)) in
    let carried_ : (x : Link) → IsAmong ms x → Transferred written_ t a h steps_ e m x =
    (λ x among.
    let tied : Each (λ other. Ties other x) ms = (accepts.fits fit x among).tied in
    let one : Transferred written_ t a h accepts.host.steps b i x =
    carried_nothing written_ t a b h i accepts.host.steps x (accepts.host.no_own x.id) (accepts.host.no_taken x.id) (closes-admissions x.id accepts.host.steps accepts.host.kinds) (feed_out_of_memory-admissions x.id accepts.host.steps accepts.host.kinds) (met_keeps (links_of held) f t accepts.accepted h.slots.next a b h accepts.host.steps x fit accepts.kept (accepts.are x among)) in
    let two : Transferred written_ t a h first c j x = carried_then written_ t a b c h i j x accepts.host.steps reads.steps accepts.all reads.carries.all accepts.host.chain reads.carries.chain one (reads.carries.carried x tied) in
    carried_then written_ t a c e h j m x first (middle ++ second) to_c late.all (run-append h i j accepts.host.steps reads.steps accepts.host.chain reads.carries.chain) late.chain two (late.carried x tied)) in
    record {
      host = record {
        parts = record {
          admissions = accepts.host.steps;
          inputs = reads.steps;
          outputs = writes.steps;
          ends = shuts.steps;
          admissions_are = accepts.host.kinds;
          inputs_are = reads.kinds;
          outputs_are = writes.kinds;
          ends_are = shuts.kinds;
        };
        start = j;
        end = k;
        worked = worked;
        refused = refused;
        to_round = run-append h i j accepts.host.steps reads.steps accepts.host.chain reads.carries.chain;
        round = round;
        from_round = run-append k l m writes.steps shuts.steps writes.carries.chain shuts.carries.chain;
        steps = first ++ (middle ++ second);
        steps_are = refl;
        chain = to_end;
      };
      meets = record {
        met = ms;
        accepted = accepts.accepted;
        numbered = accepts.numbered;
        answers = accepts.host.answers;
        still = λ none. some.none (either_false p.moved q (either_false (p.moved || q) r (either_false ((p.moved || q) || r) s (either_false (((p.moved || q) || r) || s) w none).first).first).first).first;
        rises = accepts.rises;
        tied = λ x among. (accepts.fits fit x among).tied;
        stay = λ x among. accepts.stay x among;
        are = are_;
        starts = λ x among. starts_one (links_of held) f t accepts.accepted h.slots.next written_ a e h m accepts.host.steps steps_ x to_end (carried_ x among) (λ o. opened_left x.id first (middle ++ second) (opened_left x.id accepts.host.steps reads.steps o)) (are_ x among);
        accounted = λ x one. over_accounted x (λ n apart. kept_then b c e n (reads.carries.others n apart) (late.others n apart)) (accepts.accounted fit x one);
      };
      treats = record {
        marks = written_;
        marked = λ n mark. over_marks n ((marks_d n).ended mark);
        ended = λ n mark. stay_ended n (marked_filter reads_ended (λ y. not y.is_shut) last n mark);
        unshut = none_shut last;
        left = λ x among. rw same at (among_filtered (λ y. not y.is_shut) last x among);
        gone = λ x among. went t a e held last m x marks_e (shutting x among) (remove_shut last x (rw (sym same) at among));
        carried = carried_;
        others = λ n apart. each_kept f t accepts.accepted a b e n (accepts.each n) (kept_then b c e n (reads.carries.others n apart) (late.others n apart));
        foreign = λ id lt strange. alone_then id first (middle ++ second) (alone_then id accepts.host.steps reads.steps (record { stored = accepts.host.no_own id; passed = accepts.host.no_taken id; kept = closes-admissions id accepts.host.steps accepts.host.kinds }) (reads.carries.foreign id strange)) (late.foreign id strange);
        all = moves_then a c e to_c late.all;
      };
    }
  where
    last_below : (x : Link) → x.id.generation < i.slots.next → x.id.generation < m.slots.next
    last_below x lt =
        let u : i.slots.next ≤ j.slots.next = next_rises i j reads.steps reads.carries.chain in
        let v : j.slots.next ≤ k.slots.next = next_rises j k (works slice (pending_ids j) round.outcomes) round.run in
        let y : k.slots.next ≤ l.slots.next = next_rises k l writes.steps writes.carries.chain in
        let z : l.slots.next ≤ m.slots.next = next_rises l m shuts.steps shuts.carries.chain in
        omega arith

    over_accounted : (x : Accepted) → ((n : ℕ) → IsNotAmong (links_of accepted_) n → KeepsConnection b e n) → HasSession (links_of accepted_) x ⊎ (IsRejected f t some.accepts.accepted a b x.number × IsNotAmong (links_of accepted_) x.number)
        → HasSession (links_of accepted_) x ⊎ IsRejected f t some.accepts.accepted a e x.number
    over_accounted x keep (inl met) = inl met
    over_accounted x keep (inr away) = inr (away_kept f t some.accepts.accepted a b e x.number away.0 (keep x.number away.1))

    over_marks : (n : ℕ) → IsMarked reads_ended held n ⊎ IsEmptied (a.unread n) (d.unread n) → IsMarked reads_ended held n ⊎ IsEmptied (a.unread n) (e.unread n)
    over_marks n (inl was) = inl was
    over_marks n (inr empty) = inr (emptied_move a d e n empty shuts.carries.all)

-- a turn with the connections it met, and the states between its parts
pub record TurnWith (slice : ℕ) (moved : Bool) (before after : Scene) (admissions : List Step) (met : List Link) (start end : HostState) (marks : List Connection) (accepted : List Accepted) (refused : ℕ) : Type 0 where
  pub turn : IsTurn slice moved before after
  pub admissions_are : turn.host.parts.admissions ≡ admissions
  pub met_are : turn.meets.met ≡ met
  pub start_is : turn.host.start ≡ start
  pub end_is : turn.host.end ≡ end
  pub marks_are : turn.treats.marks ≡ marks
  pub accepted_are : turn.meets.accepted ≡ accepted
  pub refused_is : turn.host.refused ≡ refused

pub turn_with : (slice : ℕ) (p : Arrivals) (q r s w : Bool) (held accepted_ read_ written_ last : List Connection) (f t : ℕ) (a b c d e : Report) (h i j k l m : HostState) (worked refused : ℕ) (calls asked_calls last_calls : Option (List Call)) (u v : ℕ) → Fits (links_of held) f h
    → (x : AllAccepted p (links_of held) f a h (links_of accepted_) t b i calls asked_calls) → ((n : ℕ) → AddsNoMark held accepted_ n)
    → CarriesBy IsInput written_ t (links_of accepted_) b i c j → KeepsAllMarks t b accepted_ c read_
    → IsRound j slice (pending_ids j) worked refused k
    → CarriesBy IsOutput written_ t (links_of accepted_) c k d l → KeepsAllMarks t c read_ d written_
    → CarriesBy IsEnd written_ t (links_of accepted_) d l e m → KeepsAllMarks t d written_ e last → ((n : ℕ) → IsMarked reads_ended last n → IsMarked reads_ended written_ n)
    → links_of last ≡ links_of accepted_ → ShutsAll held accepted_ last m → TurnWith slice ((((p.moved || q) || r) || s) || w)
    (record { held = held; bound = f; report = a; asked = calls; failed = u; host = h })
    (record { held = filter (λ x. not x.is_shut) last; bound = t; report = e; asked = last_calls; failed = v; host = m })
    x.accepts.host.steps (links_of accepted_) j k written_ x.accepts.accepted refused
unfolding turned
turn_with slice p q r s w held accepted_ read_ written_ last f t a b c d e h i j k l m worked refused calls asked_calls last_calls u v fit some adds reads reads_mark round writes writes_mark shuts shuts_mark stay_ended same shutting =
    record { turn = turned slice p q r s w held accepted_ read_ written_ last f t a b c d e h i j k l m worked refused calls asked_calls last_calls u v fit some adds reads reads_mark round writes writes_mark shuts shuts_mark stay_ended same shutting; admissions_are = refl; met_are = refl; start_is = refl; end_is = refl; marks_are = refl; accepted_are = refl; refused_is = refl }

-- the calls of a turn
pub asks_turn : (slice : ℕ) (moved : Bool) (tally : Tally) (before after : Scene) (met read written last : List Connection) (i j k l : HostState) (admissions : List Step) (items : List Accepted) (accepted asked_reads asked_writes : Option (List Call)) (refused : ℕ) → TurnWith slice moved before after admissions (links_of met) j k written items refused
    → AsksAll before.host (links_of before.held) (links_of met) items before.asked accepted → IsRun before.host admissions i → Grows before.held met → (IsRising (links_of before.held) → IsRising (links_of met)) → AsksTo (length met) reads_of IsInput i met read accepted asked_reads j → AsksTo (length read) writes_of IsOutput k read written asked_reads asked_writes l → AsksTo (length written) ends_of IsEnd l written last asked_writes after.asked after.host
    → after.held ≡ filter (λ x. not x.is_shut) last → IsTally items met read written last refused tally → CountsRound j slice tally.steps tally.bestmoves k → AsksTurn slice moved tally before after
asks_turn slice moved tally before after met read written last i j k l admissions items accepted asked_reads asked_writes refused w accepts run grows rising reads writes ends left tallied counted = record {
  turn = w.turn;
  accepts = record {
    accepted = accepted;
    accepts = rw (w.met_are, w.accepted_are) accepts;
    middle = i;
    to_middle = rw w.admissions_are run;
    met = met;
    met_are = sym w.met_are;
    grows = grows;
    rising = rising;
  };
  visits = record {
    read = read;
    asked_reads = asked_reads;
    reads = rw w.start_is reads;
    asked_writes = asked_writes;
    passed = l;
    writes = rw (w.end_is, w.marks_are) writes;
    last = last;
    ends = rw w.marks_are ends;
    left = left;
  };
  tallied = rw (w.accepted_are, w.marks_are, w.refused_is) tallied;
  counted = rw (w.start_is, w.end_is) counted;
}

continues : (slice : ℕ) (moved : Bool) (before after : Scene) → IsTurn slice moved before after → (l : Link) (s : SessionView) → IsAmong (links_of before.held) l → find before.host.slots l.id ≡ Some s → Served (due s) before.report after.report l.number (find after.host.slots l.id)
continues slice moved before after turn = λ l s among found.
    served (due s) turn.treats.marks after.bound before.report after.report before.host after.host turn.host.steps l (turn.treats.carried l (turn.meets.stay l among)) (kept before.host after.host l.id turn.host.steps s found turn.host.chain).ends

starts : (slice : ℕ) (moved : Bool) (before after : Scene) → IsTurn slice moved before after → ServesNew before (links_of after.held) after
starts slice moved before after turn = λ l among. turn.meets.starts l (turn.treats.left l among)

-- a turn from its calls
pub turns : (slice : ℕ) (moved : Bool) (tally : Tally) (before after : Scene) → AsksTurn slice moved tally before after → (moved ≡ true → (before.bound < after.bound) ⊎ (StirsHeld before.report before.held after.report after.held ⊎ (any_pending after.host (links_of after.held) ≡ true))) → IsQuiet moved before.report (unshut_of before.held) after.report after.held → Turns slice moved tally before after
turns slice moved tally before after asked moves quiet =
    record { asked = asked; moves = moves; quiet = quiet; continues = continues slice moved before after asked.turn; starts = starts slice moved before after asked.turn }

-- ---- what is removed

tied_filter : (p : Connection → Bool) (held : List Connection) (l : Link) → Each (λ other. Ties other l) (links_of held) → Each (λ other. Ties other l) (links_of (filter p held))
tied_filter p [] l t = t
tied_filter p (x ∷ xs) l t =
    cond_both (p x) (x ∷ filter p xs) (filter p xs) (λ (ys : List Connection). Each (λ other. Ties other l) (links_of ys))
    (λ yes. (t.0, tied_filter p xs l t.1)) (λ no. tied_filter p xs l t.1)

-- the links left still fit
fits_left : (p : Connection → Bool) (held : List Connection) (t : ℕ) (h i : HostState) → h.slots.next ≤ i.slots.next → Fits (links_of held) t h → Fits (links_of (filter p held)) t i
fits_left p held t h i rises fit = λ l m.
    let one : FitsOne (links_of held) t h l = fit l (among_filtered p held l m) in
    let below : l.id.generation < h.slots.next = one.opened in
    record { tied = tied_filter p held l one.tied; number = one.number; opened = omega arith }

pub turn_fits : (held met last : List Connection) (f t : ℕ) (a b : Report) (h i m : HostState) → Fits (links_of held) f h → Accepts (links_of held) f a h (links_of met) t b i → i.slots.next ≤ m.slots.next → links_of last ≡ links_of met → Fits (links_of (filter (λ x. not x.is_shut) last)) t m
turn_fits held met last f t a b h i m fit accepts rises same = fits_left (λ x. not x.is_shut) last t i m rises (rw same (accepts.fits fit))

pub carries_by_rises : (kind : Event → Type 0) (marks : List Connection) (bound : ℕ) (ls : List Link) (a b : Report) (h i : HostState) → CarriesBy kind marks bound ls a h b i → h.slots.next ≤ i.slots.next
carries_by_rises kind marks bound ls a b h i s = next_rises h i s.steps s.carries.chain
