-- Steps of a script in play.
use Rattle.std.proofs.Common.{◌≡◌, ◌≢◌, ℕ, zero, suc, ◌+◌, ◌<◌, ◌≤◌, List, [], ◌∷◌, ◌++◌, Bool, true, false, cond, Option, Some, None, length, set, get_or, count_by, refl, sym, ap, ◌∙◌, arith, append_assoc, append-nil, length-set, ◌==◌}
use Rattle.std.proofs.lemmas.Bool.{eqb-true}
use Rattle.std.proofs.lemmas.List.{set-get_or, get_or-set_same}
use Rattle.std.proofs.lemmas.List.Sums.{sum_by-cons, sum_by-set}
use Rattle.usi_texts.specs.declared.setup.Setup.{Setup}
use Rattle.session_slots.specs.declared.id.SessionId.{SessionId}
use Rattle.session_slots.specs.Slots.{find}
use Rattle.usi_session.specs.Due.{SessionView, due}
use Rattle.usi_session.specs.WholeStream.{replies_under}
use Rattle.usi_session.proofs.Settled.{due-settled}
use Rattle.host_core.specs.Steps.{HostState}
use Rattle.host_core.specs.ById.{pending_of}
use Rattle.usi_replay.specs.Script.{Opening, has_session}
use Rattle.usi_replay.specs.Sessions.{OwesTheSame, KeepsRepliesDue, KeepsAllBut, IsCollected, OwesRepliesTo}
use Rattle.usi_replay.specs.Playback.{Transcript, play, no_transcript, no_opening, open_id, Owes, HasMade, IsTranscriptOf, floor_after, IsAbove, AreTranscripts, IsPlayback, KeepsPlayback, HasAllReplies, with_more, IsSent}
use Rattle.usi_lines.specs.declared.line.TheConstants.{LINE_FEED}

-- sessions that went on have the same replies due
owes_due : (setup : Setup) (f g : Option SessionView) (made text : List ℕ) → OwesTheSame f g → Owes setup f made text → Owes setup g made text
owes_due setup None g made text h o = absurd o
owes_due setup (Some s) None made text h o = absurd h
owes_due setup (Some s) (Some t) made text h o = λ x. ap (λ xs. made ++ xs) (h x) ∙ o x

made_due : (setup : Setup) (old new : HostState) (id : Option SessionId) (used refused : Bool) (text made : List ℕ) → KeepsRepliesDue old new → HasMade setup old id used refused text made → HasMade setup new id used refused text made
made_due setup old new None used refused text made k m = m
made_due setup old new (Some id) true refused text made k m = (m.0, owes_due setup (find old.slots id) (find new.slots id) made text (k.owed id) m.1)
made_due setup old new (Some id) false refused text made k m = m

of_due : {setup : Setup} (old new : HostState) (o : Opening) (e : Transcript) → KeepsRepliesDue old new → IsTranscriptOf setup old o e → IsTranscriptOf setup new o e
of_due {setup} old new o e k i = record { name_is = i.name_is; used_is = i.used_is; made_is = made_due setup old new e.id e.in_use o.refused o.text e.made k i.made_is }

pub transcripts_due : (setup : Setup) (old new : HostState) (low : ℕ) (os : List Opening) (es : List Transcript) → KeepsRepliesDue old new → AreTranscripts setup old low os es → AreTranscripts setup new low os es
unfolding AreTranscripts
transcripts_due setup old new low [] [] k t = (let n : new.slots.next ≡ old.slots.next = k.next_is in rw n t)
transcripts_due setup old new low [] (e ∷ es) k t = absurd t
transcripts_due setup old new low (o ∷ os) [] k t = absurd t
transcripts_due setup old new low (o ∷ os) (e ∷ es) k t = (of_due old new o e k t.0, t.1, transcripts_due setup old new (floor_after low e.id) os es k t.2)

-- a change to one session leaves the output of the others
made_other : (setup : Setup) (old new : HostState) (at : SessionId) (id : Option SessionId) (used refused : Bool) (text made : List ℕ) → ((other : SessionId) → other ≢ at → find new.slots other ≡ find old.slots other) → ((other : SessionId) → id ≡ Some other → other ≢ at) → HasMade setup old id used refused text made → HasMade setup new id used refused text made
made_other setup old new at None used refused text made k apart m = m
made_other setup old new at (Some other) true refused text made k apart m = (m.0, rw (k other (apart other refl)) m.1)
made_other setup old new at (Some other) false refused text made k apart m = m

of_other : {setup : Setup} (old new : HostState) (at : SessionId) (o : Opening) (e : Transcript) → ((other : SessionId) → other ≢ at → find new.slots other ≡ find old.slots other) → ((other : SessionId) → e.id ≡ Some other → other ≢ at) → IsTranscriptOf setup old o e → IsTranscriptOf setup new o e
of_other {setup} old new at o e k apart i = record { name_is = i.name_is; used_is = i.used_is; made_is = made_other setup old new at e.id e.in_use o.refused o.text e.made k apart i.made_is }

floor_up : (low : ℕ) (id : Option SessionId) → IsAbove low id → low ≤ floor_after low id
floor_up low None a = omega arith
floor_up low (Some id) a = (let b : low ≤ id.generation = a in omega arith)

floor_past : (low : ℕ) (id : Option SessionId) (at : SessionId) → id ≡ Some at → at.generation < floor_after low id
floor_past low id at e = rw e (omega arith)

above_of : (low : ℕ) (id : Option SessionId) (at : SessionId) → id ≡ Some at → IsAbove low id → low ≤ at.generation
above_of low id at e a = rw e at a

differ_below : (a b : SessionId) → a.generation < b.generation → a ≢ b
differ_below a b lt same = (let e : a.generation ≡ b.generation = ap (λ (i : SessionId). i.generation) same in absurd (omega arith))

differ_above : (a b : SessionId) → b.generation < a.generation → a ≢ b
differ_above a b lt same = (let e : a.generation ≡ b.generation = ap (λ (i : SessionId). i.generation) same in absurd (omega arith))

pub record KeepsOnly (old new : HostState) (at : SessionId) : Type 0 where
  pub others : (other : SessionId) → other ≢ at → find new.slots other ≡ find old.slots other
  pub next_is : new.slots.next ≡ old.slots.next

pub keeps_only : (old new : HostState) (at : SessionId) → KeepsAllBut old new at → KeepsOnly old new at
keeps_only old new at k = record { others = k.others; next_is = k.next_is }

transcripts_later : (setup : Setup) (old new : HostState) (at : SessionId) (low : ℕ) (os : List Opening) (es : List Transcript) → KeepsOnly old new at → at.generation < low → AreTranscripts setup old low os es → AreTranscripts setup new low os es
unfolding AreTranscripts
transcripts_later setup old new at low [] [] k lt t = (let n : new.slots.next ≡ old.slots.next = k.next_is in rw n t)
transcripts_later setup old new at low [] (e ∷ es) k lt t = absurd t
transcripts_later setup old new at low (o ∷ os) [] k lt t = absurd t
transcripts_later setup old new at low (o ∷ os) (e ∷ es) k lt t =
    let up : low ≤ floor_after low e.id = floor_up low e.id t.1 in
    (of_other old new at o e k.others (λ other f. (let a : low ≤ other.generation = above_of low e.id other f t.1 in differ_above other at (omega arith))) t.0, t.1, transcripts_later setup old new at (floor_after low e.id) os es k (omega arith) t.2)

member_above : (setup : Setup) (h : HostState) (low : ℕ) (os : List Opening) (es : List Transcript) (i : ℕ) (at : SessionId) → AreTranscripts setup h low os es → i < length es → (get_or es i no_transcript).id ≡ Some at → low ≤ at.generation
unfolding AreTranscripts
member_above setup h low [] [] i at t lt e = absurd (omega arith)
member_above setup h low [] (k ∷ es) i at t lt e = absurd t
member_above setup h low (o ∷ os) [] i at t lt e = absurd t
member_above setup h low (o ∷ os) (k ∷ es) zero at t lt e = above_of low k.id at e t.1
member_above setup h low (o ∷ os) (k ∷ es) (suc i) at t lt e =
    let up : low ≤ floor_after low k.id = floor_up low k.id t.1 in
    let m : floor_after low k.id ≤ at.generation = member_above setup h (floor_after low k.id) os es i at t.2 (omega arith) e in
    omega arith

-- one `+` line with a session continues
pub transcripts_set : {setup : Setup} (old new : HostState) (at : SessionId) (low : ℕ) (os : List Opening) (es : List Transcript) (i : ℕ) (o : Opening) (e : Transcript) → KeepsOnly old new at → AreTranscripts setup old low os es → i < length es → (get_or es i no_transcript).id ≡ Some at → e.id ≡ Some at → IsTranscriptOf setup new o e → AreTranscripts setup new low (set os i o) (set es i e)
unfolding AreTranscripts
transcripts_set {setup} old new at low [] [] i o e k t lt was is of = absurd (omega arith)
transcripts_set {setup} old new at low [] (f ∷ es) i o e k t lt was is of = absurd t
transcripts_set {setup} old new at low (p ∷ os) [] i o e k t lt was is of = absurd t
transcripts_set {setup} old new at low (p ∷ os) (f ∷ es) zero o e k t lt was is of =
    let same : e.id ≡ f.id = is ∙ sym was in
    (of, rw same t.1, rw same (transcripts_later setup old new at (floor_after low f.id) os es k (floor_past low f.id at was) t.2))
transcripts_set {setup} old new at low (p ∷ os) (f ∷ es) (suc i) o e k t lt was is of =
    let m : floor_after low f.id ≤ at.generation = member_above setup old (floor_after low f.id) os es i at t.2 (omega arith) was in (
      of_other old new at p f k.others (λ other g. (let a : other.generation < floor_after low f.id = floor_past low f.id other g in differ_below other at (omega arith))) t.0,
      t.1,
      transcripts_set old new at (floor_after low f.id) os es i o e k t.2 (omega arith) was is of,
    )

-- one `+` line without a session continues
pub transcripts_text : {setup : Setup} (h : HostState) (low : ℕ) (os : List Opening) (es : List Transcript) (i : ℕ) (o : Opening) (e : Transcript) → AreTranscripts setup h low os es → i < length es → e.id ≡ (get_or es i no_transcript).id → IsTranscriptOf setup h o e → AreTranscripts setup h low (set os i o) (set es i e)
unfolding AreTranscripts
transcripts_text {setup} h low [] [] i o e t lt same of = absurd (omega arith)
transcripts_text {setup} h low [] (f ∷ es) i o e t lt same of = absurd t
transcripts_text {setup} h low (p ∷ os) [] i o e t lt same of = absurd t
transcripts_text {setup} h low (p ∷ os) (f ∷ es) zero o e t lt same of = (of, rw same t.1, rw same t.2)
transcripts_text {setup} h low (p ∷ os) (f ∷ es) (suc i) o e t lt same of = (t.0, t.1, transcripts_text h (floor_after low f.id) os es i o e t.2 (omega arith) same of)

pub transcripts_get : (setup : Setup) (h : HostState) (low : ℕ) (os : List Opening) (es : List Transcript) (i : ℕ) → AreTranscripts setup h low os es → i < length es → IsTranscriptOf setup h (get_or os i no_opening) (get_or es i no_transcript)
unfolding AreTranscripts
transcripts_get setup h low [] [] i t lt = absurd (omega arith)
transcripts_get setup h low [] (f ∷ es) i t lt = absurd t
transcripts_get setup h low (p ∷ os) [] i t lt = absurd t
transcripts_get setup h low (p ∷ os) (f ∷ es) zero t lt = t.0
transcripts_get setup h low (p ∷ os) (f ∷ es) (suc i) t lt = transcripts_get setup h (floor_after low f.id) os es i t.2 (omega arith)

pub transcripts_len : (setup : Setup) (h : HostState) (low : ℕ) (os : List Opening) (es : List Transcript) → AreTranscripts setup h low os es → length os ≡ length es
unfolding AreTranscripts
transcripts_len setup h low [] [] t = refl
transcripts_len setup h low [] (f ∷ es) t = absurd t
transcripts_len setup h low (p ∷ os) [] t = absurd t
transcripts_len setup h low (p ∷ os) (f ∷ es) t = (let r = transcripts_len setup h (floor_after low f.id) os es t.2 in omega (arith, r))

transcripts_low : (setup : Setup) (h : HostState) (low : ℕ) (os : List Opening) (es : List Transcript) → AreTranscripts setup h low os es → low ≤ h.slots.next
unfolding AreTranscripts
transcripts_low setup h low [] [] t = t
transcripts_low setup h low [] (f ∷ es) t = absurd t
transcripts_low setup h low (p ∷ os) [] t = absurd t
transcripts_low setup h low (p ∷ os) (f ∷ es) t = (let r = transcripts_low setup h (floor_after low f.id) os es t.2 in let up = floor_up low f.id t.1 in omega (arith, r, up))

-- a `+` line with a session is added
pub transcripts_open : {setup : Setup} (old new : HostState) (at : SessionId) (low : ℕ) (os : List Opening) (es : List Transcript) (o : Opening) (e : Transcript) → ((other : SessionId) → other ≢ at → find new.slots other ≡ find old.slots other) → at.generation ≡ old.slots.next → new.slots.next ≡ old.slots.next + 1 → e.id ≡ Some at → IsTranscriptOf setup new o e → AreTranscripts setup old low os es → AreTranscripts setup new low (os ++ o ∷ []) (es ++ e ∷ [])
unfolding AreTranscripts
transcripts_open {setup} old new at low [] [] o e k g n is of t =
    let b : low ≤ old.slots.next = t in
    (of, rw is (omega arith), rw is (omega arith))
transcripts_open {setup} old new at low [] (f ∷ es) o e k g n is of t = absurd t
transcripts_open {setup} old new at low (p ∷ os) [] o e k g n is of t = absurd t
transcripts_open {setup} old new at low (p ∷ os) (f ∷ es) o e k g n is of t =
    let l : floor_after low f.id ≤ old.slots.next = transcripts_low setup old (floor_after low f.id) os es t.2 in (
      of_other old new at p f k (λ other h. (let a : other.generation < floor_after low f.id = floor_past low f.id other h in differ_below other at (omega arith))) t.0,
      t.1,
      transcripts_open old new at (floor_after low f.id) os es o e k g n is of t.2,
    )

-- a refused `+` line is added
pub transcripts_refused : {setup : Setup} (h : HostState) (low : ℕ) (os : List Opening) (es : List Transcript) (o : Opening) (e : Transcript) → e.id ≡ None → IsTranscriptOf setup h o e → AreTranscripts setup h low os es → AreTranscripts setup h low (os ++ o ∷ []) (es ++ e ∷ [])
unfolding AreTranscripts
transcripts_refused {setup} h low [] [] o e is of t = (of, rw is tt, rw is t)
transcripts_refused {setup} h low [] (f ∷ es) o e is of t = absurd t
transcripts_refused {setup} h low (p ∷ os) [] o e is of t = absurd t
transcripts_refused {setup} h low (p ∷ os) (f ∷ es) o e is of t = (t.0, t.1, transcripts_refused h (floor_after low f.id) os es o e is of t.2)

-- a change that opens and closes no session keeps the number of open sessions
pub held_set : (os : List Opening) (i : ℕ) (o : Opening) → i < length os → has_session o ≡ has_session (get_or os i no_opening) → count_by has_session (set os i o) ≡ count_by has_session os
held_set os i o lt e =
    let u = sum_by-set (λ (q : Opening). cond (has_session q) 1 0) os i o no_opening lt in
    let f : ◌≡◌ {A = ℕ} (cond (has_session o) 1 0) (cond (has_session (get_or os i no_opening)) 1 0) = ap (λ (b : Bool). cond b 1 0) e in
    omega (arith, u, f)

-- a change that closes a session lowers the number of open sessions by one
pub held_freed : (os : List Opening) (i : ℕ) (o : Opening) → i < length os → has_session o ≡ false → has_session (get_or os i no_opening) ≡ true → count_by has_session (set os i o) + 1 ≡ count_by has_session os
held_freed os i o lt e f =
    let u = sum_by-set (λ (q : Opening). cond (has_session q) 1 0) os i o no_opening lt in
    let a : ◌≡◌ {A = ℕ} (cond (has_session o) 1 0) 0 = ap (λ (b : Bool). cond b 1 0) e in
    let b : ◌≡◌ {A = ℕ} (cond (has_session (get_or os i no_opening)) 1 0) 1 = ap (λ (b : Bool). cond b 1 0) f in
    omega (arith, u, a, b)

pub held_last : (os : List Opening) (o : Opening) → count_by has_session (os ++ o ∷ []) ≡ count_by has_session os + cond (has_session o) 1 0
held_last [] o = grind (arith, sum_by-cons (λ p. cond (has_session p) 1 0) o [])
held_last (p ∷ os) o = omega (arith, held_last os o, sum_by-cons (λ q. cond (has_session q) 1 0) p os, sum_by-cons (λ q. cond (has_session q) 1 0) p (os ++ o ∷ []))

-- a transcript with an open session
pub record HasOpenId (e : Transcript) (id : SessionId) : Type 0 where
  pub used : e.in_use ≡ true
  pub id_is : e.id ≡ Some id

open_id_by : (used : Bool) (id : Option SessionId) (at : SessionId) → cond used id None ≡ Some at → (used ≡ true) × (id ≡ Some at)
open_id_by true id at e = (refl, e)
open_id_by false id at e = absurd (cc)

pub has_open_id : (e : Transcript) (at : SessionId) → open_id e ≡ Some at → HasOpenId e at
has_open_id e at f = (let p = open_id_by e.in_use e.id at f in record { used = p.0; id_is = p.1 })

owes_handed : (setup : Setup) (f g : Option SessionView) (made text out : List ℕ) → IsCollected f g made out → Owes setup f made text → Owes setup g out text
owes_handed setup None g made text out h o = absurd o
owes_handed setup (Some s) None made text out h o = absurd h
owes_handed setup (Some s) (Some t) made text out h o = λ x. ap (λ xs. xs ++ due t x) h.0 ∙ (append_assoc made s.queued (due t x) ∙ (ap (λ xs. made ++ xs) (sym (h.1 x)) ∙ o x))

all_handed : (setup : Setup) (f g : Option SessionView) (made text out : List ℕ) → pending_of f ≡ false → IsCollected f g made out → Owes setup f made text → out ≡ replies_under setup text
all_handed setup None g made text out p h o = absurd o
all_handed setup (Some s) None made text out p h o = absurd h
all_handed setup (Some s) (Some t) made text out p h o = h.0 ∙ (ap (λ xs. made ++ xs) (sym (due-settled s p)) ∙ (o [] ∙ ap (replies_under setup) (append-nil text)))

pub made_live : {setup : Setup} (h : HostState) (o : Opening) (e : Transcript) (id : SessionId) → HasOpenId e id → IsTranscriptOf setup h o e → (o.refused ≡ false) × Owes setup (find h.slots id) e.made o.text
made_live {setup} h o e id l i = (let m : HasMade setup h e.id e.in_use o.refused o.text e.made = i.made_is in rw (l.id_is, l.used) at m)

of_live : (setup : Setup) (h : HostState) (o : Opening) (e : Transcript) (id : SessionId) → HasOpenId e id → e.name ≡ o.name → e.in_use ≡ o.in_use → o.refused ≡ false → Owes setup (find h.slots id) e.made o.text → IsTranscriptOf setup h o e
of_live setup h o e id l n u r w = record { name_is = n; used_is = u; made_is = rw (l.id_is, l.used) (r, w) }

-- a session was worked off, and its queued bytes were kept
pub record IsTaken (old mid new : HostState) (id : SessionId) (before after : Transcript) : Type 0 where
  pub due : KeepsRepliesDue old mid
  pub settled : pending_of (find mid.slots id) ≡ false
  pub others : KeepsAllBut mid new id
  pub handed : IsCollected (find mid.slots id) (find new.slots id) before.made after.made
  pub rest : after ≡ record before { made = after.made }
  pub open_id_is : open_id before ≡ Some id

pub taken_all : {setup : Setup} (old mid new : HostState) (id : SessionId) (o : Opening) (before after : Transcript) → IsTaken old mid new id before after → IsTranscriptOf setup old o before → HasAllReplies setup o after
taken_all {setup} old mid new id o before after t i =
    let l : HasOpenId before id = has_open_id before id t.open_id_is in
    all_handed setup (find mid.slots id) (find new.slots id) before.made o.text after.made t.settled t.handed (made_live mid o before id l (of_due old mid o before t.due i)).1

live_after : (old mid new : HostState) (id : SessionId) (before after : Transcript) → IsTaken old mid new id before after → HasOpenId after id
live_after old mid new id before after t =
    let l : HasOpenId before id = has_open_id before id t.open_id_is in
    record { used = ap (λ (k : Transcript). k.in_use) t.rest ∙ l.used; id_is = ap (λ (k : Transcript). k.id) t.rest ∙ l.id_is }

taken_of : {setup : Setup} (old mid new : HostState) (id : SessionId) (o : Opening) (before after : Transcript) → IsTaken old mid new id before after → IsTranscriptOf setup old o before → IsTranscriptOf setup new o after
taken_of {setup} old mid new id o before after t i =
    let l : HasOpenId before id = has_open_id before id t.open_id_is in
    let m = made_live mid o before id l (of_due old mid o before t.due i) in
    of_live setup new o after id (live_after old mid new id before after t) (ap (λ (k : Transcript). k.name) t.rest ∙ i.name_is) (ap (λ (k : Transcript). k.in_use) t.rest ∙ i.used_is) m.0 (owes_handed setup (find mid.slots id) (find new.slots id) before.made o.text after.made t.handed m.1)

pub taken_played : (old mid new : HostState) (id : SessionId) (es : List Transcript) (i : ℕ) (after : Transcript) → i < length es → IsTaken old mid new id (get_or es i no_transcript) after → KeepsPlayback (play old es) (play new (set es i after))
taken_played old mid new id es i after lt t setup slots os p =
    let l : HasOpenId (get_or es i no_transcript) id = has_open_id (get_or es i no_transcript) id t.open_id_is in
    let of : IsTranscriptOf setup new (get_or os i no_opening) after = taken_of old mid new id (get_or os i no_opening) (get_or es i no_transcript) after t (transcripts_get setup old 0 os es i p.transcripts lt) in
    let s : AreTranscripts setup new 0 (set os i (get_or os i no_opening)) (set es i after) = transcripts_set mid new id 0 os es i (get_or os i no_opening) after (keeps_only mid new id t.others) (transcripts_due setup old mid 0 os es t.due p.transcripts) lt l.id_is (live_after old mid new id (get_or es i no_transcript) after t).id_is of in
    record {
      transcripts = rw (set-get_or os i no_opening) at s;
      count_is = t.others.count_is ∙ (t.due.count_is ∙ p.count_is);
      max_is = t.others.max_is ∙ (t.due.max_is ∙ p.max_is);
      setup_is = t.others.setup_is ∙ (t.due.setup_is ∙ p.setup_is);
      few = (let a : new.slots.next ≡ mid.slots.next = t.others.next_is in let b : mid.slots.next ≡ old.slots.next = t.due.next_is in let c : old.slots.next ≤ length es = p.few in grind (arith, length-set));
    }

pub any_default : {X : Type 0} (xs : List X) (i : ℕ) (d e : X) → i < length xs → get_or xs i d ≡ get_or xs i e
any_default [] i d e lt = absurd (omega arith)
any_default (x ∷ xs) zero d e lt = refl
any_default (x ∷ xs) (suc i) d e lt = any_default xs i d e (omega arith)

pub item_is : (es : List Transcript) (i : ℕ) (x : Transcript) → i < length es → x ≡ get_or es i x → get_or es i no_transcript ≡ x
item_is es i x lt e = any_default es i no_transcript x lt ∙ sym e

pub taken_at : (old mid new : HostState) (id : SessionId) (es : List Transcript) (i : ℕ) (x y after : Transcript) → i < length es → x ≡ get_or es i x → y ≡ get_or es i y → open_id x ≡ Some id → KeepsRepliesDue old mid → pending_of (find mid.slots id) ≡ false → KeepsAllBut mid new id → IsCollected (find mid.slots id) (find new.slots id) y.made after.made → after ≡ record y { made = after.made } → IsTaken old mid new id (get_or es i no_transcript) after
taken_at old mid new id es i x y after lt e f l due settled others handed rest =
    let a : get_or es i no_transcript ≡ x = item_is es i x lt e in
    let b : get_or es i no_transcript ≡ y = item_is es i y lt f in
    record { due = due; settled = settled; others = others; handed = rw b handed; rest = rw b rest; open_id_is = rw a l }

-- a chunk was fed to a `+` line
fed_by : (setup : Setup) (f g : Option SessionView) (made text chunk : List ℕ) → OwesRepliesTo f g chunk → Owes setup f made text → Owes setup g made (text ++ chunk)
fed_by setup None g made text chunk h o = absurd o
fed_by setup (Some s) None made text chunk h o = absurd h
fed_by setup (Some s) (Some t) made text chunk h o = λ x. ap (λ xs. made ++ xs) (h x) ∙ (o (chunk ++ x) ∙ ap (replies_under setup) (sym (append_assoc text chunk x)))

pub fed_live : (old new : HostState) (id : SessionId) (es : List Transcript) (i : ℕ) (x : Transcript) (chunk : List ℕ) → i < length es → x ≡ get_or es i x → open_id x ≡ Some id → KeepsAllBut old new id → OwesRepliesTo (find old.slots id) (find new.slots id) chunk → IsSent (play old es) (play new es) i chunk
fed_live old new id es i x chunk lt e l others fed setup slots os p =
    let a : get_or es i no_transcript ≡ x = item_is es i x lt e in
    let li : HasOpenId (get_or es i no_transcript) id = has_open_id (get_or es i no_transcript) id (ap open_id a ∙ l) in
    let of : IsTranscriptOf setup old (get_or os i no_opening) (get_or es i no_transcript) = transcripts_get setup old 0 os es i p.transcripts lt in
    let m = made_live old (get_or os i no_opening) (get_or es i no_transcript) id li of in
    let now : IsTranscriptOf setup new (with_more chunk (get_or os i no_opening)) (get_or es i no_transcript) = of_live setup new (with_more chunk (get_or os i no_opening)) (get_or es i no_transcript) id li of.name_is of.used_is m.0 (fed_by setup (find old.slots id) (find new.slots id) (get_or es i no_transcript).made (get_or os i no_opening).text chunk fed m.1) in
    let s : AreTranscripts setup new 0 (set os i (with_more chunk (get_or os i no_opening))) (set es i (get_or es i no_transcript)) = transcripts_set old new id 0 os es i (with_more chunk (get_or os i no_opening)) (get_or es i no_transcript) (keeps_only old new id others) p.transcripts lt li.id_is li.id_is now in
    let n : length os ≡ length es = transcripts_len setup old 0 os es p.transcripts in
    record {
      transcripts = rw (set-get_or es i no_transcript) at s;
      count_is = others.count_is ∙ (p.count_is ∙ sym (held_set os i (with_more chunk (get_or os i no_opening)) (omega arith) refl));
      max_is = others.max_is ∙ p.max_is;
      setup_is = others.setup_is ∙ p.setup_is;
      few = (let b : new.slots.next ≡ old.slots.next = others.next_is in let c : old.slots.next ≤ length es = p.few in omega arith);
    }

pub id_none : (used : Bool) (id : Option SessionId) → used ≡ true → cond used id None ≡ None → id ≡ None
id_none true id u e = e
id_none false id u e = absurd (cc)

pub none_made : (setup : Setup) (h : HostState) (id : Option SessionId) (used refused : Bool) (text made : List ℕ) → id ≡ None → HasMade setup h id used refused text made → refused ≡ true
none_made setup h id used refused text made e m = rw e at m

pub made_none : (setup : Setup) (h : HostState) (id : Option SessionId) (used refused : Bool) (text made : List ℕ) → id ≡ None → refused ≡ true → HasMade setup h id used refused text made
made_none setup h id used refused text made e m = rw e m

pub fed_refused : (h : HostState) (es : List Transcript) (i : ℕ) (x : Transcript) (chunk : List ℕ) → i < length es → x ≡ get_or es i x → (get_or es i no_transcript).in_use ≡ true → open_id x ≡ None → IsSent (play h es) (play h es) i chunk
fed_refused h es i x chunk lt e used l setup slots os p =
    let a : get_or es i no_transcript ≡ x = item_is es i x lt e in
    let none : (get_or es i no_transcript).id ≡ None = id_none (get_or es i no_transcript).in_use (get_or es i no_transcript).id used (ap open_id a ∙ l) in
    let of : IsTranscriptOf setup h (get_or os i no_opening) (get_or es i no_transcript) = transcripts_get setup h 0 os es i p.transcripts lt in
    let now : IsTranscriptOf setup h (with_more chunk (get_or os i no_opening)) (get_or es i no_transcript) = record { name_is = of.name_is; used_is = of.used_is; made_is = made_none setup h (get_or es i no_transcript).id _ _ _ _ none (none_made setup h (get_or es i no_transcript).id _ _ _ _ none of.made_is) } in
    let s : AreTranscripts setup h 0 (set os i (with_more chunk (get_or os i no_opening))) (set es i (get_or es i no_transcript)) = transcripts_text h 0 os es i (with_more chunk (get_or os i no_opening)) (get_or es i no_transcript) p.transcripts lt refl now in
    let n : length os ≡ length es = transcripts_len setup h 0 os es p.transcripts in
    record {
      transcripts = rw (set-get_or es i no_transcript) at s;
      count_is = p.count_is ∙ sym (held_set os i (with_more chunk (get_or os i no_opening)) (omega arith) refl);
      max_is = p.max_is;
      setup_is = p.setup_is;
      few = p.few;
    }

-- one chunk after another
pub played_fed : (old mid new : HostState) (es fs gs : List Transcript) (i : ℕ) (chunk : List ℕ) → KeepsPlayback (play old es) (play mid fs) → IsSent (play mid fs) (play new gs) i chunk → IsSent (play old es) (play new gs) i chunk
played_fed old mid new es fs gs i chunk a b setup slots os p = b setup slots os (a setup slots os p)

pub fed_played : (old mid new : HostState) (es fs gs : List Transcript) (i : ℕ) (chunk : List ℕ) → IsSent (play old es) (play mid fs) i chunk → KeepsPlayback (play mid fs) (play new gs) → IsSent (play old es) (play new gs) i chunk
fed_played old mid new es fs gs i chunk a b setup slots os p = b setup slots (set os i (with_more chunk (get_or os i no_opening))) (a setup slots os p)

set_twice : (os : List Opening) (i : ℕ) (a b : Opening) → set (set os i a) i b ≡ set os i b
set_twice [] i a b = refl
set_twice (o ∷ os) zero a b = refl
set_twice (o ∷ os) (suc i) a b = ap (λ rest. o ∷ rest) (set_twice os i a b)

more_more : (os : List Opening) (i : ℕ) (xs ys : List ℕ) → i < length os → set (set os i (with_more xs (get_or os i no_opening))) i (with_more ys (get_or (set os i (with_more xs (get_or os i no_opening))) i no_opening)) ≡ set os i (with_more (xs ++ ys) (get_or os i no_opening))
more_more os i xs ys lt =
    let o : Opening = get_or os i no_opening in
    let same : get_or (set os i (with_more xs o)) i no_opening ≡ with_more xs o = get_or-set_same os i (with_more xs o) no_opening lt in
    let text : with_more ys (with_more xs o) ≡ with_more (xs ++ ys) o = ap (λ (t : List ℕ). (let r : Opening = record o { text = t } in r)) (append_assoc o.text xs ys) in
    set_twice os i (with_more xs o) (with_more ys (get_or (set os i (with_more xs o)) i no_opening)) ∙ ap (set os i) (ap (with_more ys) same ∙ text)

pub fed_more : (old mid new : HostState) (es fs gs : List Transcript) (i : ℕ) (xs ys all : List ℕ) → i < length es → all ≡ xs ++ ys → IsSent (play old es) (play mid fs) i xs → IsSent (play mid fs) (play new gs) i ys → IsSent (play old es) (play new gs) i all
fed_more old mid new es fs gs i xs ys all lt e a b setup slots os p =
    let q : IsPlayback setup slots mid (set os i (with_more xs (get_or os i no_opening))) fs = a setup slots os p in
    let n : length os ≡ length es = transcripts_len setup old 0 os es p.transcripts in
    let r : IsPlayback setup slots new (set (set os i (with_more xs (get_or os i no_opening))) i (with_more ys (get_or (set os i (with_more xs (get_or os i no_opening))) i no_opening))) gs = b setup slots (set os i (with_more xs (get_or os i no_opening))) q in
    rw e (rw (more_more os i xs ys (omega arith)) at r)

pub fed_none : (h : HostState) (es : List Transcript) (i : ℕ) → IsSent (play h es) (play h es) i []
fed_none h es i setup slots os p =
    let o : Opening = get_or os i no_opening in
    let same : with_more [] o ≡ o = ap (λ (t : List ℕ). (let r : Opening = record o { text = t } in r)) (append-nil o.text) in
    rw (ap (set os i) same ∙ set-get_or os i no_opening) p

-- the text up to `rest` was fed
pub record IsFedTo (old : HostState) (es : List Transcript) (now : HostState) (fs : List Transcript) (i : ℕ) (text rest : List ℕ) : Type 0 where
  pub done : List ℕ
  pub split : text ≡ done ++ rest
  pub fed : IsSent (play old es) (play now fs) i done

pub fed_start : (h : HostState) (es : List Transcript) (i : ℕ) (text : List ℕ) → IsFedTo h es h es i text text
fed_start h es i text = record { done = []; split = refl; fed = fed_none h es i }

pub fed_next : (old mid new : HostState) (es fs gs : List Transcript) (i : ℕ) (text rest chunk left : List ℕ) → i < length es → IsFedTo old es mid fs i text rest → IsSent (play mid fs) (play new gs) i chunk → rest ≡ chunk ++ left → IsFedTo old es new gs i text left
fed_next old mid new es fs gs i text rest chunk left lt f b e = record {
  done = f.done ++ chunk;
  split = f.split ∙ (ap (λ xs. f.done ++ xs) e ∙ sym (append_assoc f.done chunk left));
  fed = fed_more old mid new es fs gs i f.done chunk (f.done ++ chunk) lt refl f.fed b;
}

pub fed_whole : (old mid new end : HostState) (es fs gs hs : List Transcript) (i : ℕ) (text rest : List ℕ) → i < length es → IsFedTo old es mid fs i text rest → rest ≡ [] → IsSent (play mid fs) (play new gs) i (LINE_FEED ∷ []) → KeepsPlayback (play new gs) (play end hs) → IsSent (play old es) (play end hs) i (text ++ LINE_FEED ∷ [])
fed_whole old mid new end es fs gs hs i text rest lt f none b last =
    let same : text ≡ f.done = f.split ∙ (ap (λ xs. f.done ++ xs) none ∙ append-nil f.done) in
    fed_played old new end es gs hs i (text ++ LINE_FEED ∷ []) (fed_more old mid new es fs gs i f.done (LINE_FEED ∷ []) (text ++ LINE_FEED ∷ []) lt (rw same refl) f.fed b) last

pub rounds_played : (old new : HostState) (es : List Transcript) → KeepsRepliesDue old new → KeepsPlayback (play old es) (play new es)
rounds_played old new es k setup slots os p = record {
  transcripts = transcripts_due setup old new 0 os es k p.transcripts;
  count_is = k.count_is ∙ p.count_is;
  max_is = k.max_is ∙ p.max_is;
  setup_is = k.setup_is ∙ p.setup_is;
  few = (let b : new.slots.next ≡ old.slots.next = k.next_is in let c : old.slots.next ≤ length es = p.few in omega arith);
}

-- a list is empty if its length is zero
pub empty_list : (xs : List ℕ) (b : Bool) → b ≡ (length xs == 0) → b ≡ true → xs ≡ []
empty_list [] b e f = refl
empty_list (x ∷ xs) b e f = (let z : length (x ∷ xs) ≡ 0 = eqb-true (length (x ∷ xs)) 0 (sym e ∙ f) in absurd (omega arith))
