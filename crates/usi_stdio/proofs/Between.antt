-- A run over a front end, between two reads and at its ends.
use Rattle.std.proofs.Common.{◌≡◌, ◌<◌, ◌+◌, ◌-◌, ◌^◌, ℕ, List, [], ◌∷◌, ◌++◌, Bool, Option, None, Some, Result, IsErrAnd, Ok, Err, refl, sym, subst, ap, ◌∙◌, append_assoc, append-nil, true, false, inl, inr, length, take, ◌≤◌, arith}
use Rattle.std.specs.Io.KnownBytes.{Appends, Consumes, IsAtEnd, Keeps}
use Rattle.std.proofs.KnownBytes.{Appends-nil, Appends-trans, Appends-kept, Consumes-nil, Consumes-trans, Consumes-kept, Keeps-refl}
use Rattle.usi_texts.specs.declared.setup.Setup.{Setup}
use Rattle.usi_lines.specs.Lines.{lines}
use Rattle.usi_session.specs.declared.state.State.{State}
use Rattle.usi_session.specs.Answer.{initial_state_under}
use Rattle.usi_session.specs.Due.{SessionView, due, state_due, wants_input, new_session_under}
use Rattle.usi_session.specs.WholeStream.{replies_under, state_from, is_over_after_under}
use Rattle.usi_session.proofs.Settled.{due-over, due-wanting, state_due-over, state_due-wanting, wants_after, new_wants_under, initial_state_alive_under}
use Rattle.usi_session.specs.declared.limits.TheConstants.{CHUNK_MAX}
use Rattle.usi_stdio.specs.Calls.{StdioCall, Read, FailedRead, StdioReport, ReadsInput, Makes, CallsTake, given_by_call, of_calls, taken_by_call}
use Rattle.usi_stdio.specs.Dialogue.{Talk, Talks, IsDialogue, IsFront, EndsAs, MayFollow, after_call, after_calls, asked_by_read, no_call}
use Rattle.usi_stdio.specs.Saying.{quiet, SaysTo, SaysPrefix, AnswersChunk, asked_by}
use Rattle.usi_stdio.specs.Stdio.{StopsInTime, IsFrontEndServed, IsFrontEndLeft}
use Rattle.usi_stdio.specs.declared.streams.StdioFault.{StdioFault}
use Rattle.usi_stdio.specs.declared.streams.StdioFault.TheVariants.{OutOfMemory, ReadFailed, WriteFailed}
use Rattle.usi_stdio.proofs.Talking.{called_none, called_then, after_both, after_one, dialogue_both, dialogue_call, gives_at, read_goes_on, takes_at}

-- between two reads: the bytes written and those due are the replies, and the session may be fed
pub record IsBetween (setup : Setup) (before now : StdioReport) (s : SessionView) (reads : ℕ) : Type 0 where
  pub read : List ℕ
  pub consumed : Consumes before.unread now.unread read
  pub made : List ℕ
  pub written : Appends before.written now.written made
  pub calls : List StdioCall
  pub called : Makes before.calls now.calls calls
  pub dialogue : IsDialogue setup no_call calls
  pub stands : after_calls no_call calls ≡ quiet read reads made
  pub owed : (x : List ℕ) → made ++ due s x ≡ replies_under setup (read ++ x)
  pub left : (x : List ℕ) → state_due s x ≡ state_from (initial_state_under setup) (lines (read ++ x))
  pub empty : s.queued ≡ []
  pub wants : wants_input s ≡ true

-- after a read: as between two reads, with a chunk that is not answered yet
pub record IsRead (setup : Setup) (before now : StdioReport) (s : SessionView) (reads : ℕ) (chunk : List ℕ) : Type 0 where
  pub old : StdioReport
  pub b : IsBetween setup before old s reads
  pub consumed : Consumes before.unread now.unread (b.read ++ chunk)
  pub written : Appends before.written now.written b.made
  pub calls : List StdioCall
  pub called : Makes before.calls now.calls calls
  pub dialogue : IsDialogue setup no_call calls
  pub stands : after_calls no_call calls ≡ record (quiet (b.read ++ chunk) (reads + 1) b.made) { outcome = asked_by_read chunk }

-- a session that wants input is not over
alive : {setup : Setup} (before now : StdioReport) (s : SessionView) (reads : ℕ) (b : IsBetween setup before now s reads) → is_over_after_under setup b.read ≡ false
alive {setup} before now s reads b = ap (λ xs. is_over_after_under setup xs) (sym (append-nil b.read)) ∙ (ap (λ (t : State). t.is_over) (sym (b.left [])) ∙ state_due-wanting s b.wants)

-- all replies are written while the session wants input
all_written : {setup : Setup} (before now : StdioReport) (s : SessionView) (reads : ℕ) (b : IsBetween setup before now s reads) → b.made ≡ replies_under setup b.read
all_written {setup} before now s reads b =
    sym (append-nil b.made) ∙ (ap (λ xs. b.made ++ xs) (sym (due-wanting s b.wants ∙ b.empty)) ∙ (b.owed [] ∙ ap (replies_under setup) (append-nil b.read)))

-- the session was not over before this chunk
stops_at : {setup : Setup} (before now : StdioReport) (s : SessionView) (reads : ℕ) (chunk : List ℕ) (b : IsBetween setup before now s reads) → length chunk ≤ CHUNK_MAX → StopsInTime setup (b.read ++ chunk)
stops_at {setup} before now s reads chunk b most = record {
  prefix = b.read;
  chunk = chunk;
  split = refl;
  most = most;
  alive = alive before now s reads b;
}

-- the session was not over before the last chunk if nothing further was read
stops_between : {setup : Setup} (before now : StdioReport) (s : SessionView) (reads : ℕ) (b : IsBetween setup before now s reads) → StopsInTime setup b.read
stops_between {setup} before now s reads b =
    let all : StopsInTime setup (b.read ++ []) = stops_at before now s reads [] b (omega arith) in
    rw (append-nil b.read) at all

-- a dialogue up to this state, at which the run ends
talks_at : (setup : Setup) (old new : Option (List StdioCall)) (calls : List StdioCall) (t : Talk) (result : Result (Unit {0}) StdioFault) → Makes old new calls → IsDialogue setup no_call calls → after_calls no_call calls ≡ t → IsFront setup t → EndsAs setup t result → Talks setup old new result
talks_at setup old new calls t result called dialogue stands front ended = record {
  calls = calls;
  called = called;
  dialogue = dialogue;
  front = rw stands front;
  ended = rw stands ended;
}

-- the run ends with the fault that the last call asked for
ends_by : (setup : Setup) (t : Talk) (fault : StdioFault) → t.outcome ≡ asked_by fault → EndsAs setup t (Err fault)
ends_by setup t OutOfMemory e = e
ends_by setup t ReadFailed e = inl e
ends_by setup t WriteFailed e = e

-- a run that read and wrote nothing
pub left_start : (setup : Setup) (r : StdioReport) → IsFrontEndLeft setup r r
left_start setup r = record {
  cut_short = record {
    read = [];
    consumed = Consumes-nil r.unread;
    written = (replies_under setup [], record { done = []; appended = Appends-nil r.written; split = refl });
    stops = record { prefix = []; chunk = []; split = refl; most = omega arith; alive = initial_state_alive_under setup };
  };
  given = Appends-nil (of_calls given_by_call r.calls);
  taken = Appends-nil (of_calls taken_by_call r.calls);
}

-- a run before its first read
pub between_start : (setup : Setup) (r : StdioReport) (s : SessionView) → s ≡ new_session_under setup → ((x : List ℕ) → due s x ≡ replies_under setup x) → ((x : List ℕ) → state_due s x ≡ state_from (initial_state_under setup) (lines x)) → IsBetween setup r r s 0
between_start setup r s new owed left = record {
  read = [];
  consumed = Consumes-nil r.unread;
  made = [];
  written = Appends-nil r.written;
  calls = [];
  called = called_none r.calls;
  dialogue = tt;
  stands = refl;
  owed = owed;
  left = left;
  empty = ap (λ (t : SessionView). t.queued) new;
  wants = rw new (new_wants_under setup);
}

-- a read may follow
may_read : {setup : Setup} (before now : StdioReport) (s : SessionView) (reads : ℕ) (b : IsBetween setup before now s reads) (chunk : List ℕ) → MayFollow setup (quiet b.read reads b.made) (Read chunk)
may_read {setup} before now s reads b chunk = ((all_written before now s reads b, refl), alive before now s reads b)

-- a chunk was read
pub read_more : {setup : Setup} {E : Type 0} (before mid now : StdioReport) (s : SessionView) (reads n : ℕ) (buf chunk : List ℕ) → IsBetween setup before mid s reads → ReadsInput {E = E} mid now (Ok n) buf → chunk ≡ take n buf → IsRead setup before now s reads chunk
read_more {setup} before mid now s reads n buf chunk b r same = rw same (record {
  old = mid;
  b = b;
  consumed = Consumes-trans before.unread mid.unread now.unread b.read (take n buf) b.consumed r.consumed.0;
  written = Appends-kept before.written mid.written now.written b.made b.written r.written;
  calls = b.calls ++ (Read (take n buf) ∷ []);
  called = called_then before.calls mid.calls now.calls b.calls (Read (take n buf) ∷ []) b.called r.called;
  dialogue = dialogue_call setup no_call b.calls (Read (take n buf)) b.dialogue (ap (λ (t : Talk). t.outcome) b.stands) (rw b.stands (may_read before mid s reads b (take n buf)));
  stands = after_one no_call b.calls (Read (take n buf)) ∙ ap (λ t. after_call t (Read (take n buf))) b.stands;
})

-- these calls read and wrote nothing further
left_between : {setup : Setup} (before mid now : StdioReport) (s : SessionView) (reads : ℕ) (calls : List StdioCall) (o : Option (Result (Unit {0}) StdioFault)) (b : IsBetween setup before mid s reads) → Keeps mid.unread now.unread → Keeps mid.written now.written
    → Makes before.calls now.calls calls → after_calls no_call calls ≡ record (quiet b.read reads b.made) { outcome = o } → IsFrontEndLeft setup before now
left_between {setup} before mid now s reads calls o b unread written called stands = record {
  cut_short = record {
    read = b.read;
    consumed = Consumes-kept before.unread mid.unread now.unread b.read b.consumed unread;
    written = (
      [],
      record {
        done = b.made;
        appended = Appends-kept before.written mid.written now.written b.made b.written written;
        split = sym (all_written before mid s reads b) ∙ sym (append-nil b.made);
      },
    );
    stops = stops_between before mid s reads b;
  };
  given = gives_at before.calls now.calls calls _ called stands;
  taken = takes_at before.calls now.calls calls _ called stands;
}

front_between : {setup : Setup} (before now : StdioReport) (s : SessionView) (reads : ℕ) (b : IsBetween setup before now s reads) (o : Option (Result (Unit {0}) StdioFault)) → IsFront setup (record (quiet b.read reads b.made) { outcome = o })
front_between {setup} before now s reads b o = ([], sym (all_written before now s reads b) ∙ sym (append-nil b.made))

-- a read failed
pub left_failed : {setup : Setup} {E : Type 0} (before mid now : StdioReport) (s : SessionView) (reads : ℕ) (buf : List ℕ) (error : E) → IsBetween setup before mid s reads → ReadsInput mid now (Err error) buf → IsFrontEndLeft setup before now
left_failed {setup} before mid now s reads buf error b r =
    left_between before mid now s reads (b.calls ++ (FailedRead ∷ [])) (Some (Err ReadFailed)) b r.consumed r.written (called_then before.calls mid.calls now.calls b.calls (FailedRead ∷ []) b.called r.called) (after_one no_call b.calls FailedRead ∙ ap (λ t. after_call t FailedRead) b.stands)

pub talks_failed : {setup : Setup} {E : Type 0} (before mid now : StdioReport) (s : SessionView) (reads : ℕ) (buf : List ℕ) (error : E) → IsBetween setup before mid s reads → ReadsInput mid now (Err error) buf → Talks setup before.calls now.calls (Err ReadFailed)
talks_failed {setup} before mid now s reads buf error b r =
    talks_at setup before.calls now.calls (b.calls ++ (FailedRead ∷ [])) (record (quiet b.read reads b.made) { outcome = Some (Err ReadFailed) }) (Err ReadFailed) (called_then before.calls mid.calls now.calls b.calls (FailedRead ∷ []) b.called r.called) (dialogue_call setup no_call b.calls FailedRead b.dialogue (ap (λ (t : Talk). t.outcome) b.stands) (rw b.stands (may_read before mid s reads b []))) (after_one no_call b.calls FailedRead ∙ ap (λ t. after_call t FailedRead) b.stands) (front_between before mid s reads b (Some (Err ReadFailed))) (inl refl)

-- no further read is tried
pub left_many : {setup : Setup} (before mid : StdioReport) (s : SessionView) (reads : ℕ) → IsBetween setup before mid s reads → IsFrontEndLeft setup before mid
left_many {setup} before mid s reads b = left_between before mid mid s reads b.calls None b (Keeps-refl mid.unread) (Keeps-refl mid.written) b.called b.stands

pub talks_many : {setup : Setup} (before mid : StdioReport) (s : SessionView) (reads : ℕ) → IsBetween setup before mid s reads → reads ≡ 2 ^ 64 - 1 → Talks setup before.calls mid.calls (Err ReadFailed)
talks_many {setup} before mid s reads b all =
    talks_at setup before.calls mid.calls b.calls (quiet b.read reads b.made) (Err ReadFailed) b.called b.dialogue b.stands (front_between before mid s reads b None) (inr (refl, all))

-- the input ended
all_at_end : {setup : Setup} (before now : StdioReport) (s : SessionView) (reads : ℕ) (none : List ℕ) (r : IsRead setup before now s reads none) → none ≡ [] → r.b.made ≡ replies_under setup (r.b.read ++ none)
all_at_end {setup} before now s reads none r e =
    all_written before r.old s reads r.b ∙ ap (replies_under setup) (sym (ap (λ xs. r.b.read ++ xs) e ∙ append-nil r.b.read))

pub served_at_end : {setup : Setup} (before now : StdioReport) (s : SessionView) (reads : ℕ) (none : List ℕ) → IsRead setup before now s reads none → none ≡ [] → IsAtEnd now.unread → IsFrontEndServed setup before now
served_at_end {setup} before now s reads none r e ended =
    let written : r.b.made ≡ replies_under setup (r.b.read ++ none) = all_at_end before now s reads none r e in
    record {
      answered = record {
        read = r.b.read ++ none;
        consumed = r.consumed;
        written = subst (λ bytes. Appends before.written now.written bytes) written r.written;
        ended = inl ended;
        stops = stops_at before r.old s reads none r.b (rw e (omega arith));
      };
      given = gives_at before.calls now.calls r.calls _ r.called r.stands;
      taken = subst (λ bytes. CallsTake before.calls now.calls bytes) written (takes_at before.calls now.calls r.calls _ r.called r.stands);
    }

pub talks_at_end : {setup : Setup} (before now : StdioReport) (s : SessionView) (reads : ℕ) (none : List ℕ) (done : Unit {0}) → IsRead setup before now s reads none → none ≡ [] → Talks setup before.calls now.calls (Ok done)
talks_at_end {setup} before now s reads none done r e =
    let written : r.b.made ≡ replies_under setup (r.b.read ++ none) = all_at_end before now s reads none r e in
    talks_at setup before.calls now.calls r.calls _ (Ok done) r.called r.dialogue r.stands ([], sym written ∙ sym (append-nil r.b.made)) ((written, refl), inl (ap asked_by_read e))

-- the bytes written and due once a chunk was answered
worked : {setup : Setup} (before now new : StdioReport) (s t : SessionView) (reads : ℕ) (chunk : List ℕ) (r : IsRead setup before now s reads chunk) (w : AnswersChunk s t chunk now new) (x : List ℕ) → (r.b.made ++ w.made) ++ due t x ≡ replies_under setup ((r.b.read ++ chunk) ++ x)
worked {setup} before now new s t reads chunk r w x =
    append_assoc r.b.made w.made (due t x) ∙ (ap (λ xs. r.b.made ++ xs) (sym (w.owed x)) ∙ (r.b.owed (chunk ++ x) ∙ ap (replies_under setup) (sym (append_assoc r.b.read chunk x))))

left_more : {setup : Setup} (before now new : StdioReport) (s t : SessionView) (reads : ℕ) (chunk : List ℕ) (r : IsRead setup before now s reads chunk) (w : AnswersChunk s t chunk now new) (x : List ℕ) → state_due t x ≡ state_from (initial_state_under setup) (lines ((r.b.read ++ chunk) ++ x))
left_more {setup} before now new s t reads chunk r w x =
    w.left x ∙ (r.b.left (chunk ++ x) ∙ ap (λ xs. state_from (initial_state_under setup) (lines xs)) (sym (append_assoc r.b.read chunk x)))

-- once a chunk was read, all is flushed and no result is asked for
stands_quiet : {setup : Setup} (before now : StdioReport) (s : SessionView) (reads : ℕ) (chunk : List ℕ) (r : IsRead setup before now s reads chunk) → 0 < length chunk → after_calls no_call r.calls ≡ quiet (r.b.read ++ chunk) (reads + 1) r.b.made
stands_quiet {setup} before now s reads chunk r some =
    r.stands ∙ ap (λ o. record (quiet (r.b.read ++ chunk) (reads + 1) r.b.made) { outcome = o }) (read_goes_on chunk some)

said_dialogue : {setup : Setup} (before now new : StdioReport) (s : SessionView) (reads : ℕ) (chunk bytes : List ℕ) (f : Bool) (o : Option (Result (Unit {0}) StdioFault)) (r : IsRead setup before now s reads chunk) → 0 < length chunk → (w : SaysTo f o now new bytes) → IsDialogue setup no_call (r.calls ++ w.calls)
said_dialogue {setup} before now new s reads chunk bytes f o r some w =
    dialogue_both setup no_call r.calls w.calls r.dialogue (rw (stands_quiet before now s reads chunk r some) (w.spoken.dialogue setup (r.b.read ++ chunk) (reads + 1) r.b.made))

said_stands : {setup : Setup} (before now new : StdioReport) (s : SessionView) (reads : ℕ) (chunk bytes : List ℕ) (f : Bool) (o : Option (Result (Unit {0}) StdioFault)) (r : IsRead setup before now s reads chunk) → 0 < length chunk → (w : SaysTo f o now new bytes) → after_calls no_call (r.calls ++ w.calls) ≡ record { read = r.b.read ++ chunk; reads = reads + 1; written = r.b.made ++ bytes; is_flushed = f; outcome = o }
said_stands {setup} before now new s reads chunk bytes f o r some w =
    after_both no_call r.calls w.calls ∙ (ap (λ t. after_calls t w.calls) (stands_quiet before now s reads chunk r some) ∙ w.spoken.after (r.b.read ++ chunk) (reads + 1) r.b.made)

-- a chunk was answered
pub between_more : {setup : Setup} (before now new : StdioReport) (s t : SessionView) (reads : ℕ) (chunk : List ℕ) → IsRead setup before now s reads chunk → 0 < length chunk → AnswersChunk s t chunk now new → t.state.is_over ≡ false → IsBetween setup before new t (reads + 1)
between_more {setup} before now new s t reads chunk r some w live = record {
  read = r.b.read ++ chunk;
  consumed = rw w.written.unread r.consumed;
  made = r.b.made ++ w.made;
  written = Appends-trans before.written now.written new.written r.b.made w.made r.written w.written.written;
  calls = r.calls ++ w.written.calls;
  called = called_then before.calls now.calls new.calls r.calls w.written.calls r.called w.written.called;
  dialogue = said_dialogue before now new s reads chunk w.made _ _ r some w.written;
  stands = said_stands before now new s reads chunk w.made _ _ r some w.written;
  owed = worked before now new s t reads chunk r w;
  left = left_more before now new s t reads chunk r w;
  empty = w.empty;
  wants = wants_after t live w.settled w.empty;
}

-- the session is over
all_said : {setup : Setup} (before now new : StdioReport) (s t : SessionView) (reads : ℕ) (chunk : List ℕ) (r : IsRead setup before now s reads chunk) (w : AnswersChunk s t chunk now new) → t.state.is_over ≡ true → r.b.made ++ w.made ≡ replies_under setup (r.b.read ++ chunk)
all_said {setup} before now new s t reads chunk r w over =
    sym (append-nil (r.b.made ++ w.made)) ∙ (ap (λ xs. (r.b.made ++ w.made) ++ xs) (sym (due-over t [] over ∙ w.empty)) ∙ (worked before now new s t reads chunk r w [] ∙ ap (replies_under setup) (append-nil (r.b.read ++ chunk))))

is_over : {setup : Setup} (before now new : StdioReport) (s t : SessionView) (reads : ℕ) (chunk : List ℕ) (r : IsRead setup before now s reads chunk) (w : AnswersChunk s t chunk now new) → t.state.is_over ≡ true → is_over_after_under setup (r.b.read ++ chunk) ≡ true
is_over {setup} before now new s t reads chunk r w over =
    ap (λ xs. is_over_after_under setup xs) (sym (append-nil (r.b.read ++ chunk))) ∙ (ap (λ (q : State). q.is_over) (sym (left_more before now new s t reads chunk r w [])) ∙ state_due-over t [] over)

pub served_over : {setup : Setup} (before now new : StdioReport) (s t : SessionView) (reads : ℕ) (chunk : List ℕ) → IsRead setup before now s reads chunk → 0 < length chunk → AnswersChunk s t chunk now new → t.state.is_over ≡ true → length chunk ≤ CHUNK_MAX → IsFrontEndServed setup before new
served_over {setup} before now new s t reads chunk r some w over most =
    let all : r.b.made ++ w.made ≡ replies_under setup (r.b.read ++ chunk) = all_said before now new s t reads chunk r w over in
    let called : Makes before.calls new.calls (r.calls ++ w.written.calls) = called_then before.calls now.calls new.calls r.calls w.written.calls r.called w.written.called in
    let taken : CallsTake before.calls new.calls (r.b.made ++ w.made) = takes_at before.calls new.calls (r.calls ++ w.written.calls) _ called (said_stands before now new s reads chunk w.made _ _ r some w.written) in
    let appended : Appends before.written new.written (r.b.made ++ w.made) = Appends-trans before.written now.written new.written r.b.made w.made r.written w.written.written in
    record {
      answered = record {
        read = r.b.read ++ chunk;
        consumed = rw w.written.unread r.consumed;
        written = rw all at appended;
        ended = inr (is_over before now new s t reads chunk r w over);
        stops = stops_at before r.old s reads chunk r.b most;
      };
      given = gives_at before.calls new.calls (r.calls ++ w.written.calls) _ called (said_stands before now new s reads chunk w.made _ _ r some w.written);
      taken = rw all at taken;
    }

pub talks_over : {setup : Setup} (before now new : StdioReport) (s t : SessionView) (reads : ℕ) (chunk : List ℕ) (done : Unit {0}) → IsRead setup before now s reads chunk → 0 < length chunk → AnswersChunk s t chunk now new → t.state.is_over ≡ true → Talks setup before.calls new.calls (Ok done)
talks_over {setup} before now new s t reads chunk done r some w over =
    let all : r.b.made ++ w.made ≡ replies_under setup (r.b.read ++ chunk) = all_said before now new s t reads chunk r w over in
    talks_at setup before.calls new.calls (r.calls ++ w.written.calls) _ (Ok done) (called_then before.calls now.calls new.calls r.calls w.written.calls r.called w.written.called) (said_dialogue before now new s reads chunk w.made _ _ r some w.written) (said_stands before now new s reads chunk w.made _ _ r some w.written) ([], sym all ∙ sym (append-nil (r.b.made ++ w.made))) ((all, refl), inr (refl, is_over before now new s t reads chunk r w over))

-- a fault came while a chunk was answered
split_left : {setup : Setup} (before now : StdioReport) (s : SessionView) (reads : ℕ) (chunk done left : List ℕ) (r : IsRead setup before now s reads chunk) → due s chunk ≡ done ++ left → replies_under setup (r.b.read ++ chunk) ≡ (r.b.made ++ done) ++ left
split_left {setup} before now s reads chunk done left r e =
    sym (r.b.owed chunk) ∙ (ap (λ xs. r.b.made ++ xs) e ∙ sym (append_assoc r.b.made done left))

pub left_chunk : {setup : Setup} (before now new : StdioReport) (s : SessionView) (reads : ℕ) (chunk : List ℕ) (fault : StdioFault) → IsRead setup before now s reads chunk → 0 < length chunk → SaysPrefix now new (due s chunk) fault → length chunk ≤ CHUNK_MAX → IsFrontEndLeft setup before new
left_chunk {setup} before now new s reads chunk fault r some (left, w) most =
    let called : Makes before.calls new.calls (r.calls ++ w.said.calls) = called_then before.calls now.calls new.calls r.calls w.said.calls r.called w.said.called in
    record {
      cut_short = record {
        read = r.b.read ++ chunk;
        consumed = rw w.said.unread r.consumed;
        written = (
          left,
          record {
            done = r.b.made ++ w.done;
            appended = Appends-trans before.written now.written new.written r.b.made w.done r.written w.said.written;
            split = split_left before now s reads chunk w.done left r w.split;
          },
        );
        stops = stops_at before r.old s reads chunk r.b most;
      };
      given = gives_at before.calls new.calls (r.calls ++ w.said.calls) _ called (said_stands before now new s reads chunk w.done _ _ r some w.said);
      taken = takes_at before.calls new.calls (r.calls ++ w.said.calls) _ called (said_stands before now new s reads chunk w.done _ _ r some w.said);
    }

pub talks_chunk : {setup : Setup} (before now new : StdioReport) (s : SessionView) (reads : ℕ) (chunk : List ℕ) (fault : StdioFault) → IsRead setup before now s reads chunk → 0 < length chunk → SaysPrefix now new (due s chunk) fault → Talks setup before.calls new.calls (Err fault)
talks_chunk {setup} before now new s reads chunk fault r some (left, w) =
    let t : Talk = record { read = r.b.read ++ chunk; reads = reads + 1; written = r.b.made ++ w.done; is_flushed = w.is_flushed; outcome = asked_by fault } in
    talks_at setup before.calls new.calls (r.calls ++ w.said.calls) t (Err fault) (called_then before.calls now.calls new.calls r.calls w.said.calls r.called w.said.called) (said_dialogue before now new s reads chunk w.done _ _ r some w.said) (said_stands before now new s reads chunk w.done _ _ r some w.said) (left, split_left before now s reads chunk w.done left r w.split) (ends_by setup t fault refl)

-- the dialogue of a run that passes a fault on
pub talks_passed : {setup : Setup} (old new : Option (List StdioCall)) (given : Result (Unit {0}) StdioFault) (fault : StdioFault) → IsErrAnd given (λ e. e ≡ fault) → Talks setup old new (Err fault) → Talks setup old new given
talks_passed {setup} old new (Ok done) fault same t = absurd same
talks_passed {setup} old new (Err e) fault same t = rw same t
