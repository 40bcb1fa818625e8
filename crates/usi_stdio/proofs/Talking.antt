-- Calls after calls.
use Rattle.std.proofs.Common.{◌≡◌, ◌<◌, ℕ, List, [], ◌∷◌, ◌++◌, Bool, true, false, Option, None, Some, Result, Err, refl, sym, subst, ap, ◌∙◌, append_assoc, append-nil, length, arith}
use Rattle.std.proofs.KnownBytes.{Appends-nil, Appends-trans}
use Rattle.std.proofs.lemmas.Grind.{flat_map-append}
use Rattle.std.specs.Io.KnownBytes.{Appends}
use Rattle.std.specs.Prelude.{flat_map}
use Rattle.usi_texts.specs.declared.setup.Setup.{Setup}
use Rattle.usi_stdio.specs.Calls.{StdioCall, Read, Write, Flush, FailedRead, FailedWrite, FailedFlush, CallsGive, Makes, StdioReport, CallsTake, given_by_call, of_calls, taken_by_call}
use Rattle.usi_stdio.specs.Dialogue.{Talk, no_call, after_call, after_calls, asked_by_read, asked_by_write, MayFollow, IsDialogue}
use Rattle.usi_stdio.specs.Saying.{quiet, Speaks, SaysTo, SaysFlushed}
use Rattle.usi_stdio.specs.declared.streams.StdioFault.{StdioFault}
use Rattle.usi_stdio.specs.declared.streams.StdioFault.TheVariants.{WriteFailed}

pub called_none : (a : Option (List StdioCall)) → Makes a a []
called_none None = tt
called_none (Some before) = ap (λ (l : List StdioCall). Some l) (sym (append-nil before))

pub called_then : (a b c : Option (List StdioCall)) (x y : List StdioCall) → Makes a b x → Makes b c y → Makes a c (x ++ y)
called_then None b c x y p q = tt
called_then (Some before) b c x y p q =
    let r : Makes (Some (before ++ x)) c y = rw p at q in
    r ∙ ap (λ (l : List StdioCall). Some l) (append_assoc before x y)

-- two stretches of calls in a row
pub after_both : (t : Talk) (x y : List StdioCall) → after_calls t (x ++ y) ≡ after_calls (after_calls t x) y
after_both t [] y = refl
after_both t (c ∷ x) y = after_both (after_call t c) x y

pub dialogue_both : (setup : Setup) (t : Talk) (x y : List StdioCall) → IsDialogue setup t x → IsDialogue setup (after_calls t x) y → IsDialogue setup t (x ++ y)
dialogue_both setup t [] y p q = q
dialogue_both setup t (c ∷ x) y p q = (p.0, p.1, dialogue_both setup (after_call t c) x y p.2 q)

-- one more call
pub dialogue_call : (setup : Setup) (t : Talk) (x : List StdioCall) (c : StdioCall) → IsDialogue setup t x → (after_calls t x).outcome ≡ None → MayFollow setup (after_calls t x) c → IsDialogue setup t (x ++ (c ∷ []))
dialogue_call setup t x c p none may = dialogue_both setup t x (c ∷ []) p (none, may, tt)

pub after_one : (t : Talk) (x : List StdioCall) (c : StdioCall) → after_calls t (x ++ (c ∷ [])) ≡ after_call (after_calls t x) c
after_one t x c = after_both t x (c ∷ [])

-- ---- the bytes of calls

-- the bytes of further calls come behind those of earlier ones
pub moves_more : (bytes_of : StdioCall → List ℕ) (a b : Option (List StdioCall)) (calls : List StdioCall) → Makes a b calls → Appends (of_calls bytes_of a) (of_calls bytes_of b) (flat_map bytes_of calls)
moves_more bytes_of None b calls m = tt
moves_more bytes_of (Some before) b calls m = rw m (flat_map-append bytes_of before calls)

-- the bytes read and written after some calls
moves_after : (t : Talk) (calls : List StdioCall) → ((after_calls t calls).read ≡ t.read ++ flat_map given_by_call calls) × ((after_calls t calls).written ≡ t.written ++ flat_map taken_by_call calls)
moves_after t [] = (sym (append-nil t.read), sym (append-nil t.written))
moves_after t (Read bytes ∷ rest) =
    let more = moves_after (after_call t (Read bytes)) rest in
    (more.0 ∙ append_assoc t.read bytes (flat_map given_by_call rest), more.1)
moves_after t (Write bytes ∷ rest) =
    let more = moves_after (after_call t (Write bytes)) rest in
    (more.0, more.1 ∙ append_assoc t.written bytes (flat_map taken_by_call rest))
moves_after t (Flush ∷ rest) = moves_after (after_call t Flush) rest
moves_after t (FailedRead ∷ rest) = moves_after (after_call t FailedRead) rest
moves_after t (FailedWrite ∷ rest) = moves_after (after_call t FailedWrite) rest
moves_after t (FailedFlush ∷ rest) = moves_after (after_call t FailedFlush) rest

pub gives_at : (old new : Option (List StdioCall)) (calls : List StdioCall) (t : Talk) → Makes old new calls → after_calls no_call calls ≡ t → CallsGive old new t.read
gives_at old new calls t called stands =
    subst (λ bytes. Appends (of_calls given_by_call old) (of_calls given_by_call new) bytes) (sym (moves_after no_call calls).0 ∙ ap (λ (u : Talk). u.read) stands) (moves_more given_by_call old new calls called)

pub takes_at : (old new : Option (List StdioCall)) (calls : List StdioCall) (t : Talk) → Makes old new calls → after_calls no_call calls ≡ t → CallsTake old new t.written
takes_at old new calls t called stands =
    subst (λ bytes. Appends (of_calls taken_by_call old) (of_calls taken_by_call new) bytes) (sym (moves_after no_call calls).1 ∙ ap (λ (u : Talk). u.written) stands) (moves_more taken_by_call old new calls called)

-- the calls between two reads give no bytes
pub gives_nothing : (calls : List StdioCall) (bytes : List ℕ) (f : Bool) (o : Option (Result (Unit {0}) StdioFault)) → Speaks calls bytes f o → flat_map given_by_call calls ≡ []
gives_nothing calls bytes f o p = sym (moves_after (quiet [] 0 []) calls).0 ∙ ap (λ (t : Talk). t.read) (p.after [] 0 [])

-- a read or a write of at least one byte asks for no result
pub read_goes_on : (bytes : List ℕ) → 0 < length bytes → asked_by_read bytes ≡ None
read_goes_on [] h = absurd (omega arith)
read_goes_on (b ∷ rest) h = refl

pub write_goes_on : (bytes : List ℕ) → 0 < length bytes → asked_by_write bytes ≡ None
write_goes_on [] h = absurd (omega arith)
write_goes_on (b ∷ rest) h = refl

-- no call between two reads
pub speaks_nothing : Speaks [] [] true None
speaks_nothing = record {
  dialogue = λ setup read reads written. tt;
  after = λ read reads written. ap (λ xs. quiet read reads xs) (sym (append-nil written));
}

pub speaks_then : (x y : List StdioCall) (bs cs : List ℕ) (f : Bool) (o : Option (Result (Unit {0}) StdioFault)) → Speaks x bs true None → Speaks y cs f o → Speaks (x ++ y) (bs ++ cs) f o
speaks_then x y bs cs f o p q = record {
  dialogue = λ setup read reads written. dialogue_both setup (quiet read reads written) x y (p.dialogue setup read reads written) (rw (p.after read reads written) (q.dialogue setup read reads (written ++ bs)));
  after = λ read reads written. after_both (quiet read reads written) x y ∙ (ap (λ t. after_calls t y) (p.after read reads written) ∙ (q.after read reads (written ++ bs) ∙ ap (λ xs. record { read = read; reads = reads; written = xs; is_flushed = f; outcome = o }) (append_assoc written bs cs)));
}

-- a state between two reads
abbrev between : (read : List ℕ) (reads : ℕ) (written : List ℕ) → Bool → Option (Result (Unit {0}) StdioFault) → Talk
between read reads written f o = record { read = read; reads = reads; written = written; is_flushed = f; outcome = o }

-- one more write, which took these bytes
pub speaks_write : (x : List StdioCall) (bs b : List ℕ) (f : Bool) (o : Option (Result (Unit {0}) StdioFault)) → Speaks x bs f None → asked_by_write b ≡ o → Speaks (x ++ (Write b ∷ [])) (bs ++ b) false o
speaks_write x bs b f o p e = record {
  dialogue = λ setup read reads written. dialogue_call setup (quiet read reads written) x (Write b) (p.dialogue setup read reads written) (ap (λ (t : Talk). t.outcome) (p.after read reads written)) tt;
  after = λ read reads written. after_one (quiet read reads written) x (Write b) ∙ (ap (λ t. after_call t (Write b)) (p.after read reads written) ∙ (ap (λ xs. between read reads xs false (asked_by_write b)) (append_assoc written bs b) ∙ ap (λ q. between read reads (written ++ (bs ++ b)) false q) e));
}

pub speaks_flush : (x : List StdioCall) (bs : List ℕ) (f : Bool) → Speaks x bs f None → Speaks (x ++ (Flush ∷ [])) bs true None
speaks_flush x bs f p = record {
  dialogue = λ setup read reads written. dialogue_call setup (quiet read reads written) x Flush (p.dialogue setup read reads written) (ap (λ (t : Talk). t.outcome) (p.after read reads written)) tt;
  after = λ read reads written. after_one (quiet read reads written) x Flush ∙ ap (λ t. after_call t Flush) (p.after read reads written);
}

-- a write or a flush failed
pub speaks_failed_write : (x : List StdioCall) (bs : List ℕ) (f : Bool) → Speaks x bs f None → Speaks (x ++ (FailedWrite ∷ [])) bs f (Some (Err WriteFailed))
speaks_failed_write x bs f p = record {
  dialogue = λ setup read reads written. dialogue_call setup (quiet read reads written) x FailedWrite (p.dialogue setup read reads written) (ap (λ (t : Talk). t.outcome) (p.after read reads written)) tt;
  after = λ read reads written. after_one (quiet read reads written) x FailedWrite ∙ ap (λ t. after_call t FailedWrite) (p.after read reads written);
}

pub speaks_failed_flush : (x : List StdioCall) (bs : List ℕ) (f : Bool) → Speaks x bs f None → Speaks (x ++ (FailedFlush ∷ [])) bs f (Some (Err WriteFailed))
speaks_failed_flush x bs f p = record {
  dialogue = λ setup read reads written. dialogue_call setup (quiet read reads written) x FailedFlush (p.dialogue setup read reads written) (ap (λ (t : Talk). t.outcome) (p.after read reads written)) tt;
  after = λ read reads written. after_one (quiet read reads written) x FailedFlush ∙ ap (λ t. after_call t FailedFlush) (p.after read reads written);
}

-- nothing is written
pub says_nothing : (r : StdioReport) → SaysFlushed r r []
says_nothing r = record {
  unread = refl;
  written = Appends-nil r.written;
  calls = [];
  called = called_none r.calls;
  spoken = speaks_nothing;
}

-- two stretches of writes in a row
pub says_then : (old mid new : StdioReport) (bs cs : List ℕ) (f : Bool) (o : Option (Result (Unit {0}) StdioFault)) → SaysFlushed old mid bs → SaysTo f o mid new cs → SaysTo f o old new (bs ++ cs)
says_then old mid new bs cs f o p q = record {
  unread = q.unread ∙ p.unread;
  written = Appends-trans old.written mid.written new.written bs cs p.written q.written;
  calls = p.calls ++ q.calls;
  called = called_then old.calls mid.calls new.calls p.calls q.calls p.called q.called;
  spoken = speaks_then p.calls q.calls bs cs f o p.spoken q.spoken;
}
