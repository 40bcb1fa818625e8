-- A script read to its end, and its output written.
use Rattle.std.proofs.Common.{◌≡◌, ◌≢◌, ◌<◌, ◌≤◌, ◌+◌, ◌-◌, ◌^◌, ℕ, zero, suc, inl, inr, List, [], ◌∷◌, ◌++◌, Bool, true, Option, None, Some, Result, IsErrAnd, IfErr, Ok, Err, refl, sym, subst, ap, ◌∙◌, length, take, arith, append_assoc, append-nil, length-append}
use Rattle.std.specs.Prelude.{Vec, flat_map, map}
use Rattle.std.specs.Io.KnownBytes.{Consumes, Keeps}
use Rattle.std.proofs.lemmas.Grind.{flat_map-append}
use Rattle.std.proofs.lemmas.List.{map-append}
use Rattle.std.proofs.lemmas.List.Elements.{All-nil, All-push}
use Rattle.std.proofs.KnownBytes.{Appends-kept, Appends-nil, Appends-trans, Consumes-nil, Consumes-trans, Consumes-kept}
use Rattle.usi_texts.specs.declared.setup.Setup.{Setup}
use Rattle.usi_stdio.specs.Calls.{StdioCall, Read, FailedRead, CallsGive, Makes, StdioReport, ReadsInput, given_by_call, of_calls, taken_by_call}
use Rattle.usi_stdio.specs.Saying.{SaysFlushed, SaysPrefix, SaysTo, asked_by}
use Rattle.usi_stdio.proofs.Talking.{called_none, called_then, gives_at, moves_more, takes_at}
use Rattle.usi_stdio.specs.declared.streams.StdioFault.{StdioFault}
use Rattle.usi_stdio.specs.declared.streams.StdioFault.TheVariants as stdio
use Rattle.usi_replay.specs.declared.fault.ReplayFault.{ReplayFault}
use Rattle.usi_replay.specs.declared.fault.ReplayFault.TheVariants.{OutOfMemory, ReadFailed, WriteFailed, BadScript}
use Rattle.host_core.specs.Steps.{HostState, new_host_under}
use Rattle.usi_replay.specs.Replayed.{AreReads, ReadsAll, EndsReading, EndsEarly, ReadsBy, Recites, GivesAll, TakesAll, ReplaysAsked, ReplaysOn, Leaves, IsAnswerFault, IsOutputOf, IsOutputOn}

-- ---- the calls

no_reads : AreReads [] []
no_reads = record { chunks = []; each = All-nil (λ (chunk : List ℕ). chunk ≢ []); calls_are = refl; bytes_are = refl }

more_reads : (calls : List StdioCall) (bytes chunk : List ℕ) → AreReads calls bytes → chunk ≢ [] → AreReads (calls ++ (Read chunk ∷ [])) (bytes ++ chunk)
more_reads calls bytes chunk r some = record {
  chunks = r.chunks ++ (chunk ∷ []);
  each = All-push (λ (xs : List ℕ). xs ≢ []) r.chunks chunk r.each some;
  calls_are = ap (λ (l : List StdioCall). l ++ (Read chunk ∷ [])) r.calls_are ∙ sym (map-append Read r.chunks (chunk ∷ []));
  bytes_are = ap (λ (l : List ℕ). l ++ chunk) r.bytes_are ∙ (ap (λ (l : List ℕ). flat_map (λ (xs : List ℕ). xs) r.chunks ++ l) (sym (append-nil chunk)) ∙ sym (flat_map-append (λ (xs : List ℕ). xs) r.chunks (chunk ∷ [])));
}

some_taken : (n : ℕ) (buf : List ℕ) → 0 < n → n ≤ length buf → take n buf ≢ []
some_taken zero buf lt le = absurd (omega arith)
some_taken (suc n) [] lt le = absurd (omega arith)
some_taken (suc n) (byte ∷ rest) lt le = λ e. cc

-- the bytes given by the reads
flat_reads : (chunks : List (List ℕ)) → flat_map given_by_call (map Read chunks) ≡ flat_map (λ (chunk : List ℕ). chunk) chunks
flat_reads [] = refl
flat_reads (chunk ∷ rest) = ap (λ l. chunk ++ l) (flat_reads rest)

reads_give : (old new : Option (List StdioCall)) (calls : List StdioCall) (bytes : List ℕ) → Makes old new calls → AreReads calls bytes → CallsGive old new bytes
reads_give old new calls bytes called r =
    subst (λ moved. CallsGive old new moved) (ap (flat_map given_by_call) r.calls_are ∙ (flat_reads r.chunks ∙ sym r.bytes_are)) (moves_more given_by_call old new calls called)

-- ---- the bytes taken

takes_none : (r : StdioReport) → TakesAll r r []
takes_none r = record { appended = Appends-nil r.written; taken = Appends-nil (of_calls taken_by_call r.calls) }

-- the bytes taken after a call that took none
takes_then : (old mid new : StdioReport) (bytes : List ℕ) → TakesAll old mid [] → TakesAll mid new bytes → TakesAll old new bytes
takes_then old mid new bytes none more = record {
  appended = Appends-trans old.written mid.written new.written [] bytes none.appended more.appended;
  taken = Appends-trans (of_calls taken_by_call old.calls) (of_calls taken_by_call mid.calls) (of_calls taken_by_call new.calls) [] bytes none.taken more.taken;
}

read_takes : {E : Type 0} (mid now : StdioReport) (buf : List ℕ) (result : Result ℕ E) → ReadsInput mid now result buf → TakesAll mid now []
read_takes mid now buf (Ok n) r = record { appended = Appends-kept mid.written mid.written now.written [] (Appends-nil mid.written) r.written; taken = moves_more taken_by_call mid.calls now.calls (Read (take n buf) ∷ []) r.called }
read_takes mid now buf (Err error) r = record { appended = Appends-kept mid.written mid.written now.written [] (Appends-nil mid.written) r.written; taken = moves_more taken_by_call mid.calls now.calls (FailedRead ∷ []) r.called }

-- the bytes given before a call that gave none
gives_then : (old mid new : Option (List StdioCall)) (bytes : List ℕ) → CallsGive old mid bytes → CallsGive mid new [] → CallsGive old new bytes
gives_then old mid new bytes p q =
    subst (λ moved. CallsGive old new moved) (append-nil bytes) (Appends-trans (of_calls given_by_call old) (of_calls given_by_call mid) (of_calls given_by_call new) bytes [] p q)

module _ (f : Bool) (o : Option (Result (Unit {0}) StdioFault)) (old mid new : StdioReport) (bytes out : List ℕ) (said : SaysTo f o mid new out) where
  all_given : GivesAll old mid bytes → GivesAll old new bytes
  all_given g = record {
    consumed = rw said.unread g.consumed;
    ended = rw said.unread g.ended;
    given = gives_then old.calls mid.calls new.calls bytes g.given (gives_at mid.calls new.calls said.calls _ said.called (said.spoken.after [] 0 []));
  }

  all_taken : TakesAll old mid [] → TakesAll old new out
  all_taken none = takes_then old mid new out none (record {
    appended = said.written;
    taken = takes_at mid.calls new.calls said.calls _ said.called (said.spoken.after [] 0 []);
  })

-- ---- the reading

-- `reads` reads gave `bytes` in all, and nothing was written
pub record IsReading (old now : StdioReport) (bytes : List ℕ) (reads : ℕ) : Type 0 where
  pub consumed : Consumes old.unread now.unread bytes
  pub kept : TakesAll old now []
  pub calls : List StdioCall
  pub called : Makes old.calls now.calls calls
  pub are_reads : AreReads calls bytes
  pub count_is : length calls ≡ reads

pub reading_start : (r : StdioReport) (bytes : List ℕ) → bytes ≡ [] → IsReading r r bytes 0
reading_start r bytes none = rw none (record { consumed = Consumes-nil r.unread; kept = takes_none r; calls = []; called = called_none r.calls; are_reads = no_reads; count_is = refl })

-- another read gave bytes
pub reading_more : {E : Type 0} (old mid now : StdioReport) (bytes all buf : List ℕ) (n reads : ℕ) → IsReading old mid bytes reads → ReadsInput {E = E} mid now (Ok n) buf → 0 < n → all ≡ bytes ++ take n buf → IsReading old now all (reads + 1)
reading_more old mid now bytes all buf n reads a r some same = rw same (record {
  consumed = Consumes-trans old.unread mid.unread now.unread bytes (take n buf) a.consumed r.consumed.0;
  kept = takes_then old mid now [] a.kept (read_takes mid now buf (Ok n) r);
  calls = a.calls ++ (Read (take n buf) ∷ []);
  called = called_then old.calls mid.calls now.calls a.calls (Read (take n buf) ∷ []) a.called r.called;
  are_reads = more_reads a.calls bytes (take n buf) a.are_reads (some_taken n buf some r.within);
  count_is = length-append a.calls (Read (take n buf) ∷ []) ∙ ap (λ k. k + 1) a.count_is;
})

pub reading_kept : {E : Type 0} (old mid now : StdioReport) (bytes buf : List ℕ) (reads : ℕ) (result : Result ℕ E) → IsReading old mid bytes reads → ReadsInput mid now result buf → TakesAll old now []
reading_kept old mid now bytes buf reads result a r = takes_then old mid now [] a.kept (read_takes mid now buf result r)

-- a read failed
pub reads_failed : {E Z : Type 0} (old mid now : StdioReport) (bytes buf : List ℕ) (reads : ℕ) (error : E) → IsReading old mid bytes reads → ReadsInput mid now (Err error) buf → ReadsBy {Z = Z} old.calls now.calls (Err ReadFailed)
reads_failed old mid now bytes buf reads error a r = record {
  calls = a.calls ++ (FailedRead ∷ []);
  called = called_then old.calls mid.calls now.calls a.calls (FailedRead ∷ []) a.called r.called;
  ended = record { reads = a.calls; bytes = bytes; are_reads = a.are_reads; failed = inl refl };
}

-- the input ended
pub reads_ended : {E Z : Type 0} (old mid now : StdioReport) (buf : List ℕ) (n reads : ℕ) (bytes : Vec ℕ Z) → IsReading old mid bytes.items reads → ReadsInput {E = E} mid now (Ok n) buf → n ≡ 0 → ReadsBy {Z = Z} old.calls now.calls (Ok bytes)
reads_ended old mid now buf n reads bytes a r none = record {
  calls = a.calls ++ (Read [] ∷ []);
  called = called_then old.calls mid.calls now.calls a.calls (Read [] ∷ []) a.called (rw none at r.called);
  ended = record { reads = a.calls; are_reads = a.are_reads; split = refl };
}

-- no memory for the bytes of a read
pub reads_unkept : {E Z : Type 0} (old mid now : StdioReport) (bytes buf : List ℕ) (n reads : ℕ) → IsReading old mid bytes reads → ReadsInput {E = E} mid now (Ok n) buf → 0 < n → ReadsBy {Z = Z} old.calls now.calls (Err OutOfMemory)
reads_unkept old mid now bytes buf n reads a r some =
    let more : IsReading old now (bytes ++ take n buf) (reads + 1) = reading_more old mid now bytes (bytes ++ take n buf) buf n reads a r some refl in
    record { calls = more.calls; called = more.called; ended = (bytes ++ take n buf, more.are_reads) }

-- the greatest number of reads was made
pub reads_many : {Z : Type 0} (old now : StdioReport) (bytes : List ℕ) (reads : ℕ) → IsReading old now bytes reads → reads ≡ 2 ^ 64 - 1 → ReadsBy {Z = Z} old.calls now.calls (Err ReadFailed)
reads_many old now bytes reads a all = record {
  calls = a.calls;
  called = a.called;
  ended = record { reads = a.calls; bytes = bytes; are_reads = a.are_reads; failed = inr (refl, a.count_is ∙ all) };
}

-- a read of nothing leaves the unread bytes as they were
none_read : (mid now : Option (List ℕ)) (buf : List ℕ) (n : ℕ) → Consumes mid now (take n buf) → n ≡ 0 → Keeps mid now
none_read None now buf n c none = tt
none_read (Some xs) None buf n c none = absurd c
none_read (Some xs) (Some ys) buf n c none = sym (c ∙ ap (λ k. take k buf ++ ys) none)

pub reading_done : {E : Type 0} (old mid now : StdioReport) (bytes buf : List ℕ) (n reads : ℕ) → IsReading old mid bytes reads → ReadsInput {E = E} mid now (Ok n) buf → n ≡ 0 → 0 < length buf → GivesAll old now bytes
reading_done old mid now bytes buf n reads a r none room = record {
  consumed = Consumes-kept old.unread mid.unread now.unread bytes a.consumed (none_read mid.unread now.unread buf n r.consumed.0 none);
  ended = r.consumed.1 none room;
  given = gives_then old.calls mid.calls now.calls bytes (reads_give old.calls mid.calls a.calls bytes a.called a.are_reads) (moves_more given_by_call mid.calls now.calls (Read [] ∷ []) (rw none at r.called));
}

-- the output from a host is that of the script
pub output_is : (slice : ℕ) (before after : HostState) (bytes out : List ℕ) → IsOutputOn slice before bytes after out → IsOutputOf before.setup before.slots.max bytes out
output_is slice before after bytes out is = (is.openings, is.comes, is.out_is)

pub replays_on : (slice : ℕ) (before after : HostState) (old mid new : StdioReport) (bytes out : List ℕ) → GivesAll old mid bytes → TakesAll old mid [] → IsOutputOn slice before bytes after out → SaysFlushed mid new out → ReplaysOn slice before after old new
replays_on slice before after old mid new bytes out given kept is said = record {
  replayed = record {
    openings = is.openings;
    script = record { bytes = bytes; read = all_given true None old mid new bytes out said given; comes_to = is.comes };
    written = rw (← is.out_is) (all_taken true None old mid new bytes out said kept);
  };
  transcripts = is.transcripts;
  played = is.played;
  run = is.run;
}

-- a replay over a new host, and the state after a failed write
pub replays_asked : (setup : Setup) (slots entries slice : ℕ) (before after : HostState) (old new : StdioReport) → before ≡ new_host_under setup slots entries → ReplaysOn slice before after old new → ReplaysAsked setup slots entries slice old new
replays_asked setup slots entries slice before after old new e r = (after, rw e at r)

pub leaves_write : (setup : Setup) (slots : ℕ) (old mid new : StdioReport) (bytes out : List ℕ) (fault : StdioFault) → GivesAll old mid bytes → TakesAll old mid [] → IsOutputOf setup slots bytes out → SaysPrefix mid new out fault → Leaves setup slots old new WriteFailed
leaves_write setup slots old mid new bytes out fault given kept (os, reads, is) (left, w) = record {
  openings = os;
  script = record { bytes = bytes; read = all_given w.is_flushed (asked_by fault) old mid new bytes w.done w.said given; comes_to = reads };
  done = w.done;
  left = left;
  split = sym is ∙ w.split;
  written = all_taken w.is_flushed (asked_by fault) old mid new bytes w.done w.said kept;
}

-- a fault before anything was written
pub leaves_read : {Z : Type 0} (setup : Setup) (slots : ℕ) (old new : StdioReport) (fault : ReplayFault) → ReadsBy {Z = Z} old.calls new.calls (Err fault) → TakesAll old new [] → Leaves setup slots old new fault
leaves_read setup slots old new OutOfMemory r kept = kept
leaves_read setup slots old new ReadFailed r kept = kept
leaves_read setup slots old new WriteFailed r kept = absurd r.ended
leaves_read setup slots old new (BadScript line) r kept = absurd r.ended

pub leaves_answer : (setup : Setup) (slots : ℕ) (old new : StdioReport) (bytes : List ℕ) (fault : ReplayFault) → GivesAll old new bytes → IsAnswerFault slots bytes fault → TakesAll old new [] → Leaves setup slots old new fault
leaves_answer setup slots old new bytes OutOfMemory given is kept = kept
leaves_answer setup slots old new bytes ReadFailed given is kept = absurd is
leaves_answer setup slots old new bytes WriteFailed given is kept = absurd is
leaves_answer setup slots old new bytes (BadScript line) given is kept = record {
  script = record { bytes = bytes; read = given; comes_to = is };
  written = kept;
}

-- a fault that is passed on
pub passed_on : {T : Type 0} (r : Result T ReplayFault) (fault : ReplayFault) (P : ReplayFault → Type 0) → IsErrAnd r (λ given. given ≡ fault) → P fault → IfErr r P
passed_on (Ok x) fault P same h = tt
passed_on (Err given) fault P same h = rw same h

-- ---- the calls of a replay

early_read : (setup : Setup) (slots : ℕ) (calls : List StdioCall) (fault : ReplayFault) → EndsReading calls fault → EndsEarly setup slots calls fault
early_read setup slots calls OutOfMemory (bytes, r) = (bytes, inl r)
early_read setup slots calls ReadFailed r = r
early_read setup slots calls WriteFailed r = absurd r
early_read setup slots calls (BadScript line) r = absurd r

early_answer : (setup : Setup) (slots : ℕ) (calls : List StdioCall) (bytes : List ℕ) (fault : ReplayFault) → ReadsAll calls bytes [] → IsAnswerFault slots bytes fault → EndsEarly setup slots calls fault
early_answer setup slots calls bytes OutOfMemory r is = (bytes, inr r)
early_answer setup slots calls bytes ReadFailed r is = absurd is
early_answer setup slots calls bytes WriteFailed r is = absurd is
early_answer setup slots calls bytes (BadScript line) r is = (bytes, r, is)

-- the script was not read
pub recites_read : {X Z : Type 0} (setup : Setup) (slots : ℕ) (old new : Option (List StdioCall)) (r : Result X ReplayFault) (fault : ReplayFault) → IsErrAnd r (λ given. given ≡ fault) → ReadsBy {Z = Z} old new (Err fault) → Recites setup slots old new r
recites_read setup slots old new (Ok done) fault same a = absurd same
recites_read setup slots old new (Err given) fault same a = rw same (record { calls = a.calls; called = a.called; ended = early_read setup slots a.calls fault a.ended })

-- the script has no output
pub recites_none : {X Z : Type 0} (setup : Setup) (slots : ℕ) (old new : Option (List StdioCall)) (script : Vec ℕ Z) (bytes : List ℕ) (r : Result X ReplayFault) (fault : ReplayFault) → IsErrAnd r (λ given. given ≡ fault) → ReadsBy {Z = Z} old new (Ok script) → bytes ≡ script.items → IsAnswerFault slots bytes fault → Recites setup slots old new r
recites_none setup slots old new script bytes (Ok done) fault same a e is = absurd same
recites_none setup slots old new script bytes (Err given) fault same a e is = rw same (record { calls = a.calls; called = a.called; ended = early_answer setup slots a.calls bytes fault (rw e a.ended) is })

-- calls after the reading
all_then : (calls rest : List StdioCall) (bytes : List ℕ) → ReadsAll calls bytes [] → ReadsAll (calls ++ rest) bytes rest
all_then calls rest bytes r = record {
  reads = r.reads;
  are_reads = r.are_reads;
  split = ap (λ (l : List StdioCall). l ++ rest) r.split ∙ append_assoc r.reads (Read [] ∷ []) rest;
}

-- the output was written
pub recites_out : {X Z : Type 0} (setup : Setup) (slots : ℕ) (old : Option (List StdioCall)) (mid new : StdioReport) (script : Vec ℕ Z) (bytes out : List ℕ) (done : X) → ReadsBy {Z = Z} old mid.calls (Ok script) → bytes ≡ script.items → IsOutputOf setup slots bytes out → SaysFlushed mid new out → Recites setup slots old new.calls (Ok done)
recites_out setup slots old mid new script bytes out done a e is s = record {
  calls = a.calls ++ s.calls;
  called = called_then old mid.calls new.calls a.calls s.calls a.called s.called;
  ended = record {
    bytes = bytes;
    out = out;
    is_output = is;
    said = s.calls;
    read = all_then a.calls s.calls bytes (rw e a.ended);
    done = out;
    split = sym (append-nil out);
    spoken = s.spoken;
  };
}

abbrev ended : StdioFault → Result (Unit {0}) StdioFault
ended fault = Err fault

-- a write failed
pub recites_part : {X Z : Type 0} (setup : Setup) (slots : ℕ) (old : Option (List StdioCall)) (mid new : StdioReport) (script : Vec ℕ Z) (bytes out : List ℕ) (fault : StdioFault) → ReadsBy {Z = Z} old mid.calls (Ok script) → bytes ≡ script.items → IsOutputOf setup slots bytes out → SaysPrefix mid new out fault → ended fault ≡ ended stdio.WriteFailed → Recites {X = X} setup slots old new.calls (Err WriteFailed)
recites_part setup slots old mid new script bytes out stdio.OutOfMemory a e is (left, w) same = absurd cc
recites_part setup slots old mid new script bytes out stdio.ReadFailed a e is (left, w) same = absurd cc
recites_part setup slots old mid new script bytes out stdio.WriteFailed a e is (left, w) same = record {
  calls = a.calls ++ w.said.calls;
  called = called_then old mid.calls new.calls a.calls w.said.calls a.called w.said.called;
  ended = (
    left,
    w.is_flushed,
    record {
      bytes = bytes;
      out = out;
      is_output = is;
      said = w.said.calls;
      read = all_then a.calls w.said.calls bytes (rw e a.ended);
      done = w.done;
      split = w.split;
      spoken = w.said.spoken;
    },
  );
}

-- a fault over a new host, which is not returned
pub recites_fault : {X Y : Type 0} (setup : Setup) (slots entries : ℕ) (before : HostState) (old new : Option (List StdioCall)) (fault : ReplayFault) → before ≡ new_host_under setup slots entries → Recites {X = X} before.setup before.slots.max old new (Err fault) → Recites {X = Y} setup slots old new (Err fault)
recites_fault {X} setup slots entries before old new fault e r =
    let q : Recites {X = X} setup slots old new (Err fault) = rw e at r in
    record { calls = q.calls; called = q.called; ended = q.ended }
