-- Bytes written in several writes.
use Rattle.std.proofs.Common.{◌≡◌, ◌<◌, ◌≤◌, ℕ, List, [], ◌∷◌, ◌++◌, true, false, Option, None, Some, Result, Ok, Err, Bool, refl, sym, ap, ◌∙◌, append_assoc, append-nil, length, take, drop, arith}
use Rattle.std.proofs.lemmas.List.{take-append-drop, length-take}
use Rattle.std.specs.Io.KnownBytes.{Keeps, Appends}
use Rattle.std.proofs.KnownBytes.{Appends-trans, Appends-kept}
use Rattle.usi_stdio.specs.Calls.{StdioCall, Write, Flush, FailedWrite, FailedFlush, Makes, StdioReport, WritesOutput, Flushes}
use Rattle.usi_stdio.specs.Dialogue.{asked_by_write}
use Rattle.usi_stdio.specs.Saying.{SaysFlushed, SaysBut, SaysPrefix, SaysTo, Speaks}
use Rattle.usi_stdio.specs.declared.streams.StdioFault.{StdioFault}
use Rattle.usi_stdio.specs.declared.streams.StdioFault.TheVariants.{WriteFailed}
use Rattle.usi_stdio.proofs.Talking.{says_nothing, called_then, write_goes_on, speaks_write, speaks_flush, speaks_failed_write, speaks_failed_flush}

-- nothing is written yet
pub writes_start : (old : StdioReport) (bytes : List ℕ) → SaysBut None old old bytes bytes
writes_start old bytes = record { done = []; is_flushed = true; said = says_nothing old; split = refl }

-- one more call
said_more : (old mid new : StdioReport) (done all : List ℕ) (f g : Bool) (o : Option (Result (Unit {0}) StdioFault)) (call : StdioCall) (said : SaysTo f None old mid done)
    → new.unread ≡ mid.unread → Appends old.written new.written all → Makes mid.calls new.calls (call ∷ []) → Speaks (said.calls ++ (call ∷ [])) all g o → SaysTo g o old new all
said_more old mid new done all f g o call said unread written called spoken = record {
  unread = unread ∙ said.unread;
  written = written;
  calls = said.calls ++ (call ∷ []);
  called = called_then old.calls mid.calls new.calls said.calls (call ∷ []) said.called called;
  spoken = spoken;
}

-- one more write took n of the bytes left, and asked for this result
wrote : {E : Type 0} (old mid new : StdioReport) (bytes rest : List ℕ) (n : ℕ) (o : Option (Result (Unit {0}) StdioFault)) → SaysBut None old mid bytes rest → WritesOutput {E = E} mid new (Ok n) rest → asked_by_write (take n rest) ≡ o → SaysBut o old new bytes (drop n rest)
wrote old mid new bytes rest n o w more e = record {
  done = w.done ++ take n rest;
  is_flushed = false;
  said = said_more old mid new w.done (w.done ++ take n rest) w.is_flushed false o (Write (take n rest)) w.said more.unread
      (Appends-trans old.written mid.written new.written w.done (take n rest) w.said.written more.appended) more.called (speaks_write w.said.calls w.done (take n rest) w.is_flushed o w.said.spoken e);
  split = w.split ∙ (ap (λ xs. w.done ++ xs) (sym (take-append-drop n rest)) ∙ sym (append_assoc w.done (take n rest) (drop n rest)));
}

pub writes_more : {E : Type 0} (old mid new : StdioReport) (bytes rest : List ℕ) (n : ℕ) → SaysBut None old mid bytes rest → WritesOutput {E = E} mid new (Ok n) rest → 0 < length (take n rest) → SaysBut None old new bytes (drop n rest)
writes_more old mid new bytes rest n w more h = wrote old mid new bytes rest n None w more (write_goes_on (take n rest) h)

-- a write took nothing
pub writes_none : {E : Type 0} (old mid new : StdioReport) (bytes rest : List ℕ) (n : ℕ) → n ≡ 0 → SaysBut None old mid bytes rest → WritesOutput {E = E} mid new (Ok n) rest → SaysPrefix old new bytes WriteFailed
writes_none old mid new bytes rest n none w more = (drop n rest, wrote old mid new bytes rest n (Some (Err WriteFailed)) w more (ap (λ k. asked_by_write (take k rest)) none))

-- a write took some bytes
pub some_taken : (n : ℕ) (rest : List ℕ) → (n ≡ 0 → ⊥) → n ≤ length rest → 0 < length (take n rest)
some_taken n rest some most = simp length-take (omega arith)

-- one more call failed
call_failed : (old mid new : StdioReport) (bytes rest : List ℕ) (call : StdioCall) (w : SaysBut None old mid bytes rest)
    → new.unread ≡ mid.unread → Keeps mid.written new.written → Makes mid.calls new.calls (call ∷ []) → Speaks (w.said.calls ++ (call ∷ [])) w.done w.is_flushed (Some (Err WriteFailed)) → SaysPrefix old new bytes WriteFailed
call_failed old mid new bytes rest call w unread written called spoken = (
  rest,
  record {
    done = w.done;
    is_flushed = w.is_flushed;
    said = said_more old mid new w.done w.done w.is_flushed w.is_flushed _ call w.said unread (Appends-kept old.written mid.written new.written w.done w.said.written written) called spoken;
    split = w.split;
  },
)

-- a write failed
pub writes_failed : {E : Type 0} (old mid new : StdioReport) (bytes rest : List ℕ) (error : E) → SaysBut None old mid bytes rest → WritesOutput mid new (Err error) rest → SaysPrefix old new bytes WriteFailed
writes_failed old mid new bytes rest error w more = call_failed old mid new bytes rest FailedWrite w more.unread more.appended more.called (speaks_failed_write w.said.calls w.done w.is_flushed w.said.spoken)

-- the flush failed
pub flush_failed : {E : Type 0} (old mid new : StdioReport) (bytes rest : List ℕ) (error : E) → SaysBut None old mid bytes rest → Flushes mid new (Err error) → SaysPrefix old new bytes WriteFailed
flush_failed old mid new bytes rest error w more = call_failed old mid new bytes rest FailedFlush w more.unread more.written more.called (speaks_failed_flush w.said.calls w.done w.is_flushed w.said.spoken)

-- all bytes were written and flushed
pub flushed : {E : Type 0} (old mid new : StdioReport) (bytes rest : List ℕ) (done : Unit {0}) → rest ≡ [] → SaysBut None old mid bytes rest → Flushes {E = E} mid new (Ok done) → SaysFlushed old new bytes
flushed old mid new bytes rest done none w more =
    let all : w.done ≡ bytes = sym (w.split ∙ (ap (λ xs. w.done ++ xs) none ∙ append-nil w.done)) in
    rw (← all) (said_more old mid new w.done w.done w.is_flushed true None Flush w.said more.unread (Appends-kept old.written mid.written new.written w.done w.said.written more.written) more.called (speaks_flush w.said.calls w.done w.is_flushed w.said.spoken))
