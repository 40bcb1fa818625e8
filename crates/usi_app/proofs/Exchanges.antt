-- The bytes a front end gave and took, call by call.
use Rattle.std.proofs.Common.{◌≡◌, ◌≤◌, ℕ, List, [], ◌∷◌, ◌++◌, Bool, Option, None, Some, Result, Ok, Err, refl, sym, subst, ap, ◌∙◌, append_assoc, append-nil, true, length, take}
use Rattle.std.proofs.KnownBytes.{Appends-nil, Appends-trans, Appends-kept, Consumes-nil, Consumes-trans, Consumes-kept}
use Rattle.usi_stdio.specs.Calls.{StdioCall, FailedRead, CallsGive, Read, ReadsInput, StdioReport, CallsTake, given_by_call, of_calls, taken_by_call}
use Rattle.usi_stdio.specs.Saying.{SaysFlushed, SaysBut, SaysPrefix, SaysTo, asked_by}
use Rattle.usi_stdio.specs.declared.streams.StdioFault.{StdioFault}
use Rattle.usi_stdio.specs.declared.streams.StdioFault.TheVariants.{OutOfMemory}
use Rattle.usi_stdio.proofs.Talking.{gives_at, moves_more, says_nothing, says_then, takes_at}
use Rattle.usi_app.specs.Mates.{IsExchange}

-- nothing was given or taken
pub exchange_none : (r : StdioReport) → IsExchange r r [] []
exchange_none r = record {
  consumed = Consumes-nil r.unread;
  given = Appends-nil (of_calls given_by_call r.calls);
  appended = Appends-nil r.written;
  taken = Appends-nil (of_calls taken_by_call r.calls);
}

gives_then : (old mid new : Option (List StdioCall)) (xs ys all : List ℕ) → all ≡ xs ++ ys → CallsGive old mid xs → CallsGive mid new ys → CallsGive old new all
gives_then old mid new xs ys all e p q =
    subst (λ moved. CallsGive old new moved) (sym e) (Appends-trans (of_calls given_by_call old) (of_calls given_by_call mid) (of_calls given_by_call new) xs ys p q)

takes_then : (old mid new : Option (List StdioCall)) (xs ys all : List ℕ) → all ≡ xs ++ ys → CallsTake old mid xs → CallsTake mid new ys → CallsTake old new all
takes_then old mid new xs ys all e p q =
    subst (λ moved. CallsTake old new moved) (sym e) (Appends-trans (of_calls taken_by_call old) (of_calls taken_by_call mid) (of_calls taken_by_call new) xs ys p q)

-- a read gave these bytes
pub exchange_read : {E : Type 0} (old mid new : StdioReport) (read written buf chunk : List ℕ) (n : ℕ) → IsExchange old mid read written → ReadsInput {E = E} mid new (Ok n) buf → chunk ≡ take n buf → IsExchange old new (read ++ chunk) written
exchange_read old mid new read written buf chunk n b r same = rw same (record {
  consumed = Consumes-trans old.unread mid.unread new.unread read (take n buf) b.consumed r.consumed.0;
  given = gives_then old.calls mid.calls new.calls read (take n buf ++ []) (read ++ take n buf) (ap (λ xs. read ++ xs) (sym (append-nil (take n buf)))) b.given (moves_more given_by_call mid.calls new.calls (Read (take n buf) ∷ []) r.called);
  appended = Appends-kept old.written mid.written new.written written b.appended r.written;
  taken = takes_then old.calls mid.calls new.calls written [] written (sym (append-nil written)) b.taken (moves_more taken_by_call mid.calls new.calls (Read (take n buf) ∷ []) r.called);
})

-- a read failed
pub exchange_failed : {E : Type 0} (old mid new : StdioReport) (read written buf : List ℕ) (error : E) → IsExchange old mid read written → ReadsInput mid new (Err error) buf → IsExchange old new read written
exchange_failed old mid new read written buf error b r = record {
  consumed = Consumes-kept old.unread mid.unread new.unread read b.consumed r.consumed;
  given = gives_then old.calls mid.calls new.calls read [] read (sym (append-nil read)) b.given (moves_more given_by_call mid.calls new.calls (FailedRead ∷ []) r.called);
  appended = Appends-kept old.written mid.written new.written written b.appended r.written;
  taken = takes_then old.calls mid.calls new.calls written [] written (sym (append-nil written)) b.taken (moves_more taken_by_call mid.calls new.calls (FailedRead ∷ []) r.called);
}

-- these bytes were written
pub exchange_said : (f : Bool) (o : Option (Result (Unit {0}) StdioFault)) (old mid new : StdioReport) (read written bytes : List ℕ) → IsExchange old mid read written → SaysTo f o mid new bytes → IsExchange old new read (written ++ bytes)
exchange_said f o old mid new read written bytes b said = record {
  consumed = rw said.unread b.consumed;
  given = gives_then old.calls mid.calls new.calls read [] read (sym (append-nil read)) b.given (gives_at mid.calls new.calls said.calls _ said.called (said.spoken.after [] 0 []));
  appended = Appends-trans old.written mid.written new.written written bytes b.appended said.written;
  taken = takes_then old.calls mid.calls new.calls written bytes (written ++ bytes) refl b.taken (takes_at mid.calls new.calls said.calls _ said.called (said.spoken.after [] 0 []));
}

-- memory ran out before anything was written
pub prefix_none : (r : StdioReport) (bytes : List ℕ) → SaysPrefix r r bytes OutOfMemory
prefix_none r bytes = (bytes, record { done = []; is_flushed = true; said = says_nothing r; split = refl })

-- a prefix was written behind earlier bytes
pub prefix_then : (old mid new : StdioReport) (made bytes more all : List ℕ) (fault : StdioFault) → SaysFlushed old mid made → SaysPrefix mid new bytes fault → all ≡ made ++ (bytes ++ more) → SaysPrefix old new all fault
prefix_then old mid new made bytes more all fault said (left, but) e = (
  left ++ more,
  record {
    done = made ++ but.done;
    is_flushed = but.is_flushed;
    said = says_then old mid new made but.done but.is_flushed (asked_by fault) said but.said;
    split = e ∙ (ap (λ xs. made ++ (xs ++ more)) but.split ∙ (ap (λ xs. made ++ xs) (append_assoc but.done left more) ∙ sym (append_assoc made but.done (left ++ more))));
  },
)
