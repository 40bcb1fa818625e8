-- A session whose replies are written slice by slice.
use Rattle.std.proofs.Common.{◌≡◌, ℕ, List, [], ◌++◌, true, refl, sym, ap, ◌∙◌, append_assoc, Result, IsErrAnd, IfErr, OnOk, OnErr, Ok, Err}
use Rattle.usi_session.specs.Due.{SessionView, due}
use Rattle.usi_stdio.specs.Calls.{StdioReport}
use Rattle.usi_stdio.specs.Saying.{SaysPrefix, SaysFlushed, IsWorkedOn, asked_by}
use Rattle.usi_stdio.specs.declared.streams.StdioFault.{StdioFault}
use Rattle.usi_stdio.specs.declared.streams.StdioFault.TheVariants.{OutOfMemory}
use Rattle.usi_stdio.proofs.Talking.{says_nothing, says_then}

-- a prefix of a prefix
prefix_of_more : (old new : StdioReport) (bytes more all : List ℕ) (fault : StdioFault) → SaysPrefix old new bytes fault → all ≡ bytes ++ more → SaysPrefix old new all fault
prefix_of_more old new bytes more all fault (left, w) e = (
  left ++ more,
  record {
    done = w.done;
    is_flushed = w.is_flushed;
    said = w.said;
    split = e ∙ (ap (λ xs. xs ++ more) w.split ∙ append_assoc w.done left more);
  },
)

-- nothing was written, and memory was refused
pub prefix_none : (r : StdioReport) (all : List ℕ) → SaysPrefix r r all OutOfMemory
prefix_none r all = (all, record { done = []; is_flushed = true; said = says_nothing r; split = refl })

-- the replies due are the queued ones, and those due without the queue
pub due-queued : (s : SessionView) (x : List ℕ) → due s x ≡ s.queued ++ due (record s { queued = [] }) x
due-queued s x = refl

-- a prefix of the queue is a prefix of the replies due, for any further bytes
pub prefix_of_due : (old new : StdioReport) (before mid : SessionView) (fault : StdioFault) → ((x : List ℕ) → due mid x ≡ due before x) → SaysPrefix old new mid.queued fault → (x : List ℕ) → SaysPrefix old new (due before x) fault
prefix_of_due old new before mid fault kept front x =
    prefix_of_more old new mid.queued (due (record mid { queued = [] }) x) (due before x) fault front (sym (kept x) ∙ due-queued mid x)

-- a prefix of the replies due after a line was fed is one of those due with the line
pub prefix_of_fed : (old new : StdioReport) (before mid : SessionView) (line : List ℕ) (fault : StdioFault) → ((x : List ℕ) → due mid x ≡ due before (line ++ x)) → ((x : List ℕ) → SaysPrefix old new (due mid x) fault) → (x : List ℕ) → SaysPrefix old new (due before (line ++ x)) fault
prefix_of_fed old new before mid line fault fed front x = (
  (front x).0,
  record {
    done = (front x).1.done;
    is_flushed = (front x).1.is_flushed;
    said = (front x).1.said;
    split = sym (fed x) ∙ (front x).1.split;
  },
)

-- a session before its first slice
pub worked_start : (s : SessionView) (r : StdioReport) → s.queued ≡ [] → IsWorkedOn s s r r
worked_start s r empty = record { made = []; written = says_nothing r; left = λ x. refl; owed = λ x. refl; empty = empty }

-- one more slice
pub worked_more : (before mid after : SessionView) (old part new : StdioReport) → IsWorkedOn before mid old part → IsWorkedOn mid after part new → IsWorkedOn before after old new
worked_more before mid after old part new a b = record {
  made = a.made ++ b.made;
  written = says_then old part new a.made b.made _ _ a.written b.written;
  left = λ x. b.left x ∙ a.left x;
  owed = λ x. a.owed x ∙ (ap (λ xs. a.made ++ xs) (b.owed x) ∙ sym (append_assoc a.made b.made (due after x)));
  empty = b.empty;
}

-- bytes were written in full, then a prefix of others
pub said_prefix : (old part new : StdioReport) (said bytes all : List ℕ) (fault : StdioFault) → SaysFlushed old part said → SaysPrefix part new bytes fault → all ≡ said ++ bytes → SaysPrefix old new all fault
said_prefix old part new said bytes all fault p (left, w) e = (
  left,
  record {
    done = said ++ w.done;
    is_flushed = w.is_flushed;
    said = says_then old part new said w.done w.is_flushed (asked_by fault) p w.said;
    split = e ∙ (ap (λ xs. said ++ xs) w.split ∙ sym (append_assoc said w.done left));
  },
)

-- a fault cut a slice short
pub worked_prefix : (before mid : SessionView) (old part new : StdioReport) (fault : StdioFault) → IsWorkedOn before mid old part → ((x : List ℕ) → SaysPrefix part new (due mid x) fault) → (x : List ℕ) → SaysPrefix old new (due before x) fault
worked_prefix before mid old part new fault a front x = said_prefix old part new a.made (due mid x) (due before x) fault a.written (front x) (a.owed x)

-- a property that holds anyway holds after a fault
pub on_err : {T E : Type 0} {P : Type 0} (r : Result T E) → P → OnErr r P
on_err (Ok x) h = tt
on_err (Err e) h = h

-- a consequence of two properties that hold after a success
pub on_ok_both : {T E : Type 0} {P Q R : Type 0} (r : Result T E) → (P → Q → R) → OnOk r P → OnOk r Q → OnOk r R
on_ok_both (Ok x) f p q = f p q
on_ok_both (Err e) f p q = tt

pub passed_on : {T : Type 0} (r : Result T StdioFault) (fault : StdioFault) (P : StdioFault → Type 0) → IsErrAnd r (λ given. given ≡ fault) → P fault → IfErr r P
passed_on (Ok x) fault P same h = tt
passed_on (Err given) fault P same h = rw same h
