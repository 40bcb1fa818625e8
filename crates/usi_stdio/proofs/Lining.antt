-- A chunk answered line by line.
use Rattle.std.proofs.Common.{◌≡◌, ℕ, ◌+◌, ◌≤◌, List, [], ◌++◌, length, refl, sym, ap, ◌∙◌, append_assoc, append-nil, true, false, arith}
use Rattle.std.proofs.lemmas.List.{length-append}
use Rattle.usi_session.specs.declared.limits.TheConstants.{CHUNK_MAX}
use Rattle.usi_session.specs.Due.{SessionView, due, state_due, is_pending, wants_input}
use Rattle.usi_session.proofs.Settled.{due-over, state_due-over_same, wanting-settled}
use Rattle.usi_stdio.specs.Calls.{StdioReport}
use Rattle.usi_stdio.specs.Saying.{SaysFlushed, SaysPrefix, AnswersChunk, IsWorkedOn}
use Rattle.usi_stdio.specs.declared.streams.StdioFault.{StdioFault}
use Rattle.usi_stdio.proofs.Talking.{says_nothing, says_then}
use Rattle.usi_stdio.proofs.Working.{said_prefix}

-- a line that was fed and worked off
pub line_answers : (before mid after : SessionView) (line : List ℕ) (old new : StdioReport) → ((x : List ℕ) → due mid x ≡ due before (line ++ x)) → ((x : List ℕ) → state_due mid x ≡ state_due before (line ++ x)) → IsWorkedOn mid after old new → is_pending after ≡ false → AnswersChunk before after line old new
line_answers before mid after line old new fed left w settled = record {
  made = w.made;
  written = w.written;
  owed = λ x. sym (fed x) ∙ w.owed x;
  left = λ x. w.left x ∙ left x;
  empty = w.empty;
  settled = settled;
}

-- the lines of a chunk before `rest` are answered: their answers are written, and the replies due with `rest` are still due
pub record IsAnsweredTo (rest : List ℕ) (before now : SessionView) (chunk : List ℕ) (old new : StdioReport) : Type 0 where
  pub made : List ℕ
  pub written : SaysFlushed old new made
  pub owed : (x : List ℕ) → due before (chunk ++ x) ≡ made ++ due now (rest ++ x)
  pub left : (x : List ℕ) → state_due now (rest ++ x) ≡ state_due before (chunk ++ x)
  pub empty : now.queued ≡ []
  pub settled : is_pending now ≡ false
  pub few : length rest ≤ CHUNK_MAX

-- the chunk before its first line
pub lines_start : (s : SessionView) (chunk : List ℕ) (old : StdioReport) → wants_input s ≡ true → s.queued ≡ [] → length chunk ≤ CHUNK_MAX → IsAnsweredTo chunk s s chunk old old
lines_start s chunk old wants empty most = record {
  made = [];
  written = says_nothing old;
  owed = λ x. refl;
  left = λ x. refl;
  empty = empty;
  settled = wanting-settled s wants;
  few = most;
}

-- a line and the bytes behind it, with further bytes
behind : (rest line after x : List ℕ) → rest ≡ line ++ after → rest ++ x ≡ line ++ (after ++ x)
behind rest line after x split = ap (λ xs. xs ++ x) split ∙ append_assoc line after x

-- one more line is answered
pub lines_more : (before mid now : SessionView) (chunk rest line after : List ℕ) (old part new : StdioReport) → IsAnsweredTo rest before mid chunk old part → rest ≡ line ++ after → AnswersChunk mid now line part new → IsAnsweredTo after before now chunk old new
lines_more before mid now chunk rest line after old part new a split w = record {
  made = a.made ++ w.made;
  written = says_then old part new a.made w.made _ _ a.written w.written;
  owed = λ x. a.owed x ∙ (ap (λ xs. a.made ++ due mid xs) (behind rest line after x split) ∙ (ap (λ xs. a.made ++ xs) (w.owed (after ++ x)) ∙ sym (append_assoc a.made w.made (due now (after ++ x)))));
  left = λ x. w.left (after ++ x) ∙ (ap (λ xs. state_due mid xs) (sym (behind rest line after x split)) ∙ a.left x);
  empty = w.empty;
  settled = w.settled;
  few = (let n : length rest ≡ length line + length after = ap length split ∙ length-append line after in let m : length rest ≤ CHUNK_MAX = a.few in omega arith);
}

-- no line is left
pub lines_done : (before now : SessionView) (chunk rest : List ℕ) (old new : StdioReport) → IsAnsweredTo rest before now chunk old new → rest ≡ [] → AnswersChunk before now chunk old new
lines_done before now chunk rest old new a none = record {
  made = a.made;
  written = a.written;
  owed = λ x. a.owed x ∙ ap (λ xs. a.made ++ due now (xs ++ x)) none;
  left = λ x. ap (λ xs. state_due now (xs ++ x)) (sym none) ∙ a.left x;
  empty = a.empty;
  settled = a.settled;
}

-- the session is over: further lines change nothing
pub lines_over : (before now : SessionView) (chunk rest : List ℕ) (old new : StdioReport) → IsAnsweredTo rest before now chunk old new → now.state.is_over ≡ true → AnswersChunk before now chunk old new
lines_over before now chunk rest old new a over = record {
  made = a.made;
  written = a.written;
  owed = λ x. a.owed x ∙ ap (λ xs. a.made ++ xs) (due-over now (rest ++ x) over ∙ sym (due-over now x over));
  left = λ x. state_due-over_same now x (rest ++ x) over ∙ a.left x;
  empty = a.empty;
  settled = a.settled;
}

-- a fault cut a line's answer short
pub lines_prefix : (before mid : SessionView) (chunk rest line after : List ℕ) (old part new : StdioReport) (fault : StdioFault) → IsAnsweredTo rest before mid chunk old part → rest ≡ line ++ after → ((x : List ℕ) → SaysPrefix part new (due mid (line ++ x)) fault) → SaysPrefix old new (due before chunk) fault
lines_prefix before mid chunk rest line after old part new fault a split front =
    said_prefix old part new a.made (due mid (line ++ after)) (due before chunk) fault a.written (front after) (sym (ap (λ xs. due before xs) (append-nil chunk)) ∙ (a.owed [] ∙ ap (λ xs. a.made ++ due mid xs) (append-nil rest ∙ split)))
