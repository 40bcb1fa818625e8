-- What a memo was told, slice by slice, line by line and chunk by chunk.
use Rattle.std.proofs.Common.{◌≡◌, ◌∙◌, ℕ, List, [], ◌∷◌, ◌++◌, Bool, true, false, cond, Option, Result, Ok, Err, refl, sym, ap, subst, take, append_assoc, append-nil}
use Rattle.std.specs.Prelude.{OnOk, flat_map}
use Rattle.std.specs.Io.KnownBytes.{Consumes}
use Rattle.std.proofs.KnownBytes.{Appends-nil, Appends-trans, Consumes-nil, Consumes-trans}
use Rattle.shared_table.specs.Recent.{Table, new_table}
use Rattle.shared_table.specs.Uses.{IsUsed}
use Rattle.shogi_search.specs.Calls.{Call}
use Rattle.usi_lines.specs.Lines.{ahead}
use Rattle.usi_texts.specs.declared.setup.Setup.{Setup}
use Rattle.usi_session.specs.Due.{EndsSearches, IsSameAfter, SessionView, is_pending, new_session_under, roots_due, roots_unless_over, roots_ahead}
use Rattle.usi_session.specs.Roots.{Root}
use Rattle.usi_session.specs.Told.{AreTold, TellsEndedFor}
use Rattle.usi_session.proofs.Steps.{no_roots}
use Rattle.usi_session.proofs.TellsLaws.{none_called, told_and_told}
use Rattle.usi_stdio.specs.Calls.{CallsGive, Makes, Read, ReadsInput, StdioReport, given_by_call, of_calls}
use Rattle.usi_stdio.specs.Remembered.{TellsFed, TellsMemory, TellsNewTable, roots_under}
use Rattle.usi_stdio.specs.Saying.{IsQueueWritten, SaysFlushed}
use Rattle.usi_stdio.proofs.Talking.{called_then, gives_nothing, moves_more, says_nothing}

-- a consequence of what holds after a success
pub on_ok : {T E : Type 0} {P Q : Type 0} (r : Result T E) → (P → Q) → OnOk r P → OnOk r Q
on_ok (Ok x) f p = f p
on_ok (Err e) f p = tt

-- writing queued bytes changes no search
pub told_written : {M : Type 0} (called : M → Call → M → Type 0) (a b : M) (s mid t : SessionView) (old new : StdioReport)
    → EndsSearches called a b s mid → IsQueueWritten mid t old new → EndsSearches called a b s t
told_written called a b s mid t old new told w =
    subst (λ (v : SessionView). EndsSearches called a b s v) (sym w.rest)
    (record { ended = told.ended; left = told.left; told = told.told })

-- a line was fed, and its searches ended
pub told_fed : {M : Type 0} (called : M → Call → M → Type 0) (a b : M) (before mid after : SessionView) (line : List ℕ)
    → IsSameAfter roots_due line before mid → EndsSearches called a b mid after → TellsFed called a b before line after
told_fed called a b before mid after line fed told = record {
  ended = told.ended;
  left = λ x. sym (fed x) ∙ told.left x;
  told = told.told;
}

-- the searches for the lines of a chunk before `rest` have ended
abbrev pub TellsUpTo : {M : Type 0} → (M → Call → M → Type 0) → M → M → SessionView → List ℕ → SessionView → List ℕ → Type 0
TellsUpTo called old new before chunk now rest =
    TellsEndedFor called old new (λ x. roots_due before (chunk ++ x)) (λ x. roots_due now (rest ++ x))

behind : (rest line after x : List ℕ) → rest ≡ line ++ after → rest ++ x ≡ line ++ (after ++ x)
behind rest line after x split = ap (λ xs. xs ++ x) split ∙ append_assoc line after x

-- one more line is answered
pub told_line : {M : Type 0} (called : M → Call → M → Type 0) (a b c : M) (before mid now : SessionView) (chunk rest line after : List ℕ)
    → TellsUpTo called a b before chunk mid rest → rest ≡ line ++ after → TellsFed called b c mid line now
    → TellsUpTo called a c before chunk now after
told_line called a b c before mid now chunk rest line after h split w = record {
  ended = h.ended ++ w.ended;
  left = λ x. h.left x
      ∙ (ap (λ xs. h.ended ++ roots_due mid xs) (behind rest line after x split)
      ∙ (ap (λ (roots : List Root). h.ended ++ roots) (w.left (after ++ x)) ∙ sym (append_assoc h.ended w.ended (roots_due now (after ++ x)))));
  told = told_and_told called a b c h.ended w.ended h.told w.told;
}

-- no line is left
pub told_done : {M : Type 0} (called : M → Call → M → Type 0) (a b : M) (before now : SessionView) (chunk rest : List ℕ)
    → TellsUpTo called a b before chunk now rest → rest ≡ [] → TellsFed called a b before chunk now
told_done called a b before now chunk rest h none = record {
  ended = h.ended;
  left = λ x. h.left x ∙ ap (λ xs. h.ended ++ roots_due now (xs ++ x)) none;
  told = h.told;
}

roots-over : (s : SessionView) (x : List ℕ) → s.state.is_over ≡ true → roots_due s x ≡ []
roots-over s x over = ap (λ (b : Bool). cond b [] (roots_ahead s.state s.go_task (ahead s.input x))) over

-- the session is over: further lines search nothing
pub told_over : {M : Type 0} (called : M → Call → M → Type 0) (a b : M) (before now : SessionView) (chunk rest : List ℕ)
    → TellsUpTo called a b before chunk now rest → now.state.is_over ≡ true → TellsFed called a b before chunk now
told_over called a b before now chunk rest h over = record {
  ended = h.ended;
  left = λ x. h.left x ∙ ap (λ (roots : List Root). h.ended ++ roots) (roots-over now (rest ++ x) over ∙ sym (roots-over now x over));
  told = h.told;
}

-- between two reads: each search for the bytes read has ended, or is left
pub record IsToldOf {M : Type 0} (called : M → Call → M → Type 0) (setup : Setup) (before now : StdioReport) (old new : M) (s : SessionView) : Type 0 where
  pub read : List ℕ
  pub consumed : Consumes before.unread now.unread read
  pub given : CallsGive before.calls now.calls read
  pub ended : List Root
  pub left : (x : List ℕ) → roots_under setup (read ++ x) ≡ ended ++ roots_due s x
  pub told : AreTold called old ended new

-- a run before its first read
pub told_start : {M : Type 0} (called : M → Call → M → Type 0) (setup : Setup) (r : StdioReport) (a : M) (s : SessionView)
    → s ≡ new_session_under setup → IsToldOf called setup r r a a s
unfolding AreTold
told_start called setup r a s new = record {
  read = [];
  consumed = Consumes-nil r.unread;
  given = Appends-nil (of_calls given_by_call r.calls);
  ended = [];
  left = λ x. ap (λ (t : SessionView). roots_due t x) (sym new);
  told = none_called called a;
}

-- a chunk was read, and bytes were written
gives_chunk : (before mid now new : StdioReport) (read bytes chunk : List ℕ) → CallsGive before.calls mid.calls read → Makes mid.calls now.calls (Read chunk ∷ []) → (w : SaysFlushed now new bytes) → CallsGive before.calls new.calls (read ++ chunk)
gives_chunk before mid now new read bytes chunk h r w =
    let more : CallsGive mid.calls new.calls (chunk ++ flat_map given_by_call w.calls) = moves_more given_by_call mid.calls new.calls (Read chunk ∷ w.calls) (called_then mid.calls now.calls new.calls (Read chunk ∷ []) w.calls r w.called) in
    let none : chunk ++ flat_map given_by_call w.calls ≡ chunk = ap (λ xs. chunk ++ xs) (gives_nothing w.calls bytes _ _ w.spoken) ∙ append-nil chunk in
    Appends-trans (of_calls given_by_call before.calls) (of_calls given_by_call mid.calls) (of_calls given_by_call new.calls) read chunk h (rw none at more)

-- a chunk was read and answered
pub told_chunk : {M : Type 0} {E : Type 0} (called : M → Call → M → Type 0) (setup : Setup) (before mid now new : StdioReport) (a b c : M) (s t : SessionView) (n : ℕ) (buf chunk bytes : List ℕ)
    → IsToldOf called setup before mid a b s → ReadsInput {E = E} mid now (Ok n) buf → chunk ≡ take n buf → SaysFlushed now new bytes
    → TellsFed called b c s chunk t → IsToldOf called setup before new a c t
told_chunk called setup before mid now new a b c s t n buf chunk bytes h r same said w = record {
  read = h.read ++ chunk;
  consumed = rw (said.unread, same) (Consumes-trans before.unread mid.unread now.unread h.read (take n buf) h.consumed r.consumed.0);
  given = rw same (gives_chunk before mid now new h.read bytes (take n buf) h.given r.called said);
  ended = h.ended ++ w.ended;
  left = λ x. ap (roots_under setup) (append_assoc h.read chunk x)
      ∙ (h.left (chunk ++ x)
      ∙ (ap (λ (roots : List Root). h.ended ++ roots) (w.left x) ∙ sym (append_assoc h.ended w.ended (roots_due t x))));
  told = told_and_told called a b c h.ended w.ended h.told w.told;
}

all_told : {M : Type 0} (called : M → Call → M → Type 0) (setup : Setup) (before now : StdioReport) (a b : M) (s : SessionView)
    (h : IsToldOf called setup before now a b s) → is_pending s ≡ false → h.ended ≡ roots_under setup h.read
all_told called setup before now a b s h settled =
    sym (append-nil h.ended) ∙ (ap (λ (roots : List Root). h.ended ++ roots) (sym (no_roots s settled)) ∙ (sym (h.left []) ∙ ap (roots_under setup) (append-nil h.read)))

-- all bytes read are answered
pub told_all : {M : Type 0} (called : M → Call → M → Type 0) (setup : Setup) (before now : StdioReport) (a b : M) (s : SessionView)
    → IsToldOf called setup before now a b s → is_pending s ≡ false → TellsMemory called setup before now a b
told_all called setup before now a b s h settled = record {
  read = h.read;
  consumed = h.consumed;
  given = h.given;
  told = subst (λ (roots : List Root). AreTold called a roots b) (all_told called setup before now a b s h settled) h.told;
}

-- the input ended
pub told_at_end : {M : Type 0} {E : Type 0} (called : M → Call → M → Type 0) (setup : Setup) (before mid now : StdioReport) (a b : M) (s : SessionView) (n : ℕ) (buf : List ℕ)
    → IsToldOf called setup before mid a b s → ReadsInput {E = E} mid now (Ok n) buf → n ≡ 0 → is_pending s ≡ false → TellsMemory called setup before now a b
told_at_end called setup before mid now a b s n buf h r none settled =
    let read : Consumes before.unread now.unread (h.read ++ take n buf) = Consumes-trans before.unread mid.unread now.unread h.read (take n buf) h.consumed r.consumed.0 in
    let given : CallsGive before.calls now.calls (h.read ++ take n buf) = gives_chunk before mid now now h.read [] (take n buf) h.given r.called (says_nothing now) in
    let nothing : h.read ++ take n buf ≡ h.read = ap (λ (k : ℕ). h.read ++ take k buf) none ∙ append-nil h.read in
    told_all called setup before now a b s (record { read = h.read; consumed = rw nothing at read; given = rw nothing at given; ended = h.ended; left = h.left; told = h.told }) settled

-- a new table was told each search
pub told_table : {T E : Type 0} (r : Result T E) (setup : Setup) (entries : ℕ) (before after : StdioReport) (old new : Table)
    → old ≡ new_table entries → new.capacity ≡ old.capacity → OnOk r (TellsMemory IsUsed setup before after old new) → OnOk r (TellsNewTable setup entries before after)
told_table (Ok x) setup entries before after old new is kept told = record {
  table = new;
  told = subst (λ (t : Table). TellsMemory IsUsed setup before after t new) is told;
  room = kept ∙ ap (λ (t : Table). t.capacity) is;
}
told_table (Err e) setup entries before after old new is kept told = tt
