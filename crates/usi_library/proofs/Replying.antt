-- The replies of a session, call by call.
use Rattle.std.proofs.Common.{◌≡◌, ◌∙◌, ℕ, List, [], ◌∷◌, ◌++◌, ap, sym, append_assoc, append-nil}
use Rattle.usi_texts.specs.declared.setup.Setup.{Setup}
use Rattle.usi_session.specs.Due.{SessionView, due, new_session_under}
use Rattle.usi_session.specs.WholeStream.{replies_under}
use Rattle.usi_session.proofs.Settled.{due-settled}
use Rattle.usi_library.specs.Replies.{AreMade, AreReplies, Call, Feed, Makes, Step, Take, Work, all_fed, all_taken, fed_by, taken_by}

-- of what is owed, a call takes the first bytes
owes_call : (call : Call) (old new : SessionView) → Makes call old new → (x : List ℕ) → due old (fed_by call ++ x) ≡ taken_by call old ++ due new x
owes_call (Feed bytes) old new made x = sym (made.0 x)
owes_call Work old new made x = sym (made x)
owes_call (Take count) old new made x = made.0 x

-- a sequence of calls takes the first bytes of what is owed
owes_calls : (old : SessionView) (steps : List Step) (new : SessionView) → AreMade old steps new → (x : List ℕ) → due old (all_fed steps ++ x) ≡ all_taken old steps ++ due new x
owes_calls old [] new made x = ap (λ (s : SessionView). due s x) (sym made)
owes_calls old (step ∷ rest) new made x =
    ap (due old) (append_assoc (fed_by step.call) (all_fed rest) x)
    ∙ (owes_call step.call old step.after made.0 (all_fed rest ++ x)
    ∙ (ap (λ (xs : List ℕ). taken_by step.call old ++ xs) (owes_calls step.after rest new made.1 x)
    ∙ sym (append_assoc (taken_by step.call old) (all_taken step.after rest) (due new x))))

pub replies_by_calls : (setup : Setup) (steps : List Step) (now : SessionView) → AreMade (new_session_under setup) steps now
    → AreReplies setup (all_fed steps) (all_taken (new_session_under setup) steps) now
replies_by_calls setup steps now made =
    let first : SessionView = new_session_under setup in
    let whole : all_taken first steps ++ due now [] ≡ replies_under setup (all_fed steps) =
    sym (owes_calls first steps now made []) ∙ ap (replies_under setup) (append-nil (all_fed steps)) in
    record {
      left = due now [];
      prefix = whole;
      all = λ settled empty.
          sym (append-nil (all_taken first steps))
          ∙ (ap (λ (xs : List ℕ). all_taken first steps ++ xs) (sym (due-settled now settled ∙ empty)) ∙ whole);
    }
