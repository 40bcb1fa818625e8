-- What C takes from a session, by the calls on it (own choice).
use Rattle.std.specs.Prelude.{◌≡◌, ℕ, List, [], ◌∷◌, ◌++◌, take, false}
use Rattle.usi_texts.specs.declared.setup.Setup.{Setup}
use Rattle.usi_session.specs.Due.{SessionView, due, new_session_under, is_pending, IsSameAfter}
use Rattle.usi_session.specs.WholeStream.{replies_under}
use Rattle.usi_library.specs.Calls.{IsFed, IsTaken}

-- a call on an open session that was not refused: it was fed these bytes, it worked, or so many of its bytes were taken
pub data Call : Type 0 where
  Feed : (bytes : List ℕ) → Call
  Work : Call
  Take : (count : ℕ) → Call

-- a call, and the session after it
pub record Step : Type 0 where
  pub call : Call
  pub after : SessionView

-- what a call makes of a session, by `usi_feed` [fed], `usi_work` [due] and `usi_take` [moved]
abbrev pub Makes : Call → SessionView → SessionView → Type 0
Makes (Feed bytes) old new = IsFed bytes old new
Makes Work old new = IsSameAfter due [] old new
Makes (Take count) old new = IsTaken count old new

-- the calls were made on a session one after another
abbrev pub AreMade : SessionView → List Step → SessionView → Type 0
AreMade old [] new = new ≡ old
AreMade old (step ∷ rest) new = Makes step.call old step.after × AreMade step.after rest new

abbrev pub fed_by : Call → List ℕ
fed_by (Feed bytes) = bytes
fed_by Work = []
fed_by (Take count) = []

abbrev pub taken_by : Call → SessionView → List ℕ
taken_by (Feed bytes) old = []
taken_by Work old = []
taken_by (Take count) old = take count old.queued

-- the bytes that were fed by all of them, and those that were taken
abbrev pub all_fed : List Step → List ℕ
all_fed [] = []
all_fed (step ∷ rest) = fed_by step.call ++ all_fed rest

abbrev pub all_taken : SessionView → List Step → List ℕ
all_taken old [] = []
all_taken old (step ∷ rest) = taken_by step.call old ++ all_taken step.after rest

-- these bytes are a prefix of the replies to those; all of them, once nothing is pending and nothing queued
pub record AreReplies (setup : Setup) (fed taken : List ℕ) (now : SessionView) : Type 0 where
  pub left : List ℕ
  pub prefix : taken ++ left ≡ replies_under setup fed
  pub all : is_pending now ≡ false → now.queued ≡ [] → taken ≡ replies_under setup fed

-- what was taken from a session by any calls since it was opened under a setup are the replies to what it was fed
abbrev pub RepliesByCalls : Type 0
RepliesByCalls =
    (setup : Setup) (steps : List Step) (now : SessionView)
    → AreMade (new_session_under setup) steps now
    → AreReplies setup (all_fed steps) (all_taken (new_session_under setup) steps) now
