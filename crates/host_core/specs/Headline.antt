-- The promise of a run, session by session: each gets what an engine of its own would answer under the setup of the host, which no step changes (own choice).
use Rattle.std.specs.Prelude.{◌≡◌, ⊤, ℕ, List, ◌++◌, Bool, true, false, Option, Some, None}
use Rattle.session_slots.specs.declared.id.SessionId.{SessionId}
use Rattle.session_slots.specs.Slots.{find}
use Rattle.usi_session.specs.Due.{SessionView, due, state_due, is_pending}
use Rattle.usi_session.specs.WholeStream.{replies_under, is_over_after_under}
use Rattle.host_core.specs.Made.{Step, own, taken, is_opened, made}
use Rattle.host_core.specs.Steps.{HostState}
use Rattle.host_core.specs.Runs.{IsRun}
use Rattle.host_core.specs.ById.{queued_of, is_over_of}

-- `xs` is a prefix of `ys`
abbrev pub IsPrefixOf : List ℕ → List ℕ → Type 0
IsPrefixOf xs ys = (rest : List ℕ) × (xs ++ rest ≡ ys)

-- the session is open, with nothing pending
abbrev pub IsSettled : Option SessionView → Type 0
IsSettled None = ⊥
IsSettled (Some t) = is_pending t ≡ false

-- the bytes made for an id in these steps, which end in this state
abbrev pub made_by : SessionId → List Step → HostState → List ℕ
made_by id steps end = made id steps (queued_of (find end.slots id))

-- the bytes made for a session opened in the run are a prefix of the replies to its own bytes, under the setup
abbrev pub PrefixOfReplies : List Step → HostState → Type 0
PrefixOfReplies steps end =
    (id : SessionId) → is_opened id steps ≡ true
    → IsPrefixOf (made_by id steps end) (replies_under end.setup (own id steps))

-- the bytes made for a session opened in the run are all replies to its own bytes, under the setup, if it ends open with nothing pending
abbrev pub AllReplies : List Step → HostState → Type 0
AllReplies steps end =
    (id : SessionId) → is_opened id steps ≡ true → IsSettled (find end.slots id)
    → made_by id steps end ≡ replies_under end.setup (own id steps)

-- for any further bytes, the replies due are those due before for its own bytes, less the bytes taken; of a closed session, the bytes taken are a prefix of them
abbrev pub EndsFrom : (List ℕ → List ℕ) → List ℕ → List ℕ → Option SessionView → Type 0
EndsFrom owed own taken None = IsPrefixOf taken (owed own)
EndsFrom owed own taken (Some t) = (x : List ℕ) → taken ++ due t x ≡ owed (own ++ x)

-- a session that was open before the run continues from what it owed
abbrev pub Continues : HostState → List Step → HostState → Type 0
Continues old steps end =
    (id : SessionId) (s : SessionView) → find old.slots id ≡ Some s
    → EndsFrom (due s) (own id steps) (taken id steps) (find end.slots id)

-- whether a session is over once these further bytes are fed and all lines are answered
abbrev pub is_over_due : SessionView → List ℕ → Bool
is_over_due session further = (state_due session further).is_over

-- a session is over, once all lines are answered, if and only if its own bytes and any further ones end it
abbrev pub OverFrom : (List ℕ → Bool) → List ℕ → Option SessionView → Type 0
OverFrom ends own None = ⊤
OverFrom ends own (Some t) = (x : List ℕ) → is_over_due t x ≡ ends (own ++ x)

-- a session opened in the run is ended by its own bytes only
abbrev pub EndsByOwn : List Step → HostState → Type 0
EndsByOwn steps end =
    (id : SessionId) → is_opened id steps ≡ true
    → OverFrom (is_over_after_under end.setup) (own id steps) (find end.slots id)

-- with nothing pending, a session opened in the run is over if and only if its own bytes end it: after `quit` or a line that is too long, and not before
abbrev pub OverByOwn : List Step → HostState → Type 0
OverByOwn steps end =
    (id : SessionId) → is_opened id steps ≡ true → IsSettled (find end.slots id)
    → is_over_of (find end.slots id) ≡ is_over_after_under end.setup (own id steps)

-- a session that was open before the run is ended by what it was fed before and its own bytes
abbrev pub EndsOn : HostState → List Step → HostState → Type 0
EndsOn old steps end =
    (id : SessionId) (s : SessionView) → find old.slots id ≡ Some s
    → OverFrom (is_over_due s) (own id steps) (find end.slots id)

-- two runs under one setup, each of which opened a session that ends open with nothing pending, make the same bytes for it if it was fed the same bytes; all else may differ
abbrev pub IsolatesSessions : Type 0
IsolatesSessions =
    (old new other_old other_new : HostState) (steps other_steps : List Step) (id other : SessionId)
    → IsRun old steps new → IsRun other_old other_steps other_new
    → new.setup ≡ other_new.setup
    → is_opened id steps ≡ true → is_opened other other_steps ≡ true
    → IsSettled (find new.slots id) → IsSettled (find other_new.slots other)
    → own id steps ≡ own other other_steps
    → made_by id steps new ≡ made_by other other_steps other_new
