-- How many turns a session waits at most, whatever other sessions do (own choice).
use Rattle.std.specs.Prelude.{◌≡◌, ◌≤◌, ◌<◌, ◌+◌, ◌*◌, ◌⊎◌, ℕ, zero, suc, List, [], ◌∷◌, true, false, Some}
use Rattle.session_slots.specs.declared.id.SessionId.{SessionId}
use Rattle.session_slots.specs.Slots.{find}
use Rattle.usi_session.specs.Due.{SessionView, is_pending, load}
use Rattle.host_core.specs.ById.{pending_of}
use Rattle.socket_loop.specs.declared.connection.Link.{Link}
use Rattle.socket_loop.specs.Links.{links_of, IsAmong}
use Rattle.socket_loop.specs.Parts.{work_failed, some_step}
use Rattle.socket_loop.specs.Past.{PastTurn, scene_after}
use Rattle.socket_loop.specs.Scenes.{Scene}

-- the scene before the last `n` turns
abbrev pub before_last : Scene → ℕ → List PastTurn → Scene
before_last before zero turns = scene_after before turns
before_last before (suc more) [] = before
before_last before (suc more) (last ∷ earlier) = before_last before more earlier

-- after one of the last `n` turns the session is closed or has nothing pending; or its `Work` ran out of memory in
-- that turn
abbrev pub IsThroughInLast : ℕ → List PastTurn → SessionId → Type 0
IsThroughInLast zero turns id = ⊥
IsThroughInLast (suc more) [] id = ⊥
IsThroughInLast (suc more) (last ∷ earlier) id =
    IsThroughInLast more earlier id
    ⊎ ((pending_of (find last.after.host.slots id) ≡ false)
    ⊎ (some_step (work_failed id) last.steps ≡ true))

-- a session is still pending, and each of `n` turns took a slice off its load
pub record IsNearer (slice n : ℕ) (start : SessionView) (after : Scene) (id : SessionId)
    : Type 0 where
  pub session : SessionView
  pub finds : find after.host.slots id ≡ Some session
  pub pending : is_pending session ≡ true
  pub made : n * slice + load session ≤ load start

-- the connection is held, and its session is pending
pub record IsWaiting (scene : Scene) (link : Link) (start : SessionView) : Type 0 where
  pub held : IsAmong (links_of scene.held) link
  pub finds : find scene.host.slots link.id ≡ Some start
  pub pending : is_pending start ≡ true

-- a session pending before the last `more` turns is through after one of them, or each turn took a slice off its
-- load; it is through if these turns have more slices than its load has steps
pub record AnswersInLast (slice more : ℕ) (before : Scene) (turns : List PastTurn) : Type 0 where
  pub nearer : (link : Link) (start : SessionView)
      → IsWaiting (before_last before more turns) link start
      → IsThroughInLast more turns link.id
      ⊎ IsNearer slice more start (scene_after before turns) link.id
  pub in_time : (link : Link) (start : SessionView)
      → IsWaiting (before_last before more turns) link start
      → load start < more * slice
      → IsThroughInLast more turns link.id

-- a pending session is answered in time, from each of the last `n` turns on
abbrev pub AnswersInTime : (slice n : ℕ) → Scene → List PastTurn → Type 0
AnswersInTime slice n before turns = (more : ℕ) → more ≤ n → AnswersInLast slice more before turns
