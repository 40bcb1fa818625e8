-- All that a serving promises (own choice).
use Rattle.std.specs.Prelude.{◌≤◌, ◌⊎◌, ℕ, Result, IfOk, IfErr, ◌<◌, Err}
use Rattle.transport.specs.declared.wire.WireFault.{WireFault}
use Rattle.transport.specs.Report.{HasCause}
use Rattle.socket_loop.specs.Links.{links_of, AreOnce, IsAmong}
use Rattle.socket_loop.specs.Scenes.{Scene}
use Rattle.socket_loop.specs.Serving.{AreTurns, past_of, IsTurnTo, IsWait}
use Rattle.socket_loop.specs.Life.{EndsByBytes, IsAccountedFor, Lives}
use Rattle.socket_loop.specs.Patience.{AnswersInTime}
use Rattle.socket_loop.specs.Past.{WasAccepted}
use Rattle.host_core.specs.Events.{Outcome}

-- `count` turns were taken, each with a wait; pending sessions are answered in time, and each accepted connection is
-- accounted for
pub record IsDone (slice count : ℕ) (before after : Scene) : Type 0 where
  pub turns : AreTurns slice count before after
  pub in_time : AnswersInTime slice count before (past_of slice count before after turns)
  pub accounted : (number : ℕ) → WasAccepted (past_of slice count before after turns) number
      → IsAccountedFor before after number

-- after fewer turns than asked for, one more was taken, whose wait failed with this fault; pending sessions were
-- answered in time, and each accepted connection is accounted for
pub record IsStopped (slice most : ℕ) (before after : Scene) (fault : WireFault) : Type 0 where
  pub count : ℕ
  pub few : count < most
  pub between : Scene
  pub turns : AreTurns slice count before between
  pub last : Scene
  pub turn : IsTurnTo slice between last
  pub wait : IsWait turn.moved (Err fault) last after
  pub cause : HasCause {T = Unit {0}} last.failed after.failed (Err fault)
  pub in_time : AnswersInTime slice count before (past_of slice count before between turns)
  pub accounted : (number : ℕ)
      → WasAccepted (past_of slice count before between turns) number
      ⊎ ((outcome : Outcome)
      × IsAmong turn.turned.asked.turn.meets.accepted
      (record { number = number; outcome = outcome }))
      → IsAccountedFor before after number

-- all turns were taken, each with a wait, or a wait failed; and what became of each connection
pub record ServesTurns (slice turns : ℕ) (result : Result (Unit {0}) WireFault)
    (before after : Scene) : Type 0 where
  pub done : IfOk result (λ _. IsDone slice turns before after)
  pub stopped : IfErr result (λ fault. IsStopped slice turns before after fault)
  pub whole : Lives before after
  pub ends : 1 ≤ turns → AreOnce (links_of before.held) → EndsByBytes before after
