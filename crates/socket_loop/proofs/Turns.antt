-- One turn after others.
use Rattle.std.proofs.Common.{◌≡◌, ◌<◌, ◌+◌, ℕ, suc, Result, Ok, Err, IfErr, refl, arith}
use Rattle.transport.specs.declared.wire.WireFault.{WireFault}
use Rattle.transport.specs.Report.{HasCause}
use Rattle.socket_loop.specs.Scenes.{Scene}
use Rattle.socket_loop.specs.Serving.{AreTurns, IsTurnTo, IsTurnAndWait, IsWait}

-- fewer turns than so many, each with a wait after it, and then one more, with a wait that fails with this fault
pub record Stops (slice most : ℕ) (before after : Scene) (fault : WireFault) : Type 0 where
  pub count : ℕ
  pub few : count < most
  pub between : Scene
  pub turns : AreTurns slice count before between
  pub last : Scene
  pub turn : IsTurnTo slice between last
  pub wait : IsWait turn.moved (Err fault) last after
  pub cause : HasCause {T = Unit {0}} last.failed after.failed (Err fault)

pub turns_none : (slice : ℕ) (scene : Scene) → AreTurns slice 0 scene scene
turns_none slice scene = refl

pub turns_more : (slice n : ℕ) (before between after : Scene) → AreTurns slice n before between
    → IsTurnAndWait slice between after → AreTurns slice (n + 1) before after
turns_more slice n before between after so_far next = let one_more : n + 1 ≡ suc n = omega arith in rw one_more (between, so_far, next)

pub stops : (wait result : Result (Unit {0}) WireFault) (slice n most : ℕ) (before between last after : Scene) → result ≡ wait → n < most
    → AreTurns slice n before between → (turn : IsTurnTo slice between last) → IsWait turn.moved wait last after → HasCause last.failed after.failed wait → IfErr result (λ fault. Stops slice most before after fault)
stops wait (Ok value) slice n most before between last after same less so_far turn waited cause = tt
stops wait (Err fault) slice n most before between last after same less so_far turn waited cause =
    record { count = n; few = less; between = between; turns = so_far; last = last; turn = turn; wait = rw (← same) at waited; cause = rw (← same) at cause }
