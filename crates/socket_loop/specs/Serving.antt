-- A loop that takes turns and waits after each of them (own choice).
use Rattle.std.specs.Prelude.{◌≡◌, ◌≤◌, ℕ, zero, suc, List, [], ◌∷◌, Bool, false, Result, Ok, not}
use Rattle.transport.specs.declared.wire.WireFault.{WireFault}
use Rattle.transport.specs.Asked.{Wait, Asks}
use Rattle.transport.specs.Report.{KeepsAll}
use Rattle.transport.specs.Moves.{StaysKnown}
use Rattle.socket_loop.specs.Links.{links_of, AreOnce, IsRising, Each}
use Rattle.socket_loop.specs.Past.{PastTurn}
use Rattle.socket_loop.specs.Scenes.{Scene}
use Rattle.socket_loop.specs.declared.tally.Tally.{Tally}
use Rattle.socket_loop.specs.Turns.{Fits, any_pending}
use Rattle.socket_loop.specs.Calls.{Turns}
use Rattle.socket_loop.specs.Parts.{is_finished}

-- a turn, with all that `Loop::turn` promises
pub record IsTurnTo (slice : ℕ) (before after : Scene) : Type 0 where
  pub moved : Bool
  pub tally : Tally
  pub turned : Turns slice moved tally before after
  pub pending : moved ≡ false → any_pending after.host (links_of after.held) ≡ false
  pub known : StaysKnown before.report after.report
  pub fits : Fits (links_of after.held) after.bound after.host
  pub faults : before.failed ≤ after.failed
  pub rising : IsRising (links_of before.held) → IsRising (links_of after.held)
  pub once : AreOnce (links_of before.held) → AreOnce (links_of after.held)
  pub finished : AreOnce (links_of before.held)
      → Each (λ connection. is_finished after.host connection ≡ false) after.held

-- a wait after a turn, with this answer: it is the only call, and lasts until something may be ready exactly if the
-- turn did not move; connections, host and report stay
pub record IsWait (moved : Bool) (answer : Result (Unit {0}) WireFault) (before after : Scene)
    : Type 0 where
  pub held : after.held ≡ before.held
  pub bound : after.bound ≡ before.bound
  pub report : KeepsAll before.report after.report
  pub asked : Asks before.asked after.asked (Wait (not moved) answer ∷ [])
  pub faults : before.failed ≤ after.failed
  pub host : after.host ≡ before.host

-- a turn, then a wait that succeeds
pub record IsTurnAndWait (slice : ℕ) (before after : Scene) : Type 0 where
  pub middle : Scene
  pub turn : IsTurnTo slice before middle
  pub wait : IsWait turn.moved (Ok tt) middle after

-- `n` turns, each with a wait after it
abbrev pub AreTurns : ℕ → ℕ → Scene → Scene → Type 0
AreTurns slice zero before after = after ≡ before
AreTurns slice (suc n) before after =
    (between : Scene) × AreTurns slice n before between × IsTurnAndWait slice between after

-- the turns as they went, the last one first
abbrev pub past_of : (slice n : ℕ) (before after : Scene) → AreTurns slice n before after
    → List PastTurn
past_of slice zero before after turns = []
past_of slice (suc n) before after turns =
    record {
      accepted = turns.2.turn.turned.asked.turn.meets.accepted;
      steps = turns.2.turn.turned.asked.turn.host.steps;
      after = after;
    }
    ∷ past_of slice n before turns.0 turns.1
