-- Past turns, as they went (own choice).
use Rattle.std.specs.Prelude.{◌⊎◌, ℕ, List, [], ◌∷◌}
use Rattle.host_core.specs.Events.{Outcome}
use Rattle.host_core.specs.Made.{Step}
use Rattle.socket_loop.specs.Links.{IsAmong}
use Rattle.socket_loop.specs.Scenes.{Scene}

-- an accepted connection, and how the host answered its `Open`
pub record Accepted : Type 0 where
  pub number : ℕ
  pub outcome : Outcome

-- a turn and the wait after it: the connections accepted, the steps of the host, and the scene after them
pub record PastTurn : Type 0 where
  pub accepted : List Accepted
  pub steps : List Step
  pub after : Scene

-- the scene after these turns, the last of which comes first
abbrev pub scene_after : Scene → List PastTurn → Scene
scene_after before [] = before
scene_after before (last ∷ earlier) = last.after

-- the connection of this number was accepted in one of these turns
abbrev pub WasAccepted : List PastTurn → ℕ → Type 0
WasAccepted [] number = ⊥
WasAccepted (last ∷ earlier) number =
    WasAccepted earlier number
    ⊎ ((outcome : Outcome)
    × IsAmong last.accepted (record { number = number; outcome = outcome }))
