-- The limits of a loop (own choice).
use Rattle.std.specs.Prelude.{◌≡◌}
use Rattle.session_slots.specs.declared.limits.TheConstants.{SESSIONS_MAX}
use Rattle.socket_loop.specs.declared.status_line.TheConstants.{LINE_MAX}
use Rattle.socket_loop.specs.declared.turn.TheConstants.{ACCEPTS}
use Rattle.socket_loop.specs.declared.visitors.TheConstants.{ANSWERS}

-- most accepts in a turn, sessions, and status clients answered after a turn; and the room for a status line, in
-- bytes
pub record AreNumbers : Type 0 where
  pub accepts : ACCEPTS ≡ 16
  pub sessions : SESSIONS_MAX ≡ 1024
  pub answers : ANSWERS ≡ 16
  pub line : LINE_MAX ≡ 1024
