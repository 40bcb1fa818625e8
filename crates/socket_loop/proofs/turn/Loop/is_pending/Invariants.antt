use Rattle.std.proofs.Common.{◌≡◌, false, take}
use Rattle.socket_loop.specs.Links.{links_of}
use Rattle.socket_loop.specs.Turns.{any_pending}
use Rattle.socket_loop.proofs.turn.Loop.is_pending.Given as goal

-- no session so far is pending
abbrev pub invariant-loop-connection : goal.invariant-loop-connection
invariant-loop-connection g l = any_pending l.host (links_of (take l.connection-index l.connection-items)) ≡ false
