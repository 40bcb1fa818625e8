use Rattle.std.proofs.Common.{◌≡◌, ◌+◌, drop}
use Rattle.socket_loop.proofs.turn.place_of.Given as goal
use Rattle.socket_loop.specs.Accepting.{place_for}

-- the slots so far are at most the new slot
abbrev pub invariant-loop-place : goal.invariant-loop-place
invariant-loop-place l = place_for l.fn.slot l.fn.held ≡ l.place + place_for l.fn.slot (drop l.place l.fn.held)
