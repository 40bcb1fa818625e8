use Rattle.std.proofs.Common.{◌≡◌, ◌<◌, ◌≤◌, ◌+◌, true}
use Rattle.socket_loop.specs.Links.{links_of}
use Rattle.socket_loop.proofs.Accepting.{AcceptsSome}
use Rattle.socket_loop.proofs.turn.Loop.accept_all.Given as goal
use Rattle.socket_loop.specs.Accepting.{HoldsMore}
use Rattle.socket_loop.specs.Visits.{IsQuiet}

-- the connections so far were accepted
abbrev pub invariant-loop : goal.invariant-loop
invariant-loop g l = record {
  so_far : AcceptsSome l.counter l.arrivals (links_of l.fn.self.held) (g.W.Wire.bound l.fn.wire) (g.W.Wire.report l.fn.wire) l.fn.host (links_of l.self.held) (g.W.Wire.bound l.wire) (g.W.Wire.report l.wire) l.host (g.W.Wire.asked l.fn.wire) (g.W.Wire.asked l.wire);
  more : HoldsMore l.fn.self.held (g.W.Wire.failed l.fn.wire) l.self.held (g.W.Wire.failed l.wire);
  quiet : IsQuiet l.arrivals.moved (g.W.Wire.report l.fn.wire) l.fn.self.held (g.W.Wire.report l.wire) l.self.held;
  accepted : l.arrivals.moved ≡ true → g.W.Wire.bound l.fn.wire < g.W.Wire.bound l.wire;
  slice : l.self.slice ≡ l.fn.self.slice;
  count : l.arrivals.accepted ≡ l.counter;
  few : l.arrivals.full + l.arrivals.unopened ≤ l.counter;
}
