use Rattle.std.proofs.Common.{◌≡◌}
use Rattle.socket_loop.specs.Links.{links_of}
use Rattle.socket_loop.specs.Scenes.{scene}
use Rattle.socket_loop.specs.Turns.{Fits}
use Rattle.socket_loop.specs.Serving.{AreTurns}
use Rattle.socket_loop.proofs.serving.serve.Given as goal

-- the turns made so far, each with a wait after it
abbrev pub invariant-loop : goal.invariant-loop
invariant-loop g l = record {
  so_far : AreTurns l.fn.links.slice l.counter
      (scene g.W.Wire l.fn.links.held l.fn.wire l.fn.host)
      (scene g.W.Wire l.links.held l.wire l.host);
  fits : Fits (links_of l.links.held) (g.W.Wire.bound l.wire) l.host;
  slice : l.links.slice ≡ l.fn.links.slice;
}
