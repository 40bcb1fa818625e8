use Rattle.socket_loop.specs.Turns.{Fits}
use Rattle.transport.specs.Moves.{StaysKnown}
use Rattle.socket_loop.specs.Links.{links_of}
use Rattle.test_examples.proofs.sockets.turn_until_still.Given as goal

abbrev pub invariant-turns : goal.invariant-turns
invariant-turns g l = Fits (links_of l.turns.held) (g.W.Wire.bound l.wire) l.host × StaysKnown (g.W.Wire.report l.fn.wire) (g.W.Wire.report l.wire)
