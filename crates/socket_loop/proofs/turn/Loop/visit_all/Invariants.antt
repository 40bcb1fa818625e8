use Rattle.std.proofs.Common.{◌≡◌, ◌≤◌, ◌+◌, take, ℕ, List}
use Rattle.socket_loop.specs.declared.connection.Connection.{Connection}
use Rattle.socket_loop.specs.declared.visit.Part.TheVariants.{End}
use Rattle.socket_loop.specs.Links.{links_of, AreOnce, IsMarked, reads_ended, Each}
use Rattle.socket_loop.specs.Scenes.{scene}
use Rattle.socket_loop.specs.Calls.{calls_of, steps_of}
use Rattle.socket_loop.specs.Visits.{VisitsTo, IsLeft, TransfersHeld}
use Rattle.socket_loop.specs.Tallies.{shut_count}
use Rattle.socket_loop.proofs.turn.Loop.visit_all.Given as goal

-- the connections so far were visited, and each is linked as before
abbrev pub invariant-loop-connection : goal.invariant-loop-connection
invariant-loop-connection g l = record {
  visits : VisitsTo l.connection-index (calls_of l.fn.part) (steps_of l.fn.part) l.moved (scene g.W.Wire l.fn.self.held l.fn.wire l.fn.host) (scene g.W.Wire l.connection-items l.wire l.host);
  carries : (marks : List Connection) → (l.fn.part ≡ End → (number : ℕ) → IsMarked reads_ended l.fn.self.held number → IsMarked reads_ended marks number) → TransfersHeld (steps_of l.fn.part) marks (scene g.W.Wire l.fn.self.held l.fn.wire l.fn.host) (scene g.W.Wire l.connection-items l.wire l.host);
  ended : l.fn.part ≡ End → (number : ℕ) → IsMarked reads_ended l.connection-items number → IsMarked reads_ended l.fn.self.held number;
  left : l.fn.part ≡ End → AreOnce (links_of l.fn.self.held) → Each (IsLeft l.host) (take l.connection-index l.connection-items);
  count : l.shut + shut_count l.fn.self.held ≡ shut_count l.connection-items;
  few : l.shut ≤ l.connection-index;
}
