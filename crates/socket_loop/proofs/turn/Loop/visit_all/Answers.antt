use Rattle.std.proofs.Common.{rules, arith, ◌≡◌, ◌<◌, [], drop, length}
use Rattle.socket_loop.specs.Scenes.{scene}
use Rattle.socket_loop.specs.Links.{reads_ended}
use Rattle.socket_loop.specs.Calls.{calls_of, steps_of}
use Rattle.socket_loop.proofs.Parts.{carries_by_same, carries_by_next}
use Rattle.socket_loop.proofs.Marks.{marked_at, ended_visit}
use Rattle.socket_loop.proofs.Calls.{all_taken}
use Rattle.socket_loop.proofs.Tallies.{shut_next}
use Rattle.socket_loop.proofs.Each.{visits_start, visits_next, visits_end}
use Rattle.socket_loop.proofs.Left.{left_next, left_end}
use Rattle.socket_loop.proofs.turn.Loop.visit_all.Goals as goal

pub loop-connection-init : goal.loop-connection-init
loop-connection-init g c =
    let same : c.deref_mut-connection-items.result.now ≡ c.args.self.now.held = search rules in
    record { visits = rw same (visits_start (calls_of c.args.part) (steps_of c.args.part) (scene g.W.Wire c.args.self.now.held c.args.wire.now c.args.host.now)); carries = λ marks marked. carries_by_same _ _ _ _ _ _; ended = λ e. rw same (λ n m. m); left = λ e once. tt; count = rw same (omega arith); few = omega arith }

pub loop-connection-preserved : goal.loop-connection-preserved
loop-connection-preserved g c =
    let lt : c.loop-connection.connection-index < length c.loop-connection.connection-items = search rules in
    record {
      visits = visits_next c.loop-connection.connection-index (calls_of c.args.part) (steps_of c.args.part) c.loop-connection.moved _ (scene g.W.Wire c.args.self.now.held c.args.wire.now c.args.host.now) (scene g.W.Wire c.loop-connection.connection-items c.loop-connection.wire c.loop-connection.host) (scene g.W.Wire [] c.visit-has_moved.new.wire c.visit-has_moved.new.host) c.visit-has_moved.new.held _ lt c.loop-connection.invariant.visits
          (c.loop-connection.invariant.carries c.args.self.now.held (λ e n m. m)).carries.all (c.visit-has_moved.ensures.carries.carries c.args.self.now.held (λ e h. c.loop-connection.invariant.ended e _ (marked_at reads_ended c.loop-connection.connection-items c.loop-connection.connection-index _ lt h))).carries.all c.visit-has_moved.ensures.carries.visited c.visit-has_moved.ensures.emptied
          c.visit-has_moved.ensures.visit;
      carries = λ marks marked. carries_by_next (steps_of c.args.part) marks _ c.loop-connection.connection-items _ c.loop-connection.connection-index _ _ _ _ _ _ _ lt c.loop-connection.invariant.visits.links (c.loop-connection.invariant.carries marks marked) (rw c.loop-connection.invariant.visits.bound at (c.visit-has_moved.ensures.carries.carries marks (λ e h. marked e _ (c.loop-connection.invariant.ended e _ (marked_at reads_ended c.loop-connection.connection-items c.loop-connection.connection-index _ lt h)))));
      ended = λ e. ended_visit _ c.loop-connection.connection-items c.loop-connection.connection-index _ _ lt c.visit-has_moved.ensures.carries.visited.visit.link (c.visit-has_moved.ensures.ended e) (c.loop-connection.invariant.ended e);
      left = λ e. left_next (steps_of c.args.part) _ c.loop-connection.connection-items c.loop-connection.connection-index _ _ _ _ lt c.loop-connection.invariant.visits.links (c.loop-connection.invariant.left e) c.visit-has_moved.ensures.carries.visited.visit.steps (c.visit-has_moved.ensures.left e);
      count = shut_next c.loop-connection.shut c.newly_shut-shut.result _ c.loop-connection.connection-items c.loop-connection.connection-index _ _ lt c.loop-connection.invariant.count c.visit-has_moved.ensures.carries.visited.visit.made.shut c.newly_shut-shut.ensures.count;
      few = omega arith;
    }

pub returns-clause-all : goal.returns-clause-all
returns-clause-all g c = record {
  slice = search rules;
  scenes = record {
    visited = visits_end c.loop-connection.connection-index c.self.inside.held.len (calls_of c.args.part) (steps_of c.args.part) c.loop-connection.moved (scene g.W.Wire c.args.self.now.held c.args.wire.now c.args.host.now) (scene g.W.Wire c.loop-connection.connection-items c.loop-connection.wire c.loop-connection.host) (drop (length c.loop-connection.connection-items) c.self.inside.held.items) (search rules) (search rules) c.loop-connection.invariant.visits;
    carries = c.loop-connection.invariant.carries;
    ends = λ e. record {
      ended = rw (all_taken c.self.inside.held.len c.loop-connection.connection-items (drop (length c.loop-connection.connection-items) c.self.inside.held.items) (search rules)) (c.loop-connection.invariant.ended e);
      left = left_end c.loop-connection.connection-index c.self.inside.held.len c.args.self.now.held c.loop-connection.connection-items _ c.loop-connection.host (search rules) (search rules) (c.loop-connection.invariant.left e);
    };
  };
}

pub returns-clause-shut : goal.returns-clause-shut
returns-clause-shut g c =
    rw (all_taken c.self.inside.held.len c.loop-connection.connection-items (drop (length c.loop-connection.connection-items) c.self.inside.held.items) (search rules)) c.loop-connection.invariant.count
