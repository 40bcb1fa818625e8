use Rattle.std.proofs.Common.{rules, ◌≡◌, ◌∙◌, arith, refl}
use Rattle.socket_loop.specs.Scenes.{Scene, scene}
use Rattle.socket_loop.specs.Serving.{IsTurnTo, IsWait}
use Rattle.socket_loop.proofs.WholeLives.{done_by, lives_turn, lives_turns, lives_wait, stopped_by}
use Rattle.socket_loop.proofs.Ends.{ends_stopped, ends_turns}
use Rattle.socket_loop.proofs.Turns.{stops, turns_more, turns_none}
use Rattle.socket_loop.proofs.Waits.{answers_in_time}
use Rattle.socket_loop.proofs.serving.serve.Goals as goal

pub loop-init : goal.loop-init
loop-init g c = record {
  so_far = turns_none c.args.links.now.slice (scene g.W.Wire c.args.links.now.held c.args.wire.now c.args.host.now);
  fits = c.requires.fits;
  slice = refl;
}

pub loop-preserved : goal.loop-preserved
loop-preserved g c =
    let first : Scene = scene g.W.Wire c.args.links.now.held c.args.wire.now c.args.host.now in
    let between : Scene = scene g.W.Wire c.loop.links.held c.loop.wire c.loop.host in
    let after : Scene = scene g.W.Wire c.turn-turn.new.self.held c.wait.new.self c.turn-turn.new.host in
    record {
      so_far = turns_more c.args.links.now.slice c.loop.counter first between after c.loop.invariant.so_far (record {
        middle = scene g.W.Wire c.turn-turn.new.self.held c.turn-turn.new.wire c.turn-turn.new.host;
        turn = record {
          moved = c.turn-turn.result.moved;
          tally = c.turn-turn.result.tally;
          turned = rw c.loop.invariant.slice at c.turn-turn.ensures.turn.scenes;
          pending = c.turn-turn.ensures.pending;
          known = c.turn-turn.ensures.known;
          fits = c.turn-turn.ensures.fits;
          faults = c.turn-turn.ensures.faults;
          rising = c.turn-turn.ensures.rising;
          once = c.turn-turn.ensures.once;
          finished = c.turn-turn.ensures.finished;
        };
        wait = record { held = refl; bound = c.wait.ensures.bound; report = c.wait.ensures.unchanged; asked = c.in_ok-wait.ensures.asked; faults = c.wait.ensures.cause.0; host = refl };
      });
      fits = rw c.wait.ensures.bound c.turn-turn.ensures.fits;
      slice = c.turn-turn.ensures.turn.slice ∙ c.loop.invariant.slice;
    }

-- the wait is what failed, after one more turn
pub returns-in_err-wait-clause-all : goal.returns-in_err-wait-clause-all
returns-in_err-wait-clause-all g c =
    let first : Scene = scene g.W.Wire c.args.links.now.held c.args.wire.now c.args.host.now in
    let between : Scene = scene g.W.Wire c.loop.links.held c.loop.wire c.loop.host in
    let middle : Scene = scene g.W.Wire c.turn-turn.new.self.held c.turn-turn.new.wire c.turn-turn.new.host in
    let after : Scene = scene g.W.Wire c.turn-turn.new.self.held c.wait.new.self c.turn-turn.new.host in
    let turn : IsTurnTo c.args.links.now.slice between middle =
    record {
      moved = c.turn-turn.result.moved;
      tally = c.turn-turn.result.tally;
      turned = rw c.loop.invariant.slice at c.turn-turn.ensures.turn.scenes;
      pending = c.turn-turn.ensures.pending;
      known = c.turn-turn.ensures.known;
      fits = c.turn-turn.ensures.fits;
      faults = c.turn-turn.ensures.faults;
      rising = c.turn-turn.ensures.rising;
      once = c.turn-turn.ensures.once;
      finished = c.turn-turn.ensures.finished;
    } in
    let wait : IsWait c.turn-turn.result.moved c.wait.result middle after =
    record { held = refl; bound = c.wait.ensures.bound; report = c.wait.ensures.unchanged; asked = c.wait.ensures.asked; faults = c.wait.ensures.cause.0; host = refl } in
    record {
      slice = c.turn-turn.ensures.turn.slice ∙ c.loop.invariant.slice;
      scenes = record {
        done = search rules;
        stopped = stopped_by c.args.links.now.slice c.args.turns first after c.from_residual.result c.requires.fits (λ n b turns. answers_in_time c.args.links.now.slice n first b turns c.requires.fits) (stops c.wait.result c.from_residual.result c.args.links.now.slice c.loop.counter c.args.turns first between middle after (search rules) (search rules) c.loop.invariant.so_far turn wait c.wait.ensures.cause);
        whole = lives_wait first middle after (lives_turn c.args.links.now.slice c.turn-turn.result.moved first between middle (lives_turns c.args.links.now.slice c.loop.counter first between c.requires.fits c.loop.invariant.so_far).lives turn.turned.asked.turn) wait;
        ends = λ one o. ends_stopped c.args.links.now.slice c.loop.counter first between middle after o c.loop.invariant.so_far turn wait;
      };
    }

pub returns-clause-all : goal.returns-clause-all
returns-clause-all g c =
    let first : Scene = scene g.W.Wire c.args.links.now.held c.args.wire.now c.args.host.now in
    let last : Scene = scene g.W.Wire c.loop.links.held c.loop.wire c.loop.host in
    let all : c.loop.counter ≡ c.args.turns = omega arith in
    let turns = rw all at c.loop.invariant.so_far in
    record {
      slice = c.loop.invariant.slice;
      scenes = record {
        done = done_by c.args.links.now.slice c.args.turns first last c.requires.fits turns (answers_in_time c.args.links.now.slice c.args.turns first last turns c.requires.fits);
        stopped = tt;
        whole = (lives_turns c.args.links.now.slice c.loop.counter first last c.requires.fits c.loop.invariant.so_far).lives;
        ends = λ one o. ends_turns c.args.links.now.slice c.args.turns first last one o turns;
      };
    }
