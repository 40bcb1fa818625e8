use Rattle.std.proofs.Common.{refl}
use Rattle.stream_transport.proofs.Waking.{at_end, awake_all, awake_more, awake_none, named_all, named_more, named_none, same_alike, still_alike, still_same, still_then}
use Rattle.stream_transport.proofs.readiness.mark_all_ready.Goals as goal

-- one more stream is awake, or the listener is marked
pub loop-place-preserved : goal.loop-place-preserved
loop-place-preserved g c =
    let named = g.L.Listener.named c.args.listener.now in
    record {
      awake = awake_more c.loop-place.place named c.ready.result c.loop-place.places.items c.mark_one_ready.new.places.items c.ready.ensures c.mark_one_ready.ensures.awake c.mark_one_ready.ensures.still c.loop-place.invariant.awake;
      named = named_more c.loop-place.place named c.ready.result c.loop-place.may_accept c.mark_one_ready.new.may_accept c.ready.ensures c.mark_one_ready.ensures.named c.mark_one_ready.ensures.opens c.loop-place.invariant.named;
      opens = λ e. c.mark_one_ready.ensures.opens (c.loop-place.invariant.opens e);
      alike = still_alike c.args.places.now.items c.loop-place.places.items c.mark_one_ready.new.places.items c.loop-place.invariant.alike c.mark_one_ready.ensures.alike;
      still = still_then c.args.places.now.items c.loop-place.places.items c.mark_one_ready.new.places.items c.loop-place.invariant.still c.mark_one_ready.ensures.still;
    }

-- nothing is marked yet
pub loop-place-init : goal.loop-place-init
loop-place-init g c = record {
  awake = awake_none (g.L.Listener.named c.args.listener.now) c.args.places.now.items;
  named = named_none (g.L.Listener.named c.args.listener.now) c.args.may_accept.now;
  opens = λ e. e;
  alike = same_alike c.args.places.now.items c.args.places.now.items (λ n. refl);
  still = still_same c.args.places.now.items c.args.places.now.items (λ n. refl);
}

-- all that were named are marked
pub returns-clause-alike : goal.returns-clause-alike
returns-clause-alike g c = c.loop-place.invariant.alike

pub returns-clause-still : goal.returns-clause-still
returns-clause-still g c = c.loop-place.invariant.still

pub returns-clause-awake : goal.returns-clause-awake
returns-clause-awake g c = awake_all c.loop-place.place (g.L.Listener.named c.args.listener.now) c.loop-place.places.items (at_end c.loop-place.place c.found-place-end.result _ c.loop-place-test.false c.loop-place.auto.place-end c.found-place-end.ensures) c.loop-place.invariant.awake

pub returns-clause-named : goal.returns-clause-named
returns-clause-named g c = named_all c.loop-place.place (g.L.Listener.named c.args.listener.now) c.loop-place.may_accept (at_end c.loop-place.place c.found-place-end.result _ c.loop-place-test.false c.loop-place.auto.place-end c.found-place-end.ensures) c.loop-place.invariant.named

pub returns-clause-opens : goal.returns-clause-opens
returns-clause-opens g c = c.loop-place.invariant.opens
