use Rattle.std.proofs.Common.{◌≡◌, true}
use Rattle.stream_transport.specs.Held.{AreAlike}
use Rattle.stream_transport.specs.Asking.{AreAwakeStill}
use Rattle.stream_transport.proofs.Waking.{AwakeTo, NamedTo}
use Rattle.stream_transport.proofs.readiness.mark_all_ready.Given as goal

-- the streams named so far are awake, and only readiness has changed
abbrev pub invariant-loop-place : goal.invariant-loop-place
invariant-loop-place g l = record {
  awake : AwakeTo l.place (g.L.Listener.named l.fn.listener) l.places.items;
  named : NamedTo l.place (g.L.Listener.named l.fn.listener) l.may_accept;
  opens : l.fn.may_accept ≡ true → l.may_accept ≡ true;
  alike : AreAlike l.fn.places.items l.places.items;
  still : AreAwakeStill l.fn.places.items l.places.items;
}
