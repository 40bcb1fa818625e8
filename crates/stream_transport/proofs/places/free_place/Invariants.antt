use Rattle.stream_transport.specs.Held.{AreTakenBelow}
use Rattle.stream_transport.proofs.places.free_place.Given as goal

-- the places so far are taken
abbrev pub invariant-loop-place : goal.invariant-loop-place
invariant-loop-place g l = AreTakenBelow l.fn.places.items l.place
