use Rattle.std.proofs.Common.{refl}
use Rattle.stream_transport.proofs.Placing.{held_pushed}
use Rattle.stream_transport.proofs.places.free_place.Goals as goal

pub returns-then-is_none-clause-room : goal.returns-then-is_none-clause-room
returns-then-is_none-clause-room g c = rw c.len-place-end.ensures at c.loop-place-test.true

pub returns-then-is_none-clause-same : goal.returns-then-is_none-clause-same
returns-then-is_none-clause-same g c = λ number. refl

pub returns-in_err-push-clause-same : goal.returns-in_err-push-clause-same
returns-in_err-push-clause-same g c = rw c.in_err-push.ensures.items (λ number. refl)

pub returns-clause-same : goal.returns-clause-same
returns-clause-same g c = rw c.in_ok-push.ensures.items (λ number. held_pushed c.args.places.now.items number)
