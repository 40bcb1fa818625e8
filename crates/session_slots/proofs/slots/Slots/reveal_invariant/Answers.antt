use Rattle.std.proofs.Common.{None, arith}
use Rattle.std.specs.Prelude.{slice_index_or}
use Rattle.session_slots.proofs.Below.{found_below}
use Rattle.session_slots.proofs.slots.Slots.reveal_invariant.Goals as goal

pub returns-clause-below : goal.returns-clause-below
returns-clause-below g c = rw (← c.self.view_is) (λ id some. found_below id.generation c.self.inside.next (slice_index_or c.self.inside.slots.slots id.slot None) (c.self.invariant.below id.slot) some)

pub returns-clause-few : goal.returns-clause-few
returns-clause-few g c = rw (← c.self.view_is) (omega (arith, c.self.invariant.few, c.self.invariant.most))
