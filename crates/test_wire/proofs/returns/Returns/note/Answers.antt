use Rattle.test_wire.proofs.Returning.{below_now}
use Rattle.test_wire.proofs.returns.Returns.note.Goals as goal

pub invariant_of-self : goal.invariant_of-self
invariant_of-self c = record { below = below_now c.args.self.now.next c.saturating_add.result c.max.result c.args.number c.args.self.now.back.items c.and.result.items c.args.remains.now c.ranges.number.fits c.saturating_add.ensures c.max.ensures c.and.ensures c.args.self.now.below }
