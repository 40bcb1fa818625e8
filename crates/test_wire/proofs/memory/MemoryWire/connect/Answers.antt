use Rattle.std.proofs.Common.{arith}
use Rattle.test_wire.proofs.memory.MemoryWire.connect.Goals as goal

pub invariant_of-self : goal.invariant_of-self
invariant_of-self g c = omega (arith, c.self.invariant, c.push.ensures.len)

pub invariant_of-self-2 : goal.invariant_of-self-2
invariant_of-self-2 g c = omega (arith, c.self.invariant, c.push.ensures.len)
