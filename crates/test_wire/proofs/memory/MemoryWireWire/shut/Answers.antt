use Rattle.std.proofs.Common.{◌<◌, arith, length, subst, sym}
use Rattle.test_wire.specs.Memory.{WireState}
use Rattle.test_wire.proofs.memory.MemoryWireWire.shut.Goals as goal

pub index_mut-requires : goal.index_mut-requires
index_mut-requires g c =
    let known : c.args.number < length c.self.inside.peers.items = subst (λ (w : WireState). c.args.number < length w.peers) (sym c.self.view_is) (c.is_open.ensures.known c.if-is_open.true) in
    omega (arith, known, c.self.inside.peers.ok)
