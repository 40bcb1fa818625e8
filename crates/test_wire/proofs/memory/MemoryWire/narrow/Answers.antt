use Rattle.std.proofs.Common.{◌<◌, arith, length, sym, subst}
use Rattle.test_wire.specs.Memory.{WireState, IsKnown, narrowing, report_by}
use Rattle.test_wire.proofs.Changes.{changed_is, known_within}
use Rattle.test_wire.proofs.memory.MemoryWire.narrow.Goals as goal

pub index_mut-requires : goal.index_mut-requires
index_mut-requires g c =
    let known : c.args.number < length c.self.inside.peers.items = known_within c.self.inside.peers.items c.args.number (subst (λ (w : WireState). IsKnown (report_by w) c.args.number) (sym c.self.view_is) c.requires) in
    omega (arith, known, c.self.inside.peers.ok)

pub returns : goal.returns
returns g c =
    changed_is c.args.self.now _ (narrowing c.args.most) c.args.number c.index_mut.result.now c.narrow.new.self c.self.view_is
    (known_within c.self.inside.peers.items c.args.number (subst (λ (w : WireState). IsKnown (report_by w) c.args.number) (sym c.self.view_is) c.requires))
    c.index_mut.ensures.value c.narrow.ensures
