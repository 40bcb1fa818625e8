use Rattle.std.proofs.Common.{◌≡◌, ◌∙◌, ◌<◌, arith, min, ap, length, refl, subst, sym}
use Rattle.std.specs.Prelude.{IfOk}
use Rattle.test_wire.specs.Memory.{PeerState, WireState, called, fails_for, peer_of}
use Rattle.test_wire.proofs.Changes.{never_device, peer_same, write_is, writes, writes_failing}
use Rattle.test_wire.proofs.memory.MemoryWireWire.write.Goals as goal

pub returns-then-fails_for-clause-device : goal.returns-then-fails_for-clause-device
returns-then-fails_for-clause-device g c = ((λ _. sym c.if-fails_for.ensures.test), (λ _. refl))

pub returns-then-fails_for-clause-after : goal.returns-then-fails_for-clause-after
returns-then-fails_for-clause-after g c = c.if-fails_for.ensures.after

pub returns-then-fails_for-clause-bound : goal.returns-then-fails_for-clause-bound
returns-then-fails_for-clause-bound g c = ap (λ (w : WireState). w.accepted) c.if-fails_for.ensures.after

pub returns-then-fails_for-clause-written : goal.returns-then-fails_for-clause-written
returns-then-fails_for-clause-written g c = writes_failing c.args.self.now c.fails_for.new.self c.args.number c.args.buf.now c.if-fails_for.ensures.after

pub returns-then-fails_for-clause-cause : goal.returns-then-fails_for-clause-cause
returns-then-fails_for-clause-cause g c = (c.if-fails_for.ensures.rises, (λ _. c.if-fails_for.ensures.cause refl))

pub index_mut-requires : goal.index_mut-requires
index_mut-requires g c =
    let known : c.args.number < length c.self.inside.peers.items = subst (λ (w : WireState). c.args.number < length w.peers) (sym c.self.view_is) (c.if-fails_for.ensures.known refl) in
    omega (arith, known, c.self.inside.peers.ok)

pub returns-clause-device : goal.returns-clause-device
returns-clause-device g c = never_device c.take.result (fails_for c.args.self.now c.args.number) (sym c.if-fails_for.ensures.test) c.take.ensures.fault

pub returns-clause-taken : goal.returns-clause-taken
returns-clause-taken g c =
    let same : _ ≡ called c.args.self.now = c.self.view_is ∙ c.if-fails_for.ensures.after in
    let known : c.args.number < length c.self.inside.peers.items = subst (λ (w : WireState). c.args.number < length w.peers) (sym c.self.view_is) (c.if-fails_for.ensures.known refl) in
    let is : c.index_mut.result.now ≡ peer_of c.args.self.now c.args.number = peer_same c.args.self.now c.self.inside.peers.items c.args.number c.index_mut.result.now (ap (λ (w : WireState). w.peers) same) known c.index_mut.ensures.value in
    subst (λ (p : PeerState). IfOk c.take.result (λ n. n ≡ min p.width (length c.args.buf.now))) is c.take.ensures.count

pub returns-clause-after : goal.returns-clause-after
returns-clause-after g c =
    let same : _ ≡ called c.args.self.now = c.self.view_is ∙ c.if-fails_for.ensures.after in
    let known : c.args.number < length c.self.inside.peers.items = subst (λ (w : WireState). c.args.number < length w.peers) (sym c.self.view_is) (c.if-fails_for.ensures.known refl) in
    write_is c.args.self.now _ c.args.number c.args.buf.now c.index_mut.result.now c.take.new.self c.take.result same known c.index_mut.ensures.value c.take.ensures.ok c.take.ensures.err c.take.ensures.fault

pub returns-clause-bound : goal.returns-clause-bound
returns-clause-bound g c = ap (λ (w : WireState). w.accepted) (c.self.view_is ∙ c.if-fails_for.ensures.after)

pub returns-clause-written : goal.returns-clause-written
returns-clause-written g c =
    let same : _ ≡ called c.args.self.now = c.self.view_is ∙ c.if-fails_for.ensures.after in
    let known : c.args.number < length c.self.inside.peers.items = subst (λ (w : WireState). c.args.number < length w.peers) (sym c.self.view_is) (c.if-fails_for.ensures.known refl) in
    writes c.args.self.now.peers c.self.inside.peers.items c.args.number c.index_mut.result.now c.take.new.self c.take.result c.args.buf.now (ap (λ (w : WireState). w.peers) same) known c.index_mut.ensures.value
    c.take.ensures.within c.take.ensures.appended c.take.ensures.chunks c.take.ensures.shut c.take.ensures.failed
