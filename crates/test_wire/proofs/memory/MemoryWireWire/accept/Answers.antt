use Rattle.std.proofs.Common.{◌∙◌, ◌+◌, ◌==◌, ap, arith}
use Rattle.test_wire.specs.Memory.{WireState}
use Rattle.test_wire.proofs.Changes.{all_kept, counted_peers}
use Rattle.test_wire.proofs.memory.MemoryWireWire.accept.Goals as goal

pub returns-then-fails-clause-unchanged : goal.returns-then-fails-clause-unchanged
returns-then-fails-clause-unchanged g c = all_kept c.args.self.now c.count_call.new.self (counted_peers (c.self.inside.fails_in == 1) c.args.self.now c.count_call.new.self c.count_call.ensures.after)

pub returns-then-self-len-clause-unchanged : goal.returns-then-self-len-clause-unchanged
returns-then-self-len-clause-unchanged g c =
    all_kept c.args.self.now (record c.count_call.new.self { peers = c.self-2.inside.peers.items; accepted = c.self-2.inside.accepted + 1 })
    (ap (λ (w : WireState). w.peers) c.self-2.view_is ∙ counted_peers (c.self.inside.fails_in == 1) c.args.self.now c.count_call.new.self c.count_call.ensures.after)

pub returns-clause-unchanged : goal.returns-clause-unchanged
returns-clause-unchanged g c = all_kept c.args.self.now c.count_call.new.self (counted_peers (c.self.inside.fails_in == 1) c.args.self.now c.count_call.new.self c.count_call.ensures.after)

pub invariant_of-self : goal.invariant_of-self
invariant_of-self g c = omega (arith, c.if-self-len.true, c.len.ensures, c.self-2.inside.peers.ok)
