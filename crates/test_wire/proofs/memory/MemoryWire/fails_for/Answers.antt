use Rattle.std.proofs.Common.{◌∙◌, ◌≤◌, ap, subst, sym}
use Rattle.test_wire.specs.Memory.{WireState, after_failing, called, changed, failed, failing}
use Rattle.test_wire.proofs.Changes.{first, second}
use Rattle.test_wire.proofs.memory.MemoryWire.fails_for.Goals as goal

pub returns-then-fails-clause-after : goal.returns-then-fails-clause-after
returns-then-fails-clause-after g c =
    c.mark_failure.ensures
    ∙ ap (λ (w : WireState). changed failing c.args.number w) (c.count_call.ensures.after ∙ sym (first c.if-self-eq1.fails (failed (called c.args.self.now)) (called c.args.self.now) c.if-fails.true))
    ∙ first c.if-self-eq1.fails (after_failing c.args.self.now c.args.number) (called c.args.self.now) c.if-fails.true

pub returns-then-fails-clause-known : goal.returns-then-fails-clause-known
returns-then-fails-clause-known g c = λ e. absurd (cc (c.if-fails.true, e))

pub returns-then-fails-clause-rises : goal.returns-then-fails-clause-rises
returns-then-fails-clause-rises g c = subst (λ (w : WireState). c.args.self.now.failed ≤ w.failed) (sym c.mark_failure.ensures) c.count_call.ensures.rises

pub returns-else-fails-clause-after : goal.returns-else-fails-clause-after
returns-else-fails-clause-after g c =
    c.count_call.ensures.after
    ∙ sym (second c.if-self-eq1.fails (failed (called c.args.self.now)) (called c.args.self.now) c.if-fails.false)
    ∙ second c.if-self-eq1.fails (after_failing c.args.self.now c.args.number) (called c.args.self.now) c.if-fails.false

pub returns-else-fails-clause-rises : goal.returns-else-fails-clause-rises
returns-else-fails-clause-rises g c = c.count_call.ensures.rises

pub returns-else-fails-clause-cause : goal.returns-else-fails-clause-cause
returns-else-fails-clause-cause g c = λ e. absurd (cc (c.if-fails.false, e))
