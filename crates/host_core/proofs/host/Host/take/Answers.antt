use Rattle.std.proofs.Common.{◌≡◌, ap, arith, length, refl, rules, Err}
use Rattle.session_slots.specs.Slots.{find}
use Rattle.host_core.specs.declared.event.HostFault.TheVariants.{NotReady, OutOfMemory}
use Rattle.host_core.specs.Sessions.{Takes}
use Rattle.host_core.proofs.Found.{on_refused}
use Rattle.host_core.proofs.host.Host.take.Goals as goal

pub returns-then-n-queued-clause-taken : goal.returns-then-n-queued-clause-taken
returns-then-n-queued-clause-taken g c = (
  on_refused (Takes c.args.n) c.args.self.now c.args.id NotReady (find c.args.self.now.slots c.args.id) c.in-Some.queued refl c.in-Some.ensures
      (λ s same. (omega (arith, c.if-n-queued.true, ap length same), refl)),
  refl,
)

pub returns-in_err-bytes-clause-taken : goal.returns-in_err-bytes-clause-taken
returns-in_err-bytes-clause-taken g c =
    let fault : c.from_residual.result ≡ Err OutOfMemory = search rules in
    rw fault (
      on_refused (Takes c.args.n) c.args.self.now c.args.id OutOfMemory (find c.args.self.now.slots c.args.id) c.in-Some.queued refl c.in-Some.ensures
          (λ s same. (omega (arith, c.if-n-queued.false, ap length same), refl)),
      refl,
    )
