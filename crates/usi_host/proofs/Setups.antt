-- A host under the setup that was asked for.
use Rattle.std.proofs.Common.{◌≡◌, Result, Ok, Err, IfOk}
use Rattle.host_core.specs.Steps.{HostState, new_host_under}
use Rattle.usi_arguments.specs.declared.host.HostOptions.{HostOptions}
use Rattle.usi_texts.specs.declared.setup.Setup.{Setup}
use Rattle.usi_host.specs.Setup.{IsAskedFor, IsHostAsked}

pub host_asked : {E : Type 0} (options : HostOptions) (setup : Setup) (r : Result HostState E) → IsAskedFor options.setup setup
    → IfOk r (λ host. host ≡ new_host_under setup options.slots options.entries) → IfOk r (IsHostAsked options)
host_asked options setup (Ok host) asked new = (setup, asked, new)
host_asked options setup (Err fault) asked new = tt
