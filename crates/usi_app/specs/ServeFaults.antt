-- Why a host on a socket ended early, with its text and status (own choice).
use Rattle.std.specs.Prelude.{ℕ, List, codes}
use Rattle.usi_app.specs.declared.serve_fault.ServeFault.{ServeFault}
use Rattle.usi_app.specs.declared.serve_fault.ServeFault.TheVariants as faults
use Rattle.host_core.specs.declared.event.HostFault.{HostFault}
use Rattle.transport.specs.declared.wire.WireFault.{WireFault}
use Rattle.transport.specs.declared.wire.WireFault.TheVariants as wires

-- the text for standard error
abbrev pub serve_complaint : ServeFault → List ℕ
serve_complaint faults.OutOfMemory = codes "usi_host: out of memory\n"
serve_complaint faults.ReadFailed = codes "usi_host: read failed\n"
serve_complaint faults.SocketFailed = codes "usi_host: socket failed\n"
serve_complaint faults.SocketTaken =
    codes "usi_host: socket failed: a process listens at it; end it, or take another path\n"
serve_complaint faults.SocketLeft =
    codes "usi_host: socket failed: nobody listens at it; remove it, and start again\n"
serve_complaint faults.StatusFailed = codes "usi_host: status socket failed\n"
serve_complaint faults.StatusTaken =
    codes "usi_host: status socket failed: a process listens at it; take another path\n"
serve_complaint faults.StatusLeft =
    codes "usi_host: status socket failed: nobody listens at it; remove it, and start again\n"

-- a host that cannot be made lacks memory
abbrev pub of_host : HostFault → ServeFault
of_host fault = faults.OutOfMemory

-- a wire's fault as a fault of the run
abbrev pub of_wire : WireFault → ServeFault
of_wire wires.Device = faults.SocketFailed
of_wire wires.OutOfMemory = faults.OutOfMemory

-- 1 for each fault
abbrev pub serve_status : ServeFault → ℕ
serve_status fault = 1

-- a fault of the socket
abbrev pub IsOfSocket : ServeFault → Type 0
IsOfSocket faults.OutOfMemory = ⊥
IsOfSocket faults.ReadFailed = ⊥
IsOfSocket faults.SocketFailed = Unit {0}
IsOfSocket faults.SocketTaken = Unit {0}
IsOfSocket faults.SocketLeft = Unit {0}
IsOfSocket faults.StatusFailed = ⊥
IsOfSocket faults.StatusTaken = ⊥
IsOfSocket faults.StatusLeft = ⊥

-- a fault of the status socket
abbrev pub IsOfStatus : ServeFault → Type 0
IsOfStatus faults.OutOfMemory = ⊥
IsOfStatus faults.ReadFailed = ⊥
IsOfStatus faults.SocketFailed = ⊥
IsOfStatus faults.SocketTaken = ⊥
IsOfStatus faults.SocketLeft = ⊥
IsOfStatus faults.StatusFailed = Unit {0}
IsOfStatus faults.StatusTaken = Unit {0}
IsOfStatus faults.StatusLeft = Unit {0}
