-- The connections, the wire and the host at one moment (own choice).
use Rattle.std.specs.Prelude.{ℕ, List, Option}
use Rattle.host_core.specs.Steps.{HostState}
use Rattle.socket_loop.specs.declared.connection.Connection.{Connection}
use Rattle.transport.specs.Asked.{Call}
use Rattle.transport.specs.Report.{Report}
use Rattle.transport.specs.declared.wire.Wire.{Ghosts}

-- the connections held; the wire's bound, report, calls and count of faults; and the host of their sessions
pub record Scene : Type 0 where
  pub held : List Connection
  pub bound : ℕ
  pub report : Report
  pub asked : Option (List Call)
  pub failed : ℕ
  pub host : HostState

-- the scene of these connections, this wire and this host
abbrev pub scene : {W : Type 0} → Ghosts W → List Connection → W → HostState → Scene
scene wires held wire host = record {
  held = held;
  bound = wires.bound wire;
  report = wires.report wire;
  asked = wires.asked wire;
  failed = wires.failed wire;
  host = host;
}
