-- What a wire reports before and after a call, and what it counts (own choice).
use Rattle.std.specs.Prelude.{◌≡◌, ℕ, List, [], false, Some, Result}
use Rattle.transport.specs.Report.{KeepsAll, Report, Reads, Writes, Shuts, bytes_read, bytes_written}
use Rattle.transport.specs.declared.wire.Got.{Got}
use Rattle.transport.specs.declared.wire.Wire.{Ghosts}
use Rattle.transport.specs.declared.wire.WireFault.{WireFault}
use Rattle.stream_transport.specs.Held.{counted}
use Rattle.stream_transport.specs.declared.wire.StreamWire.{StreamWire}
use Rattle.stream_transport.specs.declared.wire.Traffic.{Traffic}

-- nothing was given or written under the number, it is not shut, and no call of it failed
pub record IsBlank (report : Report) (number : ℕ) : Type 0 where
  pub given : report.given number ≡ Some []
  pub written : report.written number ≡ Some []
  pub shut : report.is_shut number ≡ Some false
  pub failed : report.has_failed number ≡ Some false

abbrev pub AreBlank : Report → Type 0
AreBlank report = (number : ℕ) → IsBlank report number

-- the bytes that a read with this result gave, lent by the wire
abbrev pub given_last : {W : Type 0} → Ghosts W → W → Result Got WireFault → List ℕ
given_last wires new result = bytes_read result (wires.lent new)

module _ {W : Type 0} (wires : Ghosts W) (old new : W) where
  abbrev pub KeepsReport : Type 0
  KeepsReport = KeepsAll (wires.report old) (wires.report new)

  abbrev pub ReportsRead : ℕ → Result Got WireFault → Type 0
  ReportsRead number result =
      Reads (wires.report old) (wires.report new) number result (wires.lent new)

  abbrev pub ReportsWrite : ℕ → Result ℕ WireFault → List ℕ → Type 0
  ReportsWrite number result buf = Writes (wires.report old) (wires.report new) number result buf

  abbrev pub ReportsShut : ℕ → Type 0
  ReportsShut number = Shuts (wires.bound old) (wires.report old) (wires.report new) number

-- no byte yet
abbrev pub no_traffic : Traffic
no_traffic = record { received = 0; sent = 0 }

module _ {L A S : Type 0} (old new : StreamWire L A S) where
  -- the bytes that a read gave were counted
  abbrev pub CountsRead : List ℕ → Type 0
  CountsRead bytes =
      new.traffic ≡ record old.traffic { received = counted old.traffic.received bytes }

  -- the bytes that a write took were counted
  abbrev pub CountsWrite : Result ℕ WireFault → List ℕ → Type 0
  CountsWrite result buf =
      new.traffic ≡ record old.traffic { sent = counted old.traffic.sent (bytes_written result buf) }
