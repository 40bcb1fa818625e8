-- The calls that a wire of the code was asked for, and its report of one connection (own choice).
use Rattle.std.specs.Prelude.{◌<◌, ℕ, List}
use Rattle.std.specs.Io.KnownBytes.{Appends}
use Rattle.transport.specs.Asked.{Call, Asks}
use Rattle.transport.specs.Report.{IsRaised}
use Rattle.transport.specs.declared.wire.Wire.{Ghosts}

-- the wire was asked for these calls, in this order
abbrev pub IsAsked : {W : Type 0} → Ghosts W → (old new : W) → List Call → Type 0
IsAsked wires old new calls = Asks (wires.asked old) (wires.asked new) calls

-- these bytes were written to the connection of the number
abbrev pub IsWritten : {W : Type 0} → Ghosts W → (old new : W) → ℕ → List ℕ → Type 0
IsWritten wires old new number bytes =
    Appends ((wires.report old).written number) ((wires.report new).written number) bytes

-- the connection of the number is shut, if the number was given
abbrev pub IsShut : {W : Type 0} → Ghosts W → (old new : W) → ℕ → Type 0
IsShut wires old new number =
    number < wires.bound old
    → IsRaised ((wires.report old).is_shut number) ((wires.report new).is_shut number)
