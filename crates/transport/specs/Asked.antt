-- The calls that a wire was asked for (own choice).
use Rattle.std.specs.Prelude.{◌≡◌, ◌⊎◌, ⊤, ℕ, Bool, List, [], ◌∷◌, ◌++◌, Option, None, Some, Result}
use Rattle.transport.specs.declared.wire.WireFault.{WireFault}

-- a call of a wire: an accept with its answer, a read of at most `most` bytes, a write of bytes, a shut, or a wait, idle or for no time, with its answer
pub data Call : Type 0 where
  Accept : (answer : Result (Option ℕ) WireFault) → Call
  Read : (number most : ℕ) → Call
  Write : (number : ℕ) (bytes : List ℕ) → Call
  Shut : (number : ℕ) → Call
  Wait : (idle : Bool) (answer : Result (Unit {0}) WireFault) → Call

-- if calls are reported, those asked for since are these, in this order
abbrev pub Asks : {C : Type 0} → Option (List C) → Option (List C) → List C → Type 0
Asks None new calls = ⊤
Asks (Some before) new calls = new ≡ Some (before ++ calls)

-- the call is among these
abbrev pub IsCalled : List Call → Call → Type 0
IsCalled [] call = ⊥
IsCalled (first ∷ rest) call = (call ≡ first) ⊎ IsCalled rest call
