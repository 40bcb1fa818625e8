-- Changes to the report of a wire that any of its calls may make (own choice).
use Rattle.std.specs.Prelude.{◌<◌, ◌≡◌, ◌⊎◌, ⊤, ℕ, List, [], length, Option, None, Some, IsSome}
use Rattle.std.specs.Io.KnownBytes.{Keeps, Appends, Consumes}
use Rattle.transport.specs.Report.{Report, KeepsOthers, Stays, OnlyRises}

-- a connection's bytes leave at the start and are given and written at the end, and its flags only rise; then this of each connection
pub record Moves (old new : Report) (number : ℕ) : Type 0 where
  pub gave : List ℕ
  pub unread : Consumes (old.unread number) (new.unread number) gave
  pub given : Appends (old.given number) (new.given number) gave
  pub took : List ℕ
  pub written : Appends (old.written number) (new.written number) took
  pub shut : OnlyRises (old.is_shut number) (new.is_shut number)
  pub failed : OnlyRises (old.has_failed number) (new.has_failed number)

abbrev pub AllMove : Report → Report → Type 0
AllMove old new = (number : ℕ) → Moves old new number

-- a connection gave these bytes, and nothing else changed, except that a call of it may have failed
pub record GaveBytes (old new : Report) (number : ℕ) (bytes : List ℕ) : Type 0 where
  pub consumed : Consumes (old.unread number) (new.unread number) bytes
  pub given : Appends (old.given number) (new.given number) bytes
  pub written : Keeps (old.written number) (new.written number)
  pub shut : Stays (old.is_shut number) (new.is_shut number)
  pub failed : OnlyRises (old.has_failed number) (new.has_failed number)
  pub others : KeepsOthers old new number

-- a reported connection has no byte left to be read
abbrev pub IsEmptied : Option (List ℕ) → Option (List ℕ) → Type 0
IsEmptied None new = ⊤
IsEmptied (Some bytes) new = new ≡ Some []

-- a reported connection gave at least one byte
abbrev pub IsShorter : Option (List ℕ) → Option (List ℕ) → Type 0
IsShorter None new = ⊤
IsShorter (Some bytes) None = ⊥
IsShorter (Some bytes) (Some left) = length left < length bytes

-- the bytes of a reported connection became more; then, a connection gave or took at least one byte
abbrev pub IsLonger : Option (List ℕ) → Option (List ℕ) → Type 0
IsLonger None new = ⊤
IsLonger (Some bytes) None = ⊥
IsLonger (Some bytes) (Some more) = length bytes < length more

abbrev pub Transfers : Report → Report → ℕ → Type 0
Transfers old new number =
    (IsShorter (old.unread number) (new.unread number)
    × IsLonger (old.given number) (new.given number))
    ⊎ IsLonger (old.written number) (new.written number)

-- the wire still knows each connection that it knew
abbrev pub StaysKnown : Report → Report → Type 0
StaysKnown old new = (number : ℕ) → IsSome (old.written number) → IsSome (new.written number)
