-- Streams that linger after a shut, and for how many looks at most (own choice).
use Rattle.std.specs.Prelude.{◌≤◌, ◌+◌, ◌-◌, ◌++◌, ◌&&◌, ◌∷◌, [], ℕ, Bool, true, not, List, All, Vec, drop, length, nat_lt, vec_capacity}
use Rattle.stream_transport.specs.declared.lingering.LingeringStream.{LingeringStream}
use Rattle.stream_transport.specs.declared.lingering.TheConstants.{LINGERING_MAX, LOOKS_MAX}

module _ {S : Type 0} where
  -- each stream leaves after this many looks at most
  abbrev pub StayAtMost : ℕ → List (LingeringStream S) → Type 0
  StayAtMost most streams = All (λ lingering. lingering.looks ≤ most) streams

  -- these looks have passed: each stream that stays has as many fewer left
  abbrev pub Leave : ℕ → List (LingeringStream S) → List (LingeringStream S) → Type 0
  Leave looks old new = (most : ℕ) → StayAtMost (most + looks) old → StayAtMost most new

  -- the stream stays for another look
  abbrev pub has_looks : LingeringStream S → Bool
  has_looks lingering = nat_lt 0 lingering.looks

  -- no stream is known to have unread bytes
  abbrev pub are_drained : List (LingeringStream S) → Bool
  are_drained [] = true
  are_drained (first ∷ rest) = not first.readable && are_drained rest

  -- one more stream; if `LINGERING_MAX` linger already, the oldest leaves
  abbrev pub with_one : List (LingeringStream S) → LingeringStream S → List (LingeringStream S)
  with_one streams lingering = drop (length streams + 1 - LINGERING_MAX) streams ++ lingering ∷ []

  -- at most `LINGERING_MAX` streams, each with at most `LOOKS_MAX` looks, and room for all
  pub record IsWithin {A : Type 0} (streams : Vec (LingeringStream S) A) : Type 0 where
    pub few : length streams.items ≤ LINGERING_MAX
    pub stay : StayAtMost LOOKS_MAX streams.items
    pub room : LINGERING_MAX ≤ vec_capacity streams
