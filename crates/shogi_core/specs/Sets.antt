-- Operations on sets of squares, by what a call answers for each square (own choice).
use Rattle.std.specs.Prelude.{ℕ, ◌≡◌, ◌<◌, ◌≤◌, ◌==◌, ◌&&◌, not, Bool, true, false}
use Rattle.shogi_core.specs.declared.squares.Squares.{Squares}
use Rattle.shogi_core.specs.Bits.{has_bit}

-- `kept` are the squares for which the call answers true
pub record IsSifted (post : ℕ → Bool → Type 0) (squares kept : ℕ) : Type 0 where
  pub out : (n : ℕ) → n < 81 → has_bit squares n ≡ false → has_bit kept n ≡ false
  pub tried : (n : ℕ) → n < 81 → has_bit squares n ≡ true
      → (passes : Bool) × post n passes × (has_bit kept n ≡ passes)

-- the call answers false for each square below `end`
abbrev pub NonePasses : (ℕ → Bool → Type 0) → ℕ → ℕ → Type 0
NonePasses post squares end = (n : ℕ) → n < 81 → n < end → has_bit squares n ≡ true → post n false

-- `found` is the union of what the call gives for the squares
pub record IsUnion (post : ℕ → Squares → Type 0) (squares found : ℕ) : Type 0 where
  pub all : (k : ℕ) → k < 81 → has_bit squares k ≡ true
      → (led : Squares) × post k led × ((n : ℕ) → has_bit led.bits n ≡ true → has_bit found n ≡ true)
  pub only : (n : ℕ) → has_bit found n ≡ true → (k : ℕ) × (k < 81) × (has_bit squares k ≡ true)
      × (led : Squares) × post k led × (has_bit led.bits n ≡ true)

-- the set has no square
abbrev pub HasNone : ℕ → Type 0
HasNone squares = (n : ℕ) → has_bit squares n ≡ false

-- no square of the old set is lost
abbrev pub KeepsSquares : ℕ → ℕ → Type 0
KeepsSquares old new = (n : ℕ) → has_bit old n ≡ true → has_bit new n ≡ true

-- the lowest square of a set is removed
pub record TakesLowest (n old new : ℕ) : Type 0 where
  pub range : n < 81
  pub set : has_bit old n ≡ true
  pub least : (i : ℕ) → has_bit old i ≡ true → n ≤ i
  pub rest : (i : ℕ) → has_bit new i ≡ (has_bit old i && not (i == n))
  pub less : new < old
