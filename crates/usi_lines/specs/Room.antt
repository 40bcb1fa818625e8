-- Capacity that a buffer gives back (own choice).
use Rattle.std.specs.Prelude.{◌≡◌, ◌≤◌, ◌<◌, ◌*◌, ℕ, min, Vec, vec_len, vec_capacity}

-- The capacity of a buffer after a shrink. It never grows; it stays the same if it is at most `kept` or more than a quarter is in use. Otherwise at least twice the bytes in use remain, or all of it.
pub record GivesRoom {A : Type 0} (kept : ℕ) (old new : Vec ℕ A) : Type 0 where
  pub none : vec_len new ≡ 0 → vec_capacity new ≤ kept
  pub most : vec_capacity new ≤ vec_capacity old
  pub least : min (2 * vec_len new) (vec_capacity old) ≤ vec_capacity new
  pub few : vec_capacity old ≤ kept → vec_capacity new ≡ vec_capacity old
  pub in_use : vec_capacity old < 4 * vec_len new → vec_capacity new ≡ vec_capacity old

-- if all bytes of the buffer lie before this place, its capacity is at most `kept`
abbrev pub KeepsRoom : {A : Type 0} → ℕ → ℕ → Vec ℕ A → Type 0
KeepsRoom kept place bytes = place ≡ vec_len bytes → vec_capacity bytes ≤ kept
