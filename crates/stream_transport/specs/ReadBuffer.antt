-- The bytes read from a connection and not given yet, and the bytes lent (own choice).
use Rattle.std.specs.Prelude.{◌≡◌, ◌≤◌, ◌==◌, cond, drop, length, take, ℕ, List, Vec, vec_len, vec_capacity}
use Rattle.stream_transport.specs.declared.kept.Spare.{Spare}

-- the bytes the last read gave, while the buffer lends them, and the bytes kept
pub record Buffered : Type 0 where
  pub lent : List ℕ
  pub kept : List ℕ

-- the bytes from one index on, before another
abbrev pub between : ℕ → ℕ → List ℕ → List ℕ
between start end bytes = drop start (take end bytes)

-- the indices rise, and the buffer owns memory only while bytes are kept
pub record IsReadBuffer {A : Type 0} (given start end : ℕ) (bytes : Vec ℕ A) : Type 0 where
  pub given_before : given ≤ start
  pub start_before : start ≤ end
  pub within : end ≤ vec_len bytes
  pub room : start ≡ end → vec_capacity bytes ≡ 0

module _ {A : Type 0} where
  -- the bytes given last in the spare room
  abbrev pub lent_by : Spare A → List ℕ
  lent_by spare = between spare.start spare.end spare.bytes.items

  -- the bytes the last read gave: in the connection's buffer while it keeps others, otherwise in the spare room
  abbrev pub lent_from : Spare A → Buffered → List ℕ
  lent_from spare buffer = cond (length buffer.kept == 0) (lent_by spare) buffer.lent
