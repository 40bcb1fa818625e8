-- Squares by file and rank, and by index (USI, the names of squares; the index is an own choice).
use Rattle.std.specs.Prelude.{ℕ, ◌+◌, ◌-◌, ◌*◌, ◌≤◌}

-- file and rank are each from 1 to 9
pub record IsOnBoard (file rank : ℕ) : Type 0 where
  pub file_fits : (1 ≤ file) × (file ≤ 9)
  pub rank_fits : (1 ≤ rank) × (rank ≤ 9)

-- the index: file by file, and rank by rank on each
abbrev pub index_of : ℕ → ℕ → ℕ
index_of file rank = (file - 1) * 9 + (rank - 1)
