-- Lines and slides seen from both ends.
use Rattle.std.specs.Prelude.{ℕ, pos, ◌-ℤ◌, ◌++◌, ◌&&◌, ◌||◌, Bool, List, []}
use Rattle.std.specs.List.{list_any}
use Rattle.std.specs.Ordering.{int_eq}
use Rattle.shogi_core.specs.declared.offset.Offset.{Offset}
use Rattle.shogi_core.specs.Movement.{Cells, offset_by, straight, diagonal, slides, piece_at, steps_of}
use Rattle.shogi_core.specs.Below.{some_below}
use Rattle.shogi_core.specs.Cell.{is_king}
use Rattle.shogi_core.specs.declared.piece.Color.{Color}
use Rattle.shogi_core.specs.declared.piece.Color.TheVariants.{Black, White}
use Rattle.shogi_core.specs.declared.piece.Role.TheVariants.{King, Knight}
use Rattle.shogi_core.specs.Steps.{is_step}

-- the opposite offset
abbrev pub back : Offset → Offset
back o = offset_by (pos 0 -ℤ o.file) (pos 0 -ℤ o.rank)

-- the eight directions of lines
abbrev pub around : List Offset
around = straight ++ diagonal

-- the two offsets are equal
abbrev pub is_same_offset : Offset → Offset → Bool
is_same_offset p q = int_eq p.file q.file && int_eq p.rank q.rank

-- the squares lie on one file, rank or diagonal, and each square between is empty
unfoldable pub are_lined : Cells → ℕ → ℕ → Bool
are_lined cells a b = list_any (λ o. slides cells o a b) around

-- the squares lie on one file, rank or diagonal, whatever stands between
abbrev pub are_aligned : ℕ → ℕ → Bool
are_aligned a b = are_lined [] a b

-- on `king` is a king of the side, on an open line with the square
abbrev pub is_line_to_king : Cells → Color → ℕ → ℕ → Bool
is_line_to_king cells color square king =
    is_king color (piece_at cells king) && are_lined cells square king

-- the square lies on an open line with a king of the side
unfoldable pub is_lined_with_king : Cells → Color → ℕ → Bool
is_lined_with_king cells color square = some_below 81 (is_line_to_king cells color square)

-- a knight of either side jumps from a to b
abbrev pub is_jump : ℕ → ℕ → Bool
is_jump a b = is_step Black (steps_of Knight) a b || is_step White (steps_of Knight) a b

-- b lies on an open line with a, or a knight's jump away
unfoldable pub is_seen : Cells → ℕ → ℕ → Bool
is_seen cells a b = are_lined cells a b || is_jump a b

-- b lies next to a, or a knight's jump away
abbrev pub is_near : ℕ → ℕ → Bool
is_near a b = is_step Black (steps_of King) a b || is_jump a b
