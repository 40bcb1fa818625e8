-- The moves from one square, and the drops of one kind, by their codes.
use Rattle.std.specs.Prelude.{ℕ, ◌≤◌, ◌+◌, ◌*◌}
use Rattle.shogi_core.specs.declared.moves.TheConstants.{FIRST_DROP, SQUARE_CODES}
use Rattle.shogi_core.specs.declared.piece.Kind.{Kind}
use Rattle.shogi_core.specs.Pieces.{kind_number}

-- the code lies among those of the moves from the square, or is the first above them
abbrev pub IsAtSquare : ℕ → ℕ → Type 0
IsAtSquare from code = (from * SQUARE_CODES ≤ code) × (code ≤ from * SQUARE_CODES + SQUARE_CODES)

-- the least code of the drops of the kind
abbrev pub first_of_kind : Kind → ℕ
first_of_kind kind = FIRST_DROP + kind_number kind * 81
