-- The two kinds of moves, captures and quiet moves, by their codes: `capture` is true for captures, false for moves that take nothing.
use Rattle.std.specs.Prelude.{ℕ, ◌&&◌, Bool, true, false, not, Option, Some, None, is_some}
use Rattle.shogi_core.specs.declared.moves.Move.{Move}
use Rattle.shogi_core.specs.declared.moves.Move.TheVariants.{Board, Drop}
use Rattle.shogi_core.specs.Codes.{move_of}
use Rattle.shogi_core.specs.Movement.{piece_at}
use Rattle.shogi_core.specs.Position.{Shogi}
use Rattle.shogi_moves.specs.Legal.{is_legal_code}

-- the move takes a piece on its destination
abbrev pub captures : Shogi → Option Move → Bool
captures p None = false
captures p (Some (Board from to promote)) = is_some (piece_at p.cells to)
captures p (Some (Drop kind to)) = false

-- the code is that of a move that takes a piece
unfoldable pub is_capture : Shogi → ℕ → Bool
is_capture p code = captures p (move_of code)

-- whether a move that takes a piece (`takes`) or none is of the kind
abbrev pub matches : Bool → Bool → Bool
matches true takes = takes
matches false takes = not takes

-- the code's move is of the kind
abbrev pub matches_kind : Shogi → Bool → ℕ → Bool
matches_kind p capture code = matches capture (is_capture p code)

-- the code is that of a legal move of the kind
abbrev pub is_matching : Shogi → Bool → ℕ → Bool
is_matching p capture code = is_legal_code p code && matches_kind p capture code
