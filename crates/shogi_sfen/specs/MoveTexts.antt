-- Moves as text (USI, moves: a board move by two squares and a plus for a promotion, a drop by a letter, a star and a square).
use Rattle.std.specs.Prelude.{ℕ, ◌+◌, ◌/◌, ◌%◌, Bool, false, List, [], ◌∷◌, ◌++◌, Option, Some, None, cond, codes}
use Rattle.std.specs.List.{find}
use Rattle.std.specs.Option.{option_and_then}
use Rattle.std.specs.Str.{bytes_eq}
use Rattle.shogi_core.specs.declared.moves.Move.{Move}
use Rattle.shogi_core.specs.declared.moves.Move.TheVariants.{Board, Drop}
use Rattle.shogi_core.specs.Codes.{move_of, all_codes}
use Rattle.shogi_sfen.specs.declared.byte.TheConstants.{FIRST_FILE, FIRST_RANK, PLUS}
use Rattle.shogi_sfen.specs.Letters.{letter_of}

-- the file as a digit from 1 to 9, and the rank as a letter from a to i
abbrev pub square_text : ℕ → List ℕ
square_text square = (square / 9 + FIRST_FILE) ∷ (square % 9 + FIRST_RANK) ∷ []

-- the only text of a move
abbrev pub text_of : Move → List ℕ
text_of (Board from to promote) = square_text from ++ square_text to ++ cond promote (PLUS ∷ []) []
text_of (Drop kind to) = letter_of kind ∷ codes "*" ++ square_text to

-- there is a move, and it has this text
abbrev pub is_text_of : List ℕ → Option Move → Bool
is_text_of text None = false
is_text_of text (Some m) = bytes_eq (text_of m) text

-- the move of the code has this text
abbrev pub is_text_of_code : List ℕ → ℕ → Bool
is_text_of_code text code = is_text_of text (move_of code)

-- the move, of all moves, with this text
unfoldable pub move_of_text : List ℕ → Option Move
move_of_text text = option_and_then move_of (find (is_text_of_code text) all_codes)
