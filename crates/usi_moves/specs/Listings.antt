-- What `moves` and `perft` print (own choice; the words for a move are USI's).
use Rattle.std.specs.Prelude.{◌≡◌, ◌≤◌, ◌-◌, ◌^◌, ℕ, Bool, List, [], ◌++◌, codes, cond, decimal, flat_map, Option, Some, None, Result, OnOk, Vec, Ok, Err, ⊤}
use Rattle.shogi_core.specs.declared.moves.Move.{Move}
use Rattle.shogi_core.specs.Codes.{move_of}
use Rattle.shogi_core.specs.Position.{Shogi}
use Rattle.shogi_moves.specs.After.{after_code}
use Rattle.shogi_moves.specs.LegalMoves.{legal_codes, perft}
use Rattle.shogi_sfen.specs.MoveTexts.{text_of}
use Rattle.usi_moves.specs.declared.texts.CountFault.{CountFault}
use Rattle.usi_moves.specs.declared.texts.CountFault.TheVariants.{OutOfMemory, TooMany}

-- on success the text was appended
abbrev pub Appends : {A E : Type 0} → Result (Unit {0}) E → Vec ℕ A → Vec ℕ A → List ℕ → Type 0
Appends result before after text = OnOk result (after.items ≡ before.items ++ text)

-- a move in USI notation; nothing without one
abbrev pub some_text : Option Move → List ℕ
some_text None = []
some_text (Some m) = text_of m

-- the move of a code in USI notation
abbrev pub code_text : ℕ → List ℕ
code_text code = some_text (move_of code)

-- the line of a move
abbrev pub move_line : ℕ → List ℕ
move_line code = code_text code ++ codes "\n"

-- a line for each of these moves
abbrev pub lines_of : List ℕ → List ℕ
lines_of moves = flat_map move_line moves

-- `moves`: a line for each legal move, in the order of codes
abbrev pub moves_text : Shogi → List ℕ
moves_text p = lines_of (legal_codes p)

-- a count, to the end of its line
abbrev pub count_text : ℕ → List ℕ
count_text count = decimal count ++ codes "\n"

-- the line of a first move with its count, if counts are divided
abbrev pub share_text : Bool → ℕ → ℕ → List ℕ
share_text divide code count = cond divide (code_text code ++ (codes ": " ++ count_text count)) []

-- the lines of these first moves, each with the number of sequences of `n` further moves
abbrev pub shares_text : Shogi → ℕ → Bool → List ℕ → List ℕ
shares_text p n divide moves =
    flat_map (λ code. share_text divide code (perft (after_code p code) n)) moves

-- `perft`: if counts are divided, a line for each legal move, in the order of codes; then the number of sequences of
-- `n` legal moves
abbrev pub perft_text : Shogi → ℕ → Bool → List ℕ
perft_text p n divide = shares_text p (n - 1) divide (legal_codes p) ++ count_text (perft p n)

-- the count fails as too large only if there are 2^64 sequences or more
abbrev pub IsTooMany : Shogi → ℕ → Result (Unit {0}) CountFault → Type 0
IsTooMany p n (Ok done) = ⊤
IsTooMany p n (Err OutOfMemory) = ⊤
IsTooMany p n (Err TooMany) = 2 ^ 64 ≤ perft p n
