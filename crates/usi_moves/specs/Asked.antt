-- The position that `--sfen` asks for, and what is said where it asks for none (own choice).
use Rattle.std.specs.Prelude.{ℕ, List, [], ◌∷◌, ◌++◌, ◌==◌, codes, cond, decimal, Option, Some, None, Result, Ok}
use Rattle.std.specs.Str.{bytes_eq}
use Rattle.shogi_core.specs.Position.{Shogi}
use Rattle.shogi_core.specs.Start.{start}
use Rattle.shogi_sfen.specs.Words.{after_word, words}
use Rattle.usi_texts.specs.PositionCommand.{position_of_sfen, position_of_startpos}
use Rattle.usi_texts.specs.declared.position_command.Refusal.{Refusal}
use Rattle.usi_texts.specs.declared.position_command.Refusal.TheVariants.{BadPosition, IllegalMove}

-- the position of a text with these words: what follows `position`, or an SFEN without the word `sfen`
abbrev pub position_by : List (List ℕ) → List ℕ → Result Shogi Refusal
position_by [] text = position_of_sfen text
position_by (word ∷ more) text =
    cond (bytes_eq word (codes "startpos")) (position_of_startpos (after_word text))
    (position_of_sfen text)

-- the position of a text: `startpos` or an SFEN, and after it `moves` and moves
abbrev pub position_of_text : List ℕ → Result Shogi Refusal
position_of_text text = position_by (words text) text

-- the opening position if no text is given, and otherwise the position of the text
abbrev pub asked_position : Option (List ℕ) → Result Shogi Refusal
asked_position None = Ok start
asked_position (Some text) = position_of_text text

-- why there is no position, by the number of its fault
abbrev pub reason_of : ℕ → List ℕ
reason_of fault =
    cond (fault == 1) (codes "it does not begin with a board")
    (cond (fault == 2) (codes "the side to move is neither b nor w")
    (cond (fault == 3) (codes "the hands are missing or cannot be read")
    (cond (fault == 4) (codes "there are more pieces of a kind than a set has")
    (cond (fault == 5) (codes "a side has two kings")
    (cond (fault == 6) (codes "a side has two unpromoted pawns on a file")
    (cond (fault == 7) (codes "a piece stands where it can never move")
    (cond (fault == 8) (codes "the side that is not to move is in check")
    (codes "what follows it is not `moves` and moves"))))))))

-- the move of this number after `moves` is not legal where it stands
abbrev pub illegal_words : ℕ → List ℕ
illegal_words number = codes "move " ++ (decimal number ++ codes " is not legal")

-- a refusal in words
abbrev pub refusal_words : Refusal → List ℕ
refusal_words (BadPosition fault) = reason_of fault
refusal_words (IllegalMove number) = illegal_words number

-- what is said on standard error
abbrev pub refusal_text : Refusal → List ℕ
refusal_text refusal =
    codes "error: --sfen: " ++ (refusal_words refusal
    ++ codes "\n\nFor more information, try '--help'.\n")
