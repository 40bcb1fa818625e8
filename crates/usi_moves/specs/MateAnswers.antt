-- What `mate` answers to lines with a position each (own choice).
use Rattle.std.specs.Prelude.{◌≡◌, ℕ, ◌+◌, Bool, true, false, List, [], ◌∷◌, ◌++◌, codes, decimal, Result, Ok, Err, IfOk, Vec}
use Rattle.std.specs.List.{list_any}
use Rattle.shogi_core.specs.Position.{Shogi}
use Rattle.usi_lines.specs.Lines.{Line, Text, TooLong, lines}
use Rattle.usi_lines.specs.declared.line.TheConstants.{LINE_FEED}
use Rattle.usi_texts.specs.declared.position_command.Refusal.{Refusal}
use Rattle.usi_moves.specs.Asked.{position_of_text, refusal_words}
use Rattle.usi_moves.specs.Solutions.{mate_text}
use Rattle.usi_moves.specs.declared.solutions.MateOptions.{MateOptions}

-- which line is bad
abbrev pub number_words : ℕ → List ℕ
number_words number = codes "error: line " ++ (decimal number ++ codes ": ")

-- the line of this number has no position, for this reason
abbrev pub bad_line_text : ℕ → List ℕ → List ℕ
bad_line_text number reason = number_words number ++ (reason ++ codes "\n")

-- what is said of a line of more than 65,535 bytes
abbrev pub too_long_words : List ℕ
too_long_words = codes "it is too long, and nothing behind it is read"

-- the answer to a position that was read, or not
abbrev pub read_answer : MateOptions → ℕ → Result Shogi Refusal → List ℕ
read_answer options number (Ok p) = mate_text p options
read_answer options number (Err refusal) = bad_line_text number (refusal_words refusal)

-- the answer to the line of this number: an empty one has none
abbrev pub line_answer : MateOptions → ℕ → Line → List ℕ
line_answer options number (Text []) = []
line_answer options number (Text (byte ∷ rest)) =
    read_answer options number (position_of_text (byte ∷ rest))
line_answer options number TooLong = bad_line_text number too_long_words

-- the answers to lines, the first of which has this number
abbrev pub line_answers : MateOptions → ℕ → List Line → List ℕ
line_answers options number [] = []
line_answers options number (line ∷ more) =
    line_answer options number line ++ line_answers options (number + 1) more

abbrev pub is_refusal : Result Shogi Refusal → Bool
is_refusal (Ok p) = false
is_refusal (Err refusal) = true

-- the line is not empty and has no position
abbrev pub is_bad : Line → Bool
is_bad (Text []) = false
is_bad (Text (byte ∷ rest)) = is_refusal (position_of_text (byte ∷ rest))
is_bad TooLong = true

-- if it succeeds, the answer was appended, and it tells whether the line is bad
abbrev pub AppendsAnswer : {A E : Type 0} → Result Bool E → Vec ℕ A → Vec ℕ A → MateOptions → ℕ
    → Line → Type 0
AppendsAnswer result before after options number line =
    IfOk result (λ bad. (after.items ≡ before.items ++ line_answer options number line)
    × (bad ≡ is_bad line))

-- the lines of an input: what stands behind its last LF is a line, too
abbrev pub input_lines : List ℕ → List Line
input_lines bytes = lines (bytes ++ LINE_FEED ∷ [])

-- the answers to an input
abbrev pub input_answers : MateOptions → List ℕ → List ℕ
input_answers options bytes = line_answers options 1 (input_lines bytes)

-- one of its lines is bad
abbrev pub has_bad_line : List ℕ → Bool
has_bad_line bytes = list_any is_bad (input_lines bytes)
