-- Numbers in decimal, of any length (USI and SFEN).
use Rattle.std.specs.Prelude.{ℕ, Bool, false, List, [], ◌∷◌, Option, Some, None, cond, min}
use Rattle.std.specs.List.{list_all}
use Rattle.std.specs.Char.{is_ascii_digit}
use Rattle.std.specs.Str.Parse.{digits_value}

-- the word is one or more digits and nothing else
abbrev pub is_number : List ℕ → Bool
is_number [] = false
is_number (byte ∷ bytes) = list_all is_ascii_digit (byte ∷ bytes)

-- the number that the digits write
abbrev pub number_written : List ℕ → ℕ
number_written word = digits_value 10 word

-- the number that a word writes, at most `most`, if the word is a number
abbrev pub capped_number : ℕ → List ℕ → Option ℕ
capped_number most word = cond (is_number word) (Some (min most (number_written word))) None
