-- The texts about the arguments: the version, and refusals that are not those of `clap` (own choice).
use Rattle.std.specs.Prelude.{ℕ, ◌++◌, List, codes, decimal}

-- the name, the version, and a statement of the proof
abbrev pub the_version : List ℕ
the_version =
    codes "usi_host 0.1.0\n"
    ++ codes "Proved: each session is given the replies of plain minimax at the exact depth, "
    ++ codes "whatever the table\nholds and whatever other sessions do. "
    ++ codes "The README of its sources says all that is proved.\n"

-- the refusal of a number that `clap` takes, with a pointer to the help
abbrev pub not_digits : List ℕ
not_digits =
    codes "error: a number is written in digits alone, without a sign\n\n"
    ++ codes "For more information, try '--help'.\n"

-- the refusal of an evaluation, with a pointer to the help
abbrev pub not_an_evaluation : List ℕ
not_an_evaluation =
    codes "error: --eval takes plain, hand or exchange\n\n"
    ++ codes "For more information, try '--help'.\n"

-- the refusal of a depth above the greatest, with a pointer to the help
abbrev pub too_deep : ℕ → ℕ → List ℕ
too_deep depth most =
    codes "error: --depth " ++ (decimal depth ++ (codes " is above --max-depth "
    ++ (decimal most ++ codes "\n\nFor more information, try '--help'.\n")))

-- the refusal of an even number of plies, with a pointer to the help
abbrev pub not_odd : List ℕ
not_odd =
    codes "error: --plies takes an odd number, from 1 to 15\n\n"
    ++ codes "For more information, try '--help'.\n"

-- the refusal of arguments that could not be read, with a pointer to the help
abbrev pub not_utf_8 : List ℕ
not_utf_8 =
    codes "error: a word of the command line is not UTF-8\n\n"
    ++ codes "For more information, try '--help'.\n"
