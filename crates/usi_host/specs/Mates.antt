-- What seeks mates by checks as the arguments of the command line ask.
use Rattle.std.specs.Prelude.{◌≡◌, ◌-◌, ◌*◌, ℕ, Bool, List, Option}
use Rattle.usi_app.specs.Mates.{IsSolving}
use Rattle.usi_moves.specs.declared.solutions.MateOptions.{MateOptions}
use Rattle.usi_stdio.specs.Calls.{StdioReport}

-- mates of at most so many plies are sought, with these words
pub record AreMateOptions (plies : ℕ) (with_line with_keys : Bool) (options : MateOptions)
    : Type 0 where
  pub most : 2 * options.most - 1 ≡ plies
  pub tells_line : options.line ≡ with_line
  pub tells_keys : options.keys ≡ with_keys

-- the position of the text was solved, or without a text that of each line, with this status
abbrev pub IsMateAsked : Option (List ℕ) → ℕ → Bool → Bool → StdioReport → StdioReport → ℕ → Type 0
IsMateAsked sfen plies with_line with_keys old new status =
    (options : MateOptions) × AreMateOptions plies with_line with_keys options
    × IsSolving sfen options old new status
