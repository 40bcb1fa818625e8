-- The setup of the sessions, from the options of the command line (own choice).
use Rattle.std.specs.Prelude.{◌≡◌, ◌⊎◌, ◌||◌, ◌≤◌, ◌<◌, ℕ, List, Option, Some, None, codes, cond, min}
use Rattle.std.specs.Str.{bytes_eq}
use Rattle.clap.specs.Words.{Row, Text, first_of}
use Rattle.usi_arguments.specs.CommandLine.{IsFromOne, NamesNumber}
use Rattle.usi_arguments.specs.declared.setup.Evaluation.{Evaluation}
use Rattle.usi_arguments.specs.declared.setup.Evaluation.TheVariants.{Plain, Hand, Exchange}
use Rattle.usi_arguments.specs.declared.setup.SetupOptions.{SetupOptions}

-- the evaluation that a word names, in small letters or as the USI option `Eval` spells it
abbrev pub evaluation_named : Text → Option Evaluation
evaluation_named word =
    cond (bytes_eq word (codes "plain") || bytes_eq word (codes "Plain")) (Some Plain)
    (cond (bytes_eq word (codes "hand") || bytes_eq word (codes "Hand")) (Some Hand)
    (cond (bytes_eq word (codes "exchange") || bytes_eq word (codes "Exchange")) (Some Exchange)
    None))

-- the evaluation that a value names; an option without a value names none
abbrev pub evaluation_in : Option Text → Option Evaluation
evaluation_in None = None
evaluation_in (Some word) = evaluation_named word

-- the evaluation that `--eval` names
abbrev pub evaluation_of : List Row → Option Evaluation
evaluation_of options = evaluation_in (first_of (codes "eval") options)

-- `--eval` names this evaluation
abbrev pub NamesEvaluation : List Row → Evaluation → Type 0
NamesEvaluation options evaluation = evaluation_of options ≡ Some evaluation

-- `--eval` names no evaluation
abbrev pub HasNoEvaluation : List Row → Type 0
HasNoEvaluation options = evaluation_of options ≡ None

-- the depth is the number of `--depth`; if that is left out, it is the lesser of 3 and the greatest depth
abbrev pub NamesDepth : List Row → ℕ → ℕ → Type 0
NamesDepth options most depth = NamesNumber (codes "depth") options depth
    ⊎ ((first_of (codes "depth") options ≡ None) × (depth ≡ min 3 most))

-- the options name this depth, from 1 to 16
abbrev pub HasDepth : List Row → ℕ → ℕ → Type 0
HasDepth options most depth = IsFromOne 16 depth × NamesDepth options most depth

-- the options name no depth from 1 to 16
abbrev pub HasNoDepth : List Row → ℕ → Type 0
HasNoDepth options most = (depth : ℕ) → IsFromOne 16 depth → NamesDepth options most depth → ⊥

-- each number of the setup is in its range
abbrev pub HasSetupRanges : SetupOptions → Type 0
HasSetupRanges setup =
    IsFromOne 16 setup.depth × IsFromOne 16 setup.max_depth × IsFromOne 8 setup.lines

-- the options name this setup
abbrev pub NamesSetup : List Row → SetupOptions → Type 0
NamesSetup options setup = NamesDepth options setup.max_depth setup.depth
    × NamesNumber (codes "max-depth") options setup.max_depth
    × NamesNumber (codes "lines") options setup.lines
    × NamesEvaluation options setup.evaluation

-- the options name this setup, and its numbers are in their ranges
abbrev pub AreSetupOptions : List Row → SetupOptions → Type 0
AreSetupOptions options setup = HasSetupRanges setup × NamesSetup options setup

-- the options name no setup with numbers in their ranges
abbrev pub HasNoSetup : List Row → Type 0
HasNoSetup options =
    (setup : SetupOptions) → HasSetupRanges setup → NamesSetup options setup → ⊥

-- the setup without options
abbrev pub usual_setup : SetupOptions
usual_setup = record {
  depth = 3;
  max_depth = 16;
  lines = 1;
  evaluation = Plain;
}

-- the sessions begin with a depth of at most the greatest
abbrev pub IsInReach : SetupOptions → Type 0
IsInReach setup = setup.depth ≤ setup.max_depth

-- the sessions begin with a depth above the greatest
abbrev pub IsTooDeep : SetupOptions → Type 0
IsTooDeep setup = setup.max_depth < setup.depth
