-- The options of a session: their ranges, and the values that a line may set (USI, setoption; clamping numbers is an own choice).
use Rattle.std.specs.Prelude.{ℕ, ◌≤◌, ◌&&◌, List, [], ◌∷◌, Option, Some, None, cond, max, codes}
use Rattle.std.specs.Option.{option_map, option_map_or}
use Rattle.std.specs.Str.{bytes_eq}
use Rattle.shogi_eval.specs.declared.eval.Eval.{Eval}
use Rattle.shogi_eval.specs.declared.eval.Eval.TheVariants.{Plain, Hand, Exchange}
use Rattle.shogi_sfen.specs.Numbers.{capped_number}
use Rattle.usi_lines.specs.declared.options.TheConstants.{DEPTH_MIN, DEPTH_MAX, MULTI_PV_MIN, MULTI_PV_MAX}
use Rattle.usi_lines.specs.Commands.{Command, SetDepth, SetEval, SetLines, Go, Other}

-- the depth is in its range
pub record IsDepth (depth : ℕ) : Type 0 where
  pub least : DEPTH_MIN ≤ depth
  pub most : depth ≤ DEPTH_MAX

-- the number of best lines is in its range
pub record IsMultiPv (lines : ℕ) : Type 0 where
  pub least : MULTI_PV_MIN ≤ lines
  pub most : lines ≤ MULTI_PV_MAX

-- the number that the word writes, clamped to a range; none if the word is no number
abbrev pub clamped_read : ℕ → ℕ → List ℕ → Option ℕ
clamped_read least most word = option_map (max least) (capped_number most word)

-- the depth that the word writes, clamped to its range; none if the word is no number
abbrev pub depth_read : List ℕ → Option ℕ
depth_read word = clamped_read DEPTH_MIN DEPTH_MAX word

-- the number of best lines that the word writes, clamped to its range; none if the word is no number
abbrev pub multi_pv_read : List ℕ → Option ℕ
multi_pv_read word = clamped_read MULTI_PV_MIN MULTI_PV_MAX word

-- the evaluation of that name, letter for letter; none for any other word
abbrev pub eval_read : List ℕ → Option Eval
eval_read word =
    cond (bytes_eq word (codes "Plain")) (Some Plain)
    (cond (bytes_eq word (codes "Hand")) (Some Hand)
    (cond (bytes_eq word (codes "Exchange")) (Some Exchange) None))

-- the command that sets an option to a value, with a row for each option
abbrev pub command_for : List ℕ → List ℕ → Command
command_for name value =
    cond (bytes_eq name (codes "Depth")) (option_map_or SetDepth (depth_read value) Other)
    (cond (bytes_eq name (codes "Eval")) (option_map_or SetEval (eval_read value) Other)
    (cond (bytes_eq name (codes "MultiPV")) (option_map_or SetLines (multi_pv_read value) Other)
    Other))

-- the command of the words after `setoption`: exactly `name NAME value VALUE`
abbrev pub option_of : List (List ℕ) → Command
option_of (before_name ∷ name ∷ before_value ∷ value ∷ []) =
    cond (bytes_eq before_name (codes "name") && bytes_eq before_value (codes "value"))
    (command_for name value) Other
option_of _ = Other

-- each number in the command is in its range, with a row for each numeric option
abbrev pub IsInRange : Command → Type 0
IsInRange (SetDepth depth) = IsDepth depth
IsInRange (SetLines lines) = IsMultiPv lines
IsInRange (Go (Some depth) hold) = IsDepth depth
IsInRange _ = Unit {0}
