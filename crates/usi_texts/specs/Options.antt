-- The options of a session: their values, and the lines that offer them (USI, option and setoption; names, ranges and defaults are an own choice).
use Rattle.std.specs.Prelude.{ℕ, List, [], ◌++◌, cond, codes, decimal}
use Rattle.shogi_eval.specs.declared.eval.Eval.{Eval}
use Rattle.shogi_eval.specs.declared.eval.Eval.TheVariants.{Plain, Hand, Exchange}
use Rattle.usi_lines.specs.declared.options.TheConstants.{DEPTH_MIN, MULTI_PV_MIN, MULTI_PV_MAX}
use Rattle.usi_lines.specs.Options.{IsDepth, IsMultiPv}
use Rattle.usi_texts.specs.declared.options.Options.{Options}
use Rattle.usi_texts.specs.declared.setup.Setup.{Setup}
use Rattle.usi_texts.specs.Setup.{offers}

-- the initial options under a setup
abbrev pub options_under : Setup → Options
options_under setup = record { depth = setup.depth; eval = setup.eval; multi_pv = setup.multi_pv }

-- each numeric option is in its range
pub record AreInRange (options : Options) : Type 0 where
  pub depth_fits : IsDepth options.depth
  pub multi_pv_fits : IsMultiPv options.multi_pv

-- the name of a numeric option
abbrev pub spin_name : List ℕ → List ℕ
spin_name name = codes "option name " ++ (name ++ codes " type spin")

-- the range of a numeric option, to the end of its line
abbrev pub spin_range : ℕ → ℕ → List ℕ
spin_range least most =
    (codes " min " ++ decimal least) ++ ((codes " max " ++ decimal most) ++ codes "\n")

-- the line of a numeric option
abbrev pub spin_line : List ℕ → ℕ → ℕ → ℕ → List ℕ
spin_line name default least most =
    spin_name name ++ ((codes " default " ++ decimal default) ++ spin_range least most)

-- the name of an evaluation
abbrev pub eval_name : Eval → List ℕ
eval_name Plain = codes "Plain"
eval_name Hand = codes "Hand"
eval_name Exchange = codes "Exchange"

-- the evaluations that a setup offers, to the end of the line
abbrev pub eval_names : Setup → List ℕ
eval_names setup =
    cond (offers setup Exchange) (codes " var Plain var Hand var Exchange\n")
    (codes " var Plain var Hand\n")

-- the line of the evaluation option
abbrev pub eval_line : Setup → List ℕ
eval_line setup =
    codes "option name Eval type combo default " ++ (eval_name setup.eval ++ eval_names setup)

-- the lines of all options, with a row for each
abbrev pub option_lines : Setup → List ℕ
option_lines setup =
    spin_line (codes "Depth") setup.depth DEPTH_MIN setup.max_depth
    ++ (eval_line setup ++ spin_line (codes "MultiPV") setup.multi_pv MULTI_PV_MIN MULTI_PV_MAX)
