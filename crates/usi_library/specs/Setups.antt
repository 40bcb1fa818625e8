-- The setup of the numbers that C gives (own choice).
use Rattle.std.specs.Prelude.{◌≡◌, ℕ, ◌==◌, cond, Option, None, Some}
use Rattle.std.specs.Option.{option_map}
use Rattle.shogi_eval.specs.declared.eval.Eval.{Eval}
use Rattle.shogi_eval.specs.declared.eval.Eval.TheVariants.{Plain, Hand, Exchange}
use Rattle.usi_texts.specs.Setup.{setup_fault, IsSetupOf}
use Rattle.usi_texts.specs.declared.setup.Setup.{Setup}
use Rattle.usi_texts.specs.declared.setup.SetupFault.{SetupFault}
use Rattle.usi_texts.specs.declared.setup.SetupFault.TheVariants as faults
use Rattle.usi_library.specs.declared.setup.TheConstants.{USI_EVAL_PLAIN, USI_EVAL_HAND, USI_EVAL_EXCHANGE}
use Rattle.usi_library.specs.declared.status.TheConstants.{USI_UNKNOWN_EVAL, USI_DEPTH_OUT_OF_RANGE, USI_MAX_DEPTH_OUT_OF_RANGE, USI_LINES_OUT_OF_RANGE, USI_DEPTH_ABOVE_MAX}

-- the evaluation of a number; none if the number names none
abbrev pub eval_of : ℕ → Option Eval
eval_of number =
    cond (number == USI_EVAL_PLAIN) (Some Plain)
    (cond (number == USI_EVAL_HAND) (Some Hand)
    (cond (number == USI_EVAL_EXCHANGE) (Some Exchange) None))

-- the setup has these numbers
pub record IsNumbered (depth max_depth lines eval : ℕ) (setup : Setup) : Type 0 where
  pub numbers_are : IsSetupOf depth max_depth lines setup.eval setup
  pub eval_is : eval_of eval ≡ Some setup.eval

-- the status for a fault
abbrev pub status_of_fault : SetupFault → ℕ
status_of_fault faults.Depth = USI_DEPTH_OUT_OF_RANGE
status_of_fault faults.MaxDepth = USI_MAX_DEPTH_OUT_OF_RANGE
status_of_fault faults.MultiPv = USI_LINES_OUT_OF_RANGE
status_of_fault faults.DepthAboveMax = USI_DEPTH_ABOVE_MAX

-- the status that refuses these numbers under an evaluation that there is, if any
abbrev pub refusal_with : Option Eval → (depth max_depth lines : ℕ) → Option ℕ
refusal_with None depth max_depth lines = Some USI_UNKNOWN_EVAL
refusal_with (Some eval) depth max_depth lines =
    option_map status_of_fault (setup_fault depth max_depth lines)

-- the status that refuses these numbers, if any: an evaluation that there is not comes first
abbrev pub setup_refusal : (depth max_depth lines eval : ℕ) → Option ℕ
setup_refusal depth max_depth lines eval = refusal_with (eval_of eval) depth max_depth lines
