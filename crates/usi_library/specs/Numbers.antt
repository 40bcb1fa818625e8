-- The numbers that C knows (own choice).
use Rattle.std.specs.Prelude.{◌≡◌}
use Rattle.shared_table.specs.declared.table.TheConstants.{CAPACITY_MAX}
use Rattle.usi_library.specs.declared.setup.TheConstants.{USI_EVAL_PLAIN, USI_EVAL_HAND, USI_EVAL_EXCHANGE}
use Rattle.usi_library.specs.declared.status.TheConstants.{USI_OK, USI_CLOSED, USI_IS_OPEN, USI_OUT_OF_RANGE, USI_OUT_OF_MEMORY, USI_TOO_LONG, USI_NOT_WANTED, USI_UNKNOWN_EVAL, USI_DEPTH_OUT_OF_RANGE, USI_MAX_DEPTH_OUT_OF_RANGE, USI_LINES_OUT_OF_RANGE, USI_DEPTH_ABOVE_MAX}

-- what a call answers
pub record AreStatuses : Type 0 where
  pub ok : USI_OK ≡ 0
  pub closed : USI_CLOSED ≡ 1
  pub is_open : USI_IS_OPEN ≡ 2
  pub out_of_range : USI_OUT_OF_RANGE ≡ 3
  pub out_of_memory : USI_OUT_OF_MEMORY ≡ 4
  pub too_long : USI_TOO_LONG ≡ 5
  pub not_wanted : USI_NOT_WANTED ≡ 6
  pub unknown_eval : USI_UNKNOWN_EVAL ≡ 7
  pub depth : USI_DEPTH_OUT_OF_RANGE ≡ 8
  pub max_depth : USI_MAX_DEPTH_OUT_OF_RANGE ≡ 9
  pub lines : USI_LINES_OUT_OF_RANGE ≡ 10
  pub depth_above_max : USI_DEPTH_ABOVE_MAX ≡ 11

-- evaluations
pub record AreEvals : Type 0 where
  pub plain : USI_EVAL_PLAIN ≡ 0
  pub hand : USI_EVAL_HAND ≡ 1
  pub exchange : USI_EVAL_EXCHANGE ≡ 2

-- these, and the most entries of a table
pub record AreNumbers : Type 0 where
  pub statuses : AreStatuses
  pub evals : AreEvals
  pub entries : CAPACITY_MAX ≡ 1000000
