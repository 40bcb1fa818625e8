-- The settings of an operator for all sessions (own choice).
use Rattle.std.specs.Prelude.{◌≡◌, ℕ, Bool, true, false, not, cond, nat_lt, Option, Some, None, refl}
use Rattle.shogi_eval.specs.declared.eval.Eval.{Eval}
use Rattle.shogi_eval.specs.declared.eval.Eval.TheVariants.{Plain, Hand, Exchange}
use Rattle.usi_texts.specs.SetupRange.{is_depth, is_multi_pv}
use Rattle.usi_texts.specs.declared.setup.Setup.{Setup}
use Rattle.usi_texts.specs.declared.setup.SetupFault.{SetupFault}
use Rattle.usi_texts.specs.declared.setup.SetupFault.TheVariants as faults

-- the setup if nothing else is set
abbrev pub default_setup : Setup
default_setup = record { depth = 3; max_depth = 16; multi_pv = 1; eval = Plain; fits = refl }

-- the setup has these numbers and this evaluation
pub record IsSetupOf (depth max_depth multi_pv : ℕ) (eval : Eval) (setup : Setup) : Type 0 where
  pub depth_is : setup.depth ≡ depth
  pub max_depth_is : setup.max_depth ≡ max_depth
  pub multi_pv_is : setup.multi_pv ≡ multi_pv
  pub eval_is : setup.eval ≡ eval

-- why the numbers make no setup: the first one out of its range, or else a depth above the greatest
abbrev pub setup_fault : ℕ → ℕ → ℕ → Option SetupFault
setup_fault depth max_depth multi_pv =
    cond (not (is_depth depth)) (Some faults.Depth)
    (cond (not (is_depth max_depth)) (Some faults.MaxDepth)
    (cond (not (is_multi_pv multi_pv)) (Some faults.MultiPv)
    (cond (nat_lt max_depth depth) (Some faults.DepthAboveMax) None)))

-- the evaluation is `Exchange`
abbrev pub is_exchange : Eval → Bool
is_exchange Plain = false
is_exchange Hand = false
is_exchange Exchange = true

-- `Plain` and `Hand` are always offered, `Exchange` only if sessions start with it
abbrev pub offers : Setup → Eval → Bool
offers setup Plain = true
offers setup Hand = true
offers setup Exchange = is_exchange setup.eval
