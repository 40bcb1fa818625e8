-- Steps of pieces to empty squares (own choice).
use Rattle.std.specs.Prelude.{ℕ, ◌≡◌, ◌<◌, true, false}
use Rattle.shogi_core.specs.Bits.{has_bit}
use Rattle.shogi_core.specs.Movement.{Cells}
use Rattle.shogi_replies.specs.ReplyInfo.{is_quiet_step}
use Rattle.analogous_moves.specs.declared.spare_moves.FreeStep.{FreeStep}

-- one of the pieces steps to an empty square outside `taken`
pub record IsFreeStep (cells : Cells) (pieces taken : ℕ) (s : FreeStep) : Type 0 where
  pub on_board : (s.from < 81) × (s.to < 81)
  pub among : has_bit pieces s.from ≡ true
  pub other : has_bit taken s.to ≡ false
  pub step : is_quiet_step cells s.from s.to ≡ true
