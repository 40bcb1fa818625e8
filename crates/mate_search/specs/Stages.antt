-- A way through all legal moves: captures, then the other moves on the board, then drops, each in the order of codes (own choice).
use Rattle.std.specs.Prelude.{◌≡◌, ◌≢◌, ℕ, false, true, List, [], ◌++◌}
use Rattle.shogi_core.specs.Attack.{in_check}
use Rattle.shogi_core.specs.Position.{Shogi}
use Rattle.shogi_moves.specs.After.{after_code}
use Rattle.shogi_moves.specs.LegalMoves.{legal_codes}
use Rattle.shogi_moves.specs.Sweeps.{IsBoardSweep, IsDropSweep, board_left, drops_left, matching_from}
use Rattle.mate_search.specs.declared.stages.Stage.{Stage}
use Rattle.mate_search.specs.declared.stages.Stage.TheVariants.{Captures, Quiets, Drops}

abbrev pub IsStage : Shogi → Stage → Type 0
IsStage p (Captures sweep) = IsBoardSweep p true sweep
IsStage p (Quiets sweep) = IsBoardSweep p false sweep
IsStage p (Drops sweep) = IsDropSweep p sweep

-- the codes of the moves that are still to come
abbrev pub stage_left : Shogi → Stage → List ℕ
stage_left p (Captures sweep) = board_left p true sweep ++ matching_from p false 0
stage_left p (Quiets sweep) = board_left p false sweep
stage_left p (Drops sweep) = drops_left p sweep

-- the codes of all legal moves in that order
abbrev pub ordered_codes : Shogi → List ℕ
ordered_codes p = matching_from p true 0 ++ matching_from p false 0

-- after the move the other side has a legal reply and, if no escapes are given, is not in check
pub record IsUnmating (p : Shogi) (escapes code : ℕ) : Type 0 where
  pub answered : legal_codes (after_code p code) ≢ []
  pub unchecked : escapes ≡ 0
      → in_check (after_code p code).cells (after_code p code).side ≡ false
