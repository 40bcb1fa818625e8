-- Steps and jumps from a square.
use Rattle.std.specs.Prelude.{ℕ, ◌==◌, ◌++◌, Bool, cond, List, [], ◌∷◌}
use Rattle.std.specs.List.{list_any}
use Rattle.shogi_core.specs.declared.offset.Offset.{Offset}
use Rattle.shogi_core.specs.declared.piece.Color.{Color}
use Rattle.shogi_core.specs.declared.piece.Color.TheVariants.{Black, White}
use Rattle.shogi_core.specs.Movement.{jump_left, jump_right, leads, for_side, straight, diagonal, forward, gold_steps}

-- the step patterns: none, king, pawn, knight, silver, gold, and the steps of horse and dragon
abbrev pub steps_at : ℕ → List Offset
steps_at n =
    cond (n == 0) [] (cond (n == 1) (straight ++ diagonal)
    (cond (n == 2) forward (cond (n == 3) (jump_left ∷ jump_right ∷ [])
    (cond (n == 4) (forward ++ diagonal) (cond (n == 5) gold_steps
    (cond (n == 6) straight diagonal))))))

-- a number for each side
abbrev pub color_number : Color → ℕ
color_number Black = 0
color_number White = 1

-- one of the side's offsets leads from a to b
abbrev pub is_step : Color → List Offset → ℕ → ℕ → Bool
is_step color os a b = list_any (λ o. leads 1 (for_side color o) a b) os
