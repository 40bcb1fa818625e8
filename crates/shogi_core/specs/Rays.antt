-- Lines from a square.
use Rattle.std.specs.Prelude.{ℕ, ◌==◌, Bool, cond, []}
use Rattle.shogi_core.specs.declared.offset.Offset.{Offset}
use Rattle.shogi_core.specs.Bits.{mask_below}
use Rattle.shogi_core.specs.Movement.{up, down, left, right, up_left, up_right, down_left, down_right, slides}

-- the eight directions by number: first the four with rising indexes, then their opposites
abbrev pub direction_at : ℕ → Offset
direction_at n =
    cond (n == 0) down (cond (n == 1) up_left (cond (n == 2) left (cond (n == 3) down_left
    (cond (n == 4) up (cond (n == 5) down_right (cond (n == 6) right up_right))))))

-- b lies in the direction from a, whatever stands between
abbrev pub is_on_ray : Offset → ℕ → ℕ → Bool
is_on_ray o a b = slides [] o a b

-- the mask of the squares in the direction from a
unfoldable pub ray_of : Offset → ℕ → ℕ
ray_of o a = mask_below 81 (is_on_ray o a)
