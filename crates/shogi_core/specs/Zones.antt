-- Where pieces promote, and what is near (JSA playing rules: promotion).
use Rattle.std.specs.Prelude.{ℕ, ◌+◌, ◌/◌, ◌%◌, ◌&&◌, ◌||◌, Bool, true, false, Option, Some, None, nat_lt}
use Rattle.shogi_core.specs.declared.piece.Color.{Color}
use Rattle.shogi_core.specs.declared.piece.Color.TheVariants.{Black, White}
use Rattle.shogi_core.specs.declared.piece.Role.{Role}
use Rattle.shogi_core.specs.declared.piece.Role.TheVariants.{Pawn, Lance, Knight, Silver, Bishop, Rook}
use Rattle.shogi_core.specs.declared.piece.Piece.{Piece}

-- the role has a promoted form
abbrev pub is_promotable : Role → Bool
is_promotable Pawn = true
is_promotable Lance = true
is_promotable Knight = true
is_promotable Silver = true
is_promotable Bishop = true
is_promotable Rook = true
is_promotable _ = false

-- the promotion zone: the three ranks farthest from the side
abbrev pub in_promotion_zone : Color → ℕ → Bool
in_promotion_zone Black square = nat_lt (square % 9) 3
in_promotion_zone White square = nat_lt 5 (square % 9)

-- what stands in the cell can promote, and the move begins or ends in the zone
abbrev pub may_promote : Option Piece → ℕ → ℕ → Bool
may_promote None from to = false
may_promote (Some piece) from to =
    is_promotable piece.role
    && (in_promotion_zone piece.color from || in_promotion_zone piece.color to)

-- the square is in the side's promotion zone or on the two ranks before it
abbrev pub is_near_zone : Color → ℕ → Bool
is_near_zone Black square = nat_lt (square % 9) 5
is_near_zone White square = nat_lt 3 (square % 9)

-- the squares are at most two files and four ranks apart
abbrev pub is_around : ℕ → ℕ → Bool
is_around square n =
    nat_lt (n / 9) (square / 9 + 3) && nat_lt (square / 9) (n / 9 + 3)
    && nat_lt (n % 9) (square % 9 + 5) && nat_lt (square % 9) (n % 9 + 5)
