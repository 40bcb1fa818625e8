-- Whether two positions are the same, as a test.
use Rattle.std.specs.Prelude.{◌==◌, ◌&&◌, ℕ, Bool, true, false, Option, Some, None, nat_eq}
use Rattle.std.specs.Cmp.Lexicographic.{pointwise}
use Rattle.shogi_core.specs.Pieces.{is_same_color}
use Rattle.shogi_core.specs.Position.{Shogi}
use Rattle.shogi_core.specs.declared.piece.Piece.{Piece}
use Rattle.shogi_core.specs.declared.piece.Role.{Role}
use Rattle.shogi_core.specs.declared.piece.Role.TheVariants as role

-- a number for each role, from 0 to 13
abbrev pub role_number : Role → ℕ
role_number role.King = 0
role_number role.Pawn = 1
role_number role.Lance = 2
role_number role.Knight = 3
role_number role.Silver = 4
role_number role.Gold = 5
role_number role.Bishop = 6
role_number role.Rook = 7
role_number role.PromotedPawn = 8
role_number role.PromotedLance = 9
role_number role.PromotedKnight = 10
role_number role.PromotedSilver = 11
role_number role.Horse = 12
role_number role.Dragon = 13

-- the pieces have one colour and one role
abbrev pub is_same_piece : Piece → Piece → Bool
is_same_piece a b = is_same_color a.color b.color && role_number a.role == role_number b.role

-- the cells are both empty, or hold the same piece
abbrev pub is_same_cell : Option Piece → Option Piece → Bool
is_same_cell None None = true
is_same_cell None (Some b) = false
is_same_cell (Some a) None = false
is_same_cell (Some a) (Some b) = is_same_piece a b

-- the positions have the same cells, the same hands and the same side to move
unfoldable pub is_same_position : Shogi → Shogi → Bool
is_same_position a b = pointwise is_same_cell a.cells b.cells
    && (pointwise nat_eq a.hands b.hands && is_same_color a.side b.side)
