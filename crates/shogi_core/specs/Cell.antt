-- What stands on a square: whose piece, a king, an unpromoted pawn, a piece that could never move again (JSA playing rules).
use Rattle.std.specs.Prelude.{ℕ, ◌≡◌, ◌≢◌, ◌<◌, ◌%◌, ◌&&◌, Bool, true, false, Option, Some, None, nat_lt}
use Rattle.shogi_core.specs.declared.piece.Color.{Color}
use Rattle.shogi_core.specs.declared.piece.Color.TheVariants.{Black, White}
use Rattle.shogi_core.specs.declared.piece.Role.{Role}
use Rattle.shogi_core.specs.declared.piece.Role.TheVariants.{King, Pawn, Lance, Knight, Bishop, Rook, Horse, Dragon}
use Rattle.shogi_core.specs.declared.piece.Piece.{Piece}
use Rattle.shogi_core.specs.Movement.{Cells, piece_at}
use Rattle.shogi_core.specs.Pieces.{is_same_color}

-- the king
abbrev pub is_king_role : Role → Bool
is_king_role King = true
is_king_role _ = false

-- the unpromoted pawn
abbrev pub is_pawn_role : Role → Bool
is_pawn_role Pawn = true
is_pawn_role _ = false

-- a role that slides
abbrev pub is_sliding_role : Role → Bool
is_sliding_role Lance = true
is_sliding_role Bishop = true
is_sliding_role Rook = true
is_sliding_role Horse = true
is_sliding_role Dragon = true
is_sliding_role _ = false

-- a slider of either side stands in the cell
abbrev pub is_slider : Option Piece → Bool
is_slider None = false
is_slider (Some piece) = is_sliding_role piece.role

-- a piece of the side stands in the cell
abbrev pub is_piece_of : Color → Option Piece → Bool
is_piece_of color None = false
is_piece_of color (Some piece) = is_same_color color piece.color

-- a king of the side stands in the cell
abbrev pub is_king : Color → Option Piece → Bool
is_king color None = false
is_king color (Some piece) = is_same_color color piece.color && is_king_role piece.role

-- an unpromoted pawn of the side stands in the cell
abbrev pub is_pawn : Color → Option Piece → Bool
is_pawn color None = false
is_pawn color (Some piece) = is_same_color color piece.color && is_pawn_role piece.role

-- a piece of the side and role could never move again from the rank (counted from 0)
abbrev pub is_immobile_role : Color → Role → ℕ → Bool
is_immobile_role Black Pawn rank = nat_lt rank 1
is_immobile_role Black Lance rank = nat_lt rank 1
is_immobile_role Black Knight rank = nat_lt rank 2
is_immobile_role White Pawn rank = nat_lt 7 rank
is_immobile_role White Lance rank = nat_lt 7 rank
is_immobile_role White Knight rank = nat_lt 6 rank
is_immobile_role _ _ rank = false

-- what stands in the cell could never move again from the square: a dead piece
abbrev pub is_immobile : ℕ → Option Piece → Bool
is_immobile square None = false
is_immobile square (Some piece) = is_immobile_role piece.color piece.role (square % 9)

-- a dead piece stands on the square
abbrev pub is_immobile_on : Cells → ℕ → Bool
is_immobile_on cells square = is_immobile square (piece_at cells square)

-- no king of the side stands on another square
abbrev pub HasNoOtherKing : Cells → Color → ℕ → Type 0
HasNoOtherKing cells side king =
    (x : ℕ) → x < 81 → x ≢ king → is_king side (piece_at cells x) ≡ false

-- no king of the side stands on the board
abbrev pub HasNoKing : Cells → Color → Type 0
HasNoKing cells side = (n : ℕ) → n < 81 → is_king side (piece_at cells n) ≡ false
