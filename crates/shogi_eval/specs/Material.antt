-- The material of a position (own choice of values).
use Rattle.std.specs.Prelude.{ℕ, ℤ, pos, ◌-ℤ◌, ◌+◌, ◌*◌, ◌-◌, Bool, Option, Some, None, cond, sum_by}
use Rattle.shogi_core.specs.declared.piece.Color.{Color}
use Rattle.shogi_core.specs.declared.piece.Kind.{Kind}
use Rattle.shogi_core.specs.declared.piece.Kind.TheVariants as kinds
use Rattle.shogi_core.specs.declared.piece.Role.{Role}
use Rattle.shogi_core.specs.declared.piece.Role.TheVariants.{King, Pawn, Lance, Knight, Silver, Gold, Bishop, Rook, PromotedPawn, PromotedLance, PromotedKnight, PromotedSilver, Horse, Dragon}
use Rattle.shogi_core.specs.declared.piece.Piece.{Piece}
use Rattle.shogi_core.specs.Movement.{Cells}
use Rattle.shogi_core.specs.Pieces.{all_kinds, opponent_of, is_same_color, role_of, kind_of, promoted}
use Rattle.shogi_core.specs.Position.{Shogi, HandCounts, count_in_hand}
use Rattle.shogi_eval.specs.declared.eval.Eval.{Eval}
use Rattle.shogi_eval.specs.declared.eval.Eval.TheVariants.{Plain, Hand, Exchange}

-- the points of a piece on the board
abbrev pub value_of : Role → ℕ
value_of King = 0
value_of Pawn = 100
value_of Lance = 300
value_of Knight = 400
value_of Silver = 500
value_of Gold = 600
value_of Bishop = 800
value_of Rook = 1000
value_of PromotedPawn = 600
value_of PromotedLance = 600
value_of PromotedKnight = 600
value_of PromotedSilver = 600
value_of Horse = 1100
value_of Dragon = 1300

-- the points of a piece in hand: those on the board, or a tenth more
abbrev pub value_in_hand : Eval → Kind → ℕ
value_in_hand Plain kind = value_of (role_of kind)
value_in_hand Exchange kind = value_of (role_of kind)
value_in_hand Hand kinds.Pawn = 110
value_in_hand Hand kinds.Lance = 330
value_in_hand Hand kinds.Knight = 440
value_in_hand Hand kinds.Silver = 550
value_in_hand Hand kinds.Gold = 660
value_in_hand Hand kinds.Bishop = 880
value_in_hand Hand kinds.Rook = 1100

-- the points in the cell, if its piece is the side's
abbrev pub points_at : Color → Option Piece → ℕ
points_at color None = 0
points_at color (Some piece) = cond (is_same_color color piece.color) (value_of piece.role) 0

-- the points of the side's pieces on the board
abbrev pub points_on_board : Cells → Color → ℕ
points_on_board cells color = sum_by (points_at color) cells

-- the points of the side's pieces of the kind in hand
abbrev pub points_of_kind : HandCounts → Eval → Color → Kind → ℕ
points_of_kind hands e color kind = count_in_hand hands color kind * value_in_hand e kind

-- the points of the side's pieces in hand
abbrev pub points_in_hand : HandCounts → Eval → Color → ℕ
points_in_hand hands e color = sum_by (points_of_kind hands e color) all_kinds

-- the points of all the side's pieces
unfoldable pub points_of : Shogi → Eval → Color → ℕ
points_of p e color = points_on_board p.cells color + points_in_hand p.hands e color

-- the points of the side to move, less the opponent's
unfoldable pub material_of : Shogi → Eval → ℤ
material_of p e = pos (points_of p e p.side) -ℤ pos (points_of p e (opponent_of p.side))

-- the points that a captured piece adds to the captor's hand
abbrev pub value_of_captured : Eval → Option Kind → ℕ
value_of_captured e None = 0
value_of_captured e (Some kind) = value_in_hand e kind

-- the points that a capture gains: the opponent loses the piece and the captor holds it
abbrev pub taken_gain : Eval → Option Piece → ℕ
taken_gain e None = 0
taken_gain e (Some piece) = value_of piece.role + value_of_captured e (kind_of piece.role)

-- the points that a promotion gains
abbrev pub promotion_gain : Bool → Option Piece → ℕ
promotion_gain promote None = 0
promotion_gain promote (Some piece) =
    cond promote (value_of (promoted piece.role) - value_of piece.role) 0

-- the points that a drop gains: the piece leaves the hand for the board
abbrev pub drop_gain : Eval → Kind → ℤ
drop_gain e kind = pos (value_of (role_of kind)) -ℤ pos (value_in_hand e kind)
