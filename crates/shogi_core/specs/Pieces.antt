-- Sides, kinds and roles (JSA playing rules, pieces). A kind is what stands in hand; a role is what stands on the board, promoted or not.
use Rattle.std.specs.Prelude.{ℕ, ◌≡◌, ◌+◌, ◌==◌, Bool, true, false, List, [], ◌∷◌, Option, Some, None, MatchOption}
use Rattle.shogi_core.specs.declared.piece.Color.{Color}
use Rattle.shogi_core.specs.declared.piece.Color.TheVariants.{Black, White}
use Rattle.shogi_core.specs.declared.piece.Kind.{Kind}
use Rattle.shogi_core.specs.declared.piece.Kind.TheVariants as kinds
use Rattle.shogi_core.specs.declared.piece.Role.{Role}
use Rattle.shogi_core.specs.declared.piece.Role.TheVariants.{King, Pawn, Lance, Knight, Silver, Gold, Bishop, Rook, PromotedPawn, PromotedLance, PromotedKnight, PromotedSilver, Horse, Dragon}
use Rattle.shogi_core.specs.declared.piece.Piece.{Piece}

-- the opponent of the side
abbrev pub opponent_of : Color → Color
opponent_of Black = White
opponent_of White = Black

-- both are the same side
abbrev pub is_same_color : Color → Color → Bool
is_same_color Black Black = true
is_same_color White White = true
is_same_color _ _ = false

-- the number of a kind, in the order P L N S G B R
abbrev pub kind_number : Kind → ℕ
kind_number kinds.Pawn = 0
kind_number kinds.Lance = 1
kind_number kinds.Knight = 2
kind_number kinds.Silver = 3
kind_number kinds.Gold = 4
kind_number kinds.Bishop = 5
kind_number kinds.Rook = 6

-- `next` is the kind after `kind`, or `None` after the rook
abbrev pub IsKindAfter : Kind → Option Kind → Type 0
IsKindAfter kind next =
    MatchOption next (kind_number kind ≡ 6) (λ k. kind_number k ≡ kind_number kind + 1)

-- all kinds, by number
abbrev pub all_kinds : List Kind
all_kinds =
    kinds.Pawn ∷ kinds.Lance ∷ kinds.Knight ∷ kinds.Silver ∷ kinds.Gold ∷ kinds.Bishop ∷ kinds.Rook
    ∷ []

-- the size of one set in pieces of the kind
abbrev pub set_size : Kind → ℕ
set_size kinds.Pawn = 18
set_size kinds.Lance = 4
set_size kinds.Knight = 4
set_size kinds.Silver = 4
set_size kinds.Gold = 4
set_size kinds.Bishop = 2
set_size kinds.Rook = 2

-- the kind that a captured piece of the role becomes in hand; none for a king
abbrev pub kind_of : Role → Option Kind
kind_of King = None
kind_of Pawn = Some kinds.Pawn
kind_of Lance = Some kinds.Lance
kind_of Knight = Some kinds.Knight
kind_of Silver = Some kinds.Silver
kind_of Gold = Some kinds.Gold
kind_of Bishop = Some kinds.Bishop
kind_of Rook = Some kinds.Rook
kind_of PromotedPawn = Some kinds.Pawn
kind_of PromotedLance = Some kinds.Lance
kind_of PromotedKnight = Some kinds.Knight
kind_of PromotedSilver = Some kinds.Silver
kind_of Horse = Some kinds.Bishop
kind_of Dragon = Some kinds.Rook

-- the option is this kind
abbrev pub is_role_of_kind : Kind → Option Kind → Bool
is_role_of_kind kind None = false
is_role_of_kind kind (Some other) = kind_number other == kind_number kind

-- a piece of the kind stands in the cell, promoted or not
abbrev pub is_of_kind : Kind → Option Piece → Bool
is_of_kind kind None = false
is_of_kind kind (Some piece) = is_role_of_kind kind (kind_of piece.role)

-- the role of a dropped kind
abbrev pub role_of : Kind → Role
role_of kinds.Pawn = Pawn
role_of kinds.Lance = Lance
role_of kinds.Knight = Knight
role_of kinds.Silver = Silver
role_of kinds.Gold = Gold
role_of kinds.Bishop = Bishop
role_of kinds.Rook = Rook

-- the role after promotion; king, gold and promoted roles stay
abbrev pub promoted : Role → Role
promoted King = King
promoted Pawn = PromotedPawn
promoted Lance = PromotedLance
promoted Knight = PromotedKnight
promoted Silver = PromotedSilver
promoted Gold = Gold
promoted Bishop = Horse
promoted Rook = Dragon
promoted PromotedPawn = PromotedPawn
promoted PromotedLance = PromotedLance
promoted PromotedKnight = PromotedKnight
promoted PromotedSilver = PromotedSilver
promoted Horse = Horse
promoted Dragon = Dragon
