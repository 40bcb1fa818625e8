-- The letters of pieces (USI and SFEN): P L N S G B R, and K of a king; upper case for Black, lower case for White, and a plus before a promoted piece.
use Rattle.std.specs.Prelude.{ℕ, ◌+◌, ◌==◌, ◌&&◌, Bool, true, false, not, List, [], ◌∷◌, ◌++◌, Option, Some, None, cond, nat_lt, codes, slice_index}
use Rattle.std.specs.List.{find}
use Rattle.shogi_core.specs.declared.piece.Color.{Color}
use Rattle.shogi_core.specs.declared.piece.Color.TheVariants.{Black, White}
use Rattle.shogi_core.specs.declared.piece.Kind.{Kind}
use Rattle.shogi_core.specs.declared.piece.Role.{Role}
use Rattle.shogi_core.specs.declared.piece.Role.TheVariants.{King, Pawn, Lance, Knight, Silver, Gold, Bishop, Rook, PromotedPawn, PromotedLance, PromotedKnight, PromotedSilver, Horse, Dragon}
use Rattle.shogi_core.specs.declared.piece.Piece.{Piece}
use Rattle.shogi_core.specs.Pieces.{kind_number, all_kinds, kind_of}
use Rattle.shogi_sfen.specs.declared.byte.TheConstants.{KING, LOWER_CASE, TO_LOWER_CASE, PLUS}

-- the upper-case letter of a kind
abbrev pub letter_of : Kind → ℕ
letter_of kind = slice_index (codes "PLNSGBR") (kind_number kind)

-- the letter is that of the kind
abbrev pub is_letter_of : ℕ → Kind → Bool
is_letter_of letter kind = letter_of kind == letter

-- the kind, of all kinds, with this letter
unfoldable pub kind_named : ℕ → Option Kind
kind_named letter = find (is_letter_of letter) all_kinds

-- the role is promoted
abbrev pub is_promoted : Role → Bool
is_promoted PromotedPawn = true
is_promoted PromotedLance = true
is_promoted PromotedKnight = true
is_promoted PromotedSilver = true
is_promoted Horse = true
is_promoted Dragon = true
is_promoted _ = false

-- the upper-case letter of the kind, or `K` if there is none
abbrev pub letter_or_king : Option Kind → ℕ
letter_or_king None = KING
letter_or_king (Some kind) = letter_of kind

-- upper case for Black, lower case for White
abbrev pub cased_for : Color → ℕ → ℕ
cased_for Black letter = letter
cased_for White letter = letter + TO_LOWER_CASE

-- the letter of a piece, without a plus
abbrev pub piece_letter : Piece → ℕ
piece_letter piece = cased_for piece.color (letter_or_king (kind_of piece.role))

-- the letter of a piece, after a plus if promoted
abbrev pub piece_text : Piece → List ℕ
piece_text piece = cond (is_promoted piece.role) (PLUS ∷ []) [] ++ piece_letter piece ∷ []

-- all roles
abbrev pub all_roles : List Role
all_roles =
    King ∷ Pawn ∷ Lance ∷ Knight ∷ Silver ∷ Gold ∷ Bishop ∷ Rook
    ∷ PromotedPawn ∷ PromotedLance ∷ PromotedKnight ∷ PromotedSilver ∷ Horse ∷ Dragon ∷ []

-- the letter, after a plus or not, names the piece
abbrev pub is_named : Bool → ℕ → Piece → Bool
is_named plus letter piece =
    cond plus (is_promoted piece.role) (not (is_promoted piece.role))
    && piece_letter piece == letter

-- the side by the letter's case
abbrev pub color_of_letter : ℕ → Color
color_of_letter letter = cond (nat_lt letter LOWER_CASE) Black White

-- the role, of all roles, that the letter names for the side, after a plus or not
abbrev pub role_named : Bool → ℕ → Color → Option Role
role_named plus letter color =
    find (λ role. is_named plus letter (record { color = color; role = role })) all_roles

-- a piece of the side and role
abbrev pub piece_of_side : Color → Option Role → Option Piece
piece_of_side color None = None
piece_of_side color (Some role) = Some (record { color = color; role = role })

-- the piece, of all pieces, that the letter names, after a plus or not
unfoldable pub piece_named : Bool → ℕ → Option Piece
piece_named plus letter =
    piece_of_side (color_of_letter letter) (role_named plus letter (color_of_letter letter))
