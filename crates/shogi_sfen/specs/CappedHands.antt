-- Hands as text, with counts that saturate, as the code keeps them.
use Rattle.std.specs.Prelude.{ℕ, ◌+◌, ◌-◌, ◌*◌, ◌==◌, ◌&&◌, false, List, [], ◌∷◌, Option, Some, None, cond, is_none, slice_set, unwrap_or, min, map}
use Rattle.std.specs.Option.{option_and_then}
use Rattle.std.specs.Char.{is_ascii_digit}
use Rattle.shogi_core.specs.declared.piece.Color.{Color}
use Rattle.shogi_core.specs.declared.piece.Kind.{Kind}
use Rattle.shogi_core.specs.declared.piece.Piece.{Piece}
use Rattle.shogi_core.specs.Pieces.{kind_of}
use Rattle.shogi_core.specs.Position.{HandCounts, count_in_hand, place_of}
use Rattle.shogi_sfen.specs.declared.byte.TheConstants.{ZERO}
use Rattle.shogi_sfen.specs.declared.hand_text.TheConstants.{COUNTED_MAX}
use Rattle.shogi_sfen.specs.Letters.{piece_named}

-- `count` more of the kind, at most `COUNTED_MAX` in all
abbrev pub capped_kind : HandCounts → ℕ → Color → Option Kind → Option HandCounts
capped_kind hands count color None = None
capped_kind hands count color (Some kind) =
    Some (slice_set hands (place_of color kind)
    (min COUNTED_MAX (count_in_hand hands color kind + count)))

-- `count` more of a piece that can be held, at most `COUNTED_MAX` in all
abbrev pub capped_piece : HandCounts → ℕ → Option Piece → Option HandCounts
capped_piece hands count None = None
capped_piece hands count (Some piece) = capped_kind hands count piece.color (kind_of piece.role)

-- the count with a digit appended, at most `COUNTED_MAX`, if its first digit is not 0
abbrev pub capped_digit : Option ℕ → ℕ → Option ℕ
capped_digit count byte =
    cond (is_none count && byte == ZERO) None
    (Some (min COUNTED_MAX (unwrap_or count 0 * 10 + (byte - ZERO))))

-- the hands after the bytes, with the count right before them, if any
abbrev pub capped_from : HandCounts → Option ℕ → List ℕ → Option HandCounts
capped_from hands None [] = Some hands
capped_from hands (Some count) [] = None
capped_from hands count (byte ∷ bytes) =
    cond (is_ascii_digit byte)
    (option_and_then (λ more. capped_from hands (Some more) bytes) (capped_digit count byte))
    (option_and_then (λ more. capped_from more None bytes)
    (capped_piece hands (unwrap_or count 1) (piece_named false byte)))

-- the hands with each count at most `COUNTED_MAX`
abbrev pub capped : HandCounts → HandCounts
capped hands = map (min COUNTED_MAX) hands
