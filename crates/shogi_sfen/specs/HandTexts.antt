-- Hands as text (SFEN, pieces in hand): a hyphen, or counts and letters in any order, which add up.
use Rattle.std.specs.Prelude.{ℕ, ◌+◌, ◌-◌, ◌*◌, ◌==◌, ◌&&◌, false, List, [], ◌∷◌, Option, Some, None, cond, is_none, codes, replicate, slice_set, unwrap_or}
use Rattle.std.specs.Option.{option_and_then}
use Rattle.shogi_sfen.specs.declared.byte.TheConstants.{ZERO}
use Rattle.shogi_sfen.specs.Words.{has_bytes}
use Rattle.std.specs.Char.{is_ascii_digit}
use Rattle.std.specs.Str.{bytes_eq}
use Rattle.shogi_core.specs.declared.piece.Color.{Color}
use Rattle.shogi_core.specs.declared.piece.Kind.{Kind}
use Rattle.shogi_core.specs.declared.piece.Piece.{Piece}
use Rattle.shogi_core.specs.Pieces.{kind_of}
use Rattle.shogi_core.specs.Position.{HandCounts, count_in_hand, place_of}
use Rattle.shogi_sfen.specs.Letters.{piece_named}

-- `count` more of the kind in hand
abbrev pub with_kind : HandCounts → ℕ → Color → Option Kind → Option HandCounts
with_kind hands count color None = None
with_kind hands count color (Some kind) =
    Some (slice_set hands (place_of color kind) (count_in_hand hands color kind + count))

-- `count` more of a piece that can be held
abbrev pub with_piece : HandCounts → ℕ → Option Piece → Option HandCounts
with_piece hands count None = None
with_piece hands count (Some piece) = with_kind hands count piece.color (kind_of piece.role)

-- the count with a digit appended, if its first digit is not 0
abbrev pub with_digit : Option ℕ → ℕ → Option ℕ
with_digit count byte =
    cond (is_none count && byte == ZERO) None (Some (unwrap_or count 0 * 10 + (byte - ZERO)))

-- the hands after the bytes, with the count right before them, if any
abbrev pub hands_from : HandCounts → Option ℕ → List ℕ → Option HandCounts
hands_from hands None [] = Some hands
hands_from hands (Some count) [] = None
hands_from hands count (byte ∷ bytes) =
    cond (is_ascii_digit byte)
    (option_and_then (λ more. hands_from hands (Some more) bytes) (with_digit count byte))
    (option_and_then (λ more. hands_from more None bytes)
    (with_piece hands (unwrap_or count 1) (piece_named false byte)))

-- two empty hands
abbrev pub no_hands : HandCounts
no_hands = replicate 14 0

-- the hands that a word writes, with counts of any size
unfoldable pub hands_of : List ℕ → Option HandCounts
hands_of word =
    cond (bytes_eq word (codes "-")) (Some no_hands)
    (cond (has_bytes word) (hands_from no_hands None word) None)
