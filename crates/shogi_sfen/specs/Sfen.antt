-- A position as text (SFEN): a board, a side, hands, and a number that has no effect and may be absent.
use Rattle.std.specs.Prelude.{◌≡◌, ℕ, ◌-◌, false, List, ◌++◌, Option, Some, None, Result, Ok, Err, cond, codes, length, slice_get}
use Rattle.std.specs.Option.{option_and_then, option_map_or}
use Rattle.std.specs.Str.{bytes_eq}
use Rattle.shogi_core.specs.declared.piece.Color.{Color}
use Rattle.shogi_core.specs.declared.piece.Color.TheVariants.{Black, White}
use Rattle.shogi_core.specs.declared.validity.PositionFault.{PositionFault}
use Rattle.shogi_core.specs.Movement.{Cells}
use Rattle.shogi_core.specs.Position.{Shogi, HandCounts}
use Rattle.shogi_core.specs.Validity.{fault_of, number_of_fault}
use Rattle.shogi_sfen.specs.Words.{EndsWord, words, after_word, rest_after}
use Rattle.shogi_sfen.specs.Numbers.{is_number}
use Rattle.shogi_sfen.specs.BoardTexts.{board_of}
use Rattle.shogi_sfen.specs.HandTexts.{hands_of}
use Rattle.shogi_sfen.specs.declared.position.SfenFault.{SfenFault}
use Rattle.shogi_sfen.specs.declared.position.SfenFault.TheVariants.{BadBoard, BadSide, BadHand, Invalid}

-- the side to move that a word writes
abbrev pub side_of : List ℕ → Option Color
side_of word =
    cond (bytes_eq word (codes "b")) (Some Black)
    (cond (bytes_eq word (codes "w")) (Some White) None)

-- the position and the index after it, or its fault
abbrev pub judged : Option PositionFault → Shogi → ℕ → Result (Shogi × ℕ) SfenFault
judged None position end = Ok (position, end)
judged (Some fault) position end = Err (Invalid fault)

-- the position of the parts, or the first fault: of the text, then of the position
abbrev pub position_of_parts : Option Cells → Option Color → Option HandCounts → ℕ
    → Result (Shogi × ℕ) SfenFault
position_of_parts None side hands end = Err BadBoard
position_of_parts (Some cells) None hands end = Err BadSide
position_of_parts (Some cells) (Some side) None end = Err BadHand
position_of_parts (Some cells) (Some side) (Some hands) end =
    let position : Shogi = record { cells = cells; hands = hands; side = side } in
    judged (fault_of position) position end

-- the text after its first word if that is a number, else all of it
abbrev pub past_number : List ℕ → List ℕ
past_number text =
    cond (option_map_or is_number (slice_get (words text) 0) false) (after_word text) text

-- the index right after the last word read: the third, or the fourth if it is a number
abbrev pub end_of : List ℕ → ℕ
end_of text = length text - length (past_number (rest_after 3 text))

-- the position at the start of a text and the index after it, or its first fault
unfoldable pub position_at : List ℕ → Result (Shogi × ℕ) SfenFault
position_at text =
    let ws = words text in
    position_of_parts (option_and_then board_of (slice_get ws 0))
    (option_and_then side_of (slice_get ws 1)) (option_and_then hands_of (slice_get ws 2))
    (end_of text)

-- the text is read as the position up to its end, whatever follows its last word
abbrev pub IsReadAs : List ℕ → Shogi → Type 0
IsReadAs text position = (tail : List ℕ) → EndsWord tail
    → position_at (text ++ tail) ≡ Ok (position, end_of (text ++ tail))

-- the number that the host gives for a fault (own choice)
abbrev pub number_of_sfen_fault : SfenFault → ℕ
number_of_sfen_fault BadBoard = 1
number_of_sfen_fault BadSide = 2
number_of_sfen_fault BadHand = 3
number_of_sfen_fault (Invalid fault) = number_of_fault fault
