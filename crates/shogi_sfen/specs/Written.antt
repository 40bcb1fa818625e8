-- The one written text of a position (SFEN): runs of empty squares as long as can be, no count of 1, and no number.
use Rattle.std.specs.Prelude.{ℕ, ◌+◌, ◌-◌, ◌*◌, ◌/◌, ◌%◌, ◌==◌, List, [], ◌∷◌, ◌++◌, Some, None, cond, nat_lt, map, codes}
use Rattle.std.specs.List.{flat_map, range_with_len}
use Rattle.shogi_core.specs.declared.piece.Color.{Color}
use Rattle.shogi_core.specs.declared.piece.Color.TheVariants.{Black, White}
use Rattle.shogi_core.specs.declared.piece.Kind.{Kind}
use Rattle.shogi_core.specs.declared.piece.Kind.TheVariants as kinds
use Rattle.shogi_core.specs.Movement.{Cells, piece_at}
use Rattle.shogi_core.specs.Position.{Shogi, HandCounts, count_in_hand}
use Rattle.shogi_sfen.specs.declared.byte.TheConstants.{ZERO, SPACE, SLASH}
use Rattle.shogi_sfen.specs.Letters.{letter_of, cased_for, piece_text}

-- a run of empty squares as a digit; nothing for 0
abbrev pub run_text : ℕ → List ℕ
run_text run = cond (run == 0) [] ((run + ZERO) ∷ [])

-- the cells of a rank, after a run of empty squares
abbrev pub cells_text : ℕ → Cells → List ℕ
cells_text run [] = run_text run
cells_text run (None ∷ cells) = cells_text (run + 1) cells
cells_text run (Some piece ∷ cells) = run_text run ++ (piece_text piece ++ cells_text 0 cells)

-- the nine cells of a rank, counted from 0, from file 9 to file 1
abbrev pub rank_cells : Cells → ℕ → Cells
rank_cells cells rank = map (λ i. piece_at cells ((8 - i) * 9 + rank)) (range_with_len 0 9)

-- a rank, after a slash unless it is the first
abbrev pub rank_text : Cells → ℕ → List ℕ
rank_text cells rank = cond (rank == 0) [] (SLASH ∷ []) ++ cells_text 0 (rank_cells cells rank)

-- the nine ranks from a to i
unfoldable pub board_text : Cells → List ℕ
board_text cells = flat_map (rank_text cells) (range_with_len 0 9)

-- the side to move
abbrev pub side_text : Color → List ℕ
side_text Black = codes "b"
side_text White = codes "w"

-- the digits of a count from 2 to 99; nothing below 2
abbrev pub count_digits : ℕ → List ℕ
count_digits count =
    cond (nat_lt count 2) []
    (cond (nat_lt count 10) ((count + ZERO) ∷ [])
    ((count / 10 + ZERO) ∷ (count % 10 + ZERO) ∷ []))

-- a count and the letter of its kind; nothing for 0
abbrev pub held_text : Color → Kind → ℕ → List ℕ
held_text color kind count =
    cond (count == 0) [] (count_digits count ++ cased_for color (letter_of kind) ∷ [])

-- the kinds in the order of a text: R B G S N L P
abbrev pub kinds_in_text : List Kind
kinds_in_text =
    kinds.Rook ∷ kinds.Bishop ∷ kinds.Gold ∷ kinds.Silver ∷ kinds.Knight ∷ kinds.Lance ∷ kinds.Pawn
    ∷ []

-- the hand of one side
abbrev pub side_held_text : HandCounts → Color → List ℕ
side_held_text hands color =
    flat_map (λ kind. held_text color kind (count_in_hand hands color kind)) kinds_in_text

-- the text, or a hyphen if it is empty
abbrev pub or_hyphen : List ℕ → List ℕ
or_hyphen [] = codes "-"
or_hyphen (byte ∷ bytes) = byte ∷ bytes

-- both hands, Black's first, or a hyphen
unfoldable pub hands_text : HandCounts → List ℕ
hands_text hands = or_hyphen (side_held_text hands Black ++ side_held_text hands White)

-- the one text written: board, side and hands, with a space between
unfoldable pub position_text : Shogi → List ℕ
position_text position =
    board_text position.cells
    ++ (SPACE ∷ (side_text position.side ++ (SPACE ∷ hands_text position.hands)))
