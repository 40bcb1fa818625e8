-- How positions are spelled (SFEN): all the texts of a rank, of a board and of hands, and the three words that spell a position. It says what the texts of a meaning are, and not how a text is read.
use Rattle.std.specs.Prelude.{◌≡◌, ◌≢◌, ℕ, ◌<◌, ◌==◌, ◌&&◌, Bool, true, List, [], ◌∷◌, ◌++◌, Some, cond, length, get_or, slice_get}
use Rattle.std.specs.List.{flat_map, sum_by, list_all, join_with_byte, AllByRecursion}
use Rattle.std.specs.Option.{IsSomeAnd}
use Rattle.std.specs.Char.{is_ascii_digit}
use Rattle.shogi_core.specs.declared.piece.Color.{Color}
use Rattle.shogi_core.specs.declared.piece.Kind.{Kind}
use Rattle.shogi_core.specs.declared.validity.PositionFault.{PositionFault}
use Rattle.shogi_core.specs.Movement.{Cells}
use Rattle.shogi_core.specs.Pieces.{is_same_color, kind_number}
use Rattle.shogi_core.specs.Position.{Shogi, HandCounts, count_in_hand}
use Rattle.shogi_core.specs.Validity.{fault_of, IsValid}
use Rattle.shogi_sfen.specs.declared.byte.TheConstants.{ZERO, SLASH}
use Rattle.shogi_sfen.specs.Words.{EndsWord, words}
use Rattle.shogi_sfen.specs.Numbers.{number_written}
use Rattle.shogi_sfen.specs.declared.board_text.RankItem.{RankItem}
use Rattle.shogi_sfen.specs.declared.board_text.TheConstants.{RANK_SQUARES, BOARD_SQUARES}
use Rattle.shogi_sfen.specs.Letters.{letter_of, cased_for}
use Rattle.shogi_sfen.specs.Items.{RunFits, item_cells, item_text}
use Rattle.shogi_sfen.specs.Written.{rank_cells, side_text, or_hyphen}

-- a rank is spelled by items, such as `3` or `+P`, with its nine cells, from file 9 to file 1; empty squares may be cut into any runs
pub record SpellsRank (text : List ℕ) (cells : Cells) : Type 0 where
  pub items : List RankItem
  pub each : AllByRecursion RunFits items
  pub cells_said : flat_map item_cells items ≡ cells
  pub nine : length cells ≡ RANK_SQUARES
  pub spelled : flat_map item_text items ≡ text

-- a board is spelled by the texts of its nine ranks, from a to i, joined by slashes
pub record SpellsBoard (text : List ℕ) (cells : Cells) : Type 0 where
  pub cells_fit : length cells ≡ BOARD_SQUARES
  pub ranks : List (List ℕ)
  pub nine : length ranks ≡ 9
  pub each : (rank : ℕ) → rank < 9 → SpellsRank (get_or ranks rank []) (rank_cells cells rank)
  pub spelled : join_with_byte SLASH ranks ≡ text

-- an item of hands: the digits of a count, possibly none, and a kind that a side holds
pub record HandItem : Type 0 where
  pub digits : List ℕ
  pub color : Color
  pub kind : Kind

-- the digits are none, or do not begin with 0
abbrev pub AreCountDigits : List ℕ → Type 0
AreCountDigits [] = Unit {0}
AreCountDigits (first ∷ others) = (list_all is_ascii_digit (first ∷ others) ≡ true) × (first ≢ ZERO)

-- the count that digits write: their number, or one if there are none
abbrev pub count_written : List ℕ → ℕ
count_written [] = 1
count_written (first ∷ others) = number_written (first ∷ others)

-- the text of an item of hands: its digits, then the letter of its kind in its side's case
abbrev pub hand_item_text : HandItem → List ℕ
hand_item_text item = item.digits ++ cased_for item.color (letter_of item.kind) ∷ []

-- the item is of this side and kind
abbrev pub is_hand_item_of : Color → Kind → HandItem → Bool
is_hand_item_of color kind item =
    is_same_color item.color color && kind_number item.kind == kind_number kind

-- the count of a side and kind that an item adds
abbrev pub count_given : Color → Kind → HandItem → ℕ
count_given color kind item = cond (is_hand_item_of color kind item) (count_written item.digits) 0

-- hands are spelled by items in any order, whose counts add up to the fourteen counts, or by a hyphen if empty
pub record SpellsHands (text : List ℕ) (hands : HandCounts) : Type 0 where
  pub places : length hands ≡ 14
  pub items : List HandItem
  pub each : AllByRecursion (λ item. AreCountDigits item.digits) items
  pub sums : (color : Color) (kind : Kind)
      → count_in_hand hands color kind ≡ sum_by (count_given color kind) items
  pub spelled : or_hyphen (flat_map hand_item_text items) ≡ text

-- a position is spelled by three first words, for board, side to move and hands, whatever follows
pub record Spells (text : List ℕ) (position : Shogi) : Type 0 where
  pub board : IsSomeAnd (slice_get (words text) 0) (λ word. SpellsBoard word position.cells)
  pub side : IsSomeAnd (slice_get (words text) 1) (λ word. word ≡ side_text position.side)
  pub hands : IsSomeAnd (slice_get (words text) 2) (λ word. SpellsHands word position.hands)

-- the text spells the position, which is valid
abbrev pub SpellsValid : List ℕ → Shogi → Type 0
SpellsValid text position = Spells text position × IsValid position

-- the text spells a position with the fault
abbrev pub SpellsInvalid : List ℕ → PositionFault → Type 0
SpellsInvalid text fault =
    (position : Shogi) × Spells text position × (fault_of position ≡ Some fault)

-- the text spells the position, whatever follows its last word
abbrev pub SpellsAtStart : List ℕ → Shogi → Type 0
SpellsAtStart text position = (tail : List ℕ) → EndsWord tail → Spells (text ++ tail) position

-- the first word spells a board
abbrev pub HasBoard : List ℕ → Type 0
HasBoard text =
    IsSomeAnd (slice_get (words text) 0) (λ word. (cells : Cells) × SpellsBoard word cells)

-- the second word spells a side
abbrev pub HasSide : List ℕ → Type 0
HasSide text =
    IsSomeAnd (slice_get (words text) 1) (λ word. (side : Color) × (word ≡ side_text side))

-- the third word spells hands
abbrev pub HasHands : List ℕ → Type 0
HasHands text =
    IsSomeAnd (slice_get (words text) 2) (λ word. (hands : HandCounts) × SpellsHands word hands)

-- the first word is missing or spells no board
abbrev pub LacksBoard : List ℕ → Type 0
LacksBoard text = HasBoard text → ⊥

-- the first word spells a board, and the second is missing or spells no side
abbrev pub LacksSide : List ℕ → Type 0
LacksSide text = HasBoard text × (HasSide text → ⊥)

-- the first two words spell a board and a side, and the third is missing or spells no hands
abbrev pub LacksHands : List ℕ → Type 0
LacksHands text = HasBoard text × HasSide text × (HasHands text → ⊥)
