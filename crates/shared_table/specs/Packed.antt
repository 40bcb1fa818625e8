-- The words of a key (own choice): ten numbers for the squares, the hands, the side to move, the evaluation and the depth.
use Rattle.std.specs.Prelude.{◌==◌, cond, ℕ, ◌+◌, ◌*◌, ◌^◌, ◌/◌, ◌%◌, ◌<◌, ◌≡◌, zero, suc, List, [], ◌∷◌, ◌++◌, map, take, slice_index, slice_index_or, Option, None}
use Rattle.std.specs.Hash as fed
use Rattle.shogi_core.specs.declared.piece.Color.{Color}
use Rattle.shogi_core.specs.declared.piece.Color.TheVariants.{Black, White}
use Rattle.shogi_core.specs.declared.piece.Kind.TheVariants.{Pawn}
use Rattle.shogi_core.specs.declared.piece.Piece.{Piece}
use Rattle.shogi_core.specs.Movement.{Cells}
use Rattle.shogi_core.specs.Pieces.{all_kinds}
use Rattle.shogi_core.specs.Position.{Shogi, HandCounts, count_in_hand, place_of}
use Rattle.shogi_core.specs.Steps.{color_number}
use Rattle.shogi_core.specs.Validity.{IsValid}
use Rattle.shogi_core.specs.Words.{board_words, number_in_base_32}
use Rattle.shogi_eval.specs.declared.eval.Eval.{Eval}
use Rattle.shogi_eval.specs.declared.eval.Eval.TheVariants.{Plain, Hand, Exchange}
use Rattle.shared_table.specs.declared.packing.TheConstants.{CELLS}
use Rattle.shared_table.specs.Keys.{Key, eval_number}

-- the counts of the side's hand, by kind
abbrev pub counts_of : HandCounts → Color → List ℕ
counts_of hands color = map (count_in_hand hands color) all_kinds

-- the words: seven of the board; the counts of Black's and of White's hand, each from 0 to 18 and hence a digit; side, evaluation and depth
unfoldable pub words_of : Key → List ℕ
words_of key =
    board_words key.position.cells
    ++ number_in_base_32 (counts_of key.position.hands Black)
    ∷ number_in_base_32 (counts_of key.position.hands White)
    ∷ (color_number key.position.side + 2 * (eval_number key.eval + 3 * key.depth))
    ∷ []

-- the lowest `count` digits of a number in base 32
unfoldable pub digits_in_base_32 : ℕ → ℕ → List ℕ
digits_in_base_32 zero number = []
digits_in_base_32 (suc count) number = (number % 32) ∷ digits_in_base_32 count (number / 32)

-- the side's counts are those of the word, and the counts before them stay
abbrev pub SetsCounts : HandCounts → Color → ℕ → HandCounts → Type 0
SetsCounts old color word new =
    take (place_of color Pawn + 7) new
    ≡ take (place_of color Pawn) old ++ digits_in_base_32 7 word

-- the content of a square for the number; none for a number past the list
abbrev pub cell_of_number : ℕ → Option Piece
cell_of_number number = slice_index_or CELLS number None

-- the squares packed in a word
abbrev pub cells_in : ℕ → ℕ → Cells
cells_in count word = map cell_of_number (digits_in_base_32 count word)

-- the side of a number
abbrev pub side_of_number : ℕ → Color
side_of_number zero = Black
side_of_number (suc n) = White

-- the position packed in the words
unfoldable pub position_in : List ℕ → Shogi
position_in words = record {
  cells = cells_in 12 (slice_index words 0) ++ (cells_in 12 (slice_index words 1)
      ++ (cells_in 12 (slice_index words 2) ++ (cells_in 12 (slice_index words 3)
      ++ (cells_in 12 (slice_index words 4) ++ (cells_in 12 (slice_index words 5)
      ++ cells_in 9 (slice_index words 6))))));
  hands = digits_in_base_32 7 (slice_index words 7) ++ digits_in_base_32 7 (slice_index words 8);
  side = side_of_number (slice_index words 9 % 2);
}

-- the evaluation of a number
abbrev pub eval_of_number : ℕ → Eval
eval_of_number n = cond (n == 0) Plain (cond (n == 1) Hand Exchange)

-- the evaluation packed in the words
abbrev pub eval_in : List ℕ → Eval
eval_in words = eval_of_number (slice_index words 9 / 2 % 3)

-- the depth packed in the words
abbrev pub depth_in : List ℕ → ℕ
depth_in words = slice_index words 9 / 6

-- the key packed in the words
abbrev pub key_in : List ℕ → Key
key_in words = record { position = position_in words; eval = eval_in words; depth = depth_in words }

-- the words are those of a valid position, an evaluation and a depth
pub record AreWords (words : List ℕ) : Type 0 where
  pub valid : IsValid (position_in words)
  pub same : words_of (key_in words) ≡ words
  pub depth_fits : depth_in words < 256

-- two words from `place` on, as one number of 128 bits
abbrev pub double_word_at : List ℕ → ℕ → ℕ
double_word_at words place = slice_index words place + 2 ^ 64 * slice_index words (place + 1)

-- the bytes that a hasher is fed: the words, two at a time
abbrev pub writes_of : List ℕ → List (List ℕ)
writes_of words =
    fed.u128 (double_word_at words 0) ++ (fed.u128 (double_word_at words 2)
    ++ (fed.u128 (double_word_at words 4) ++ (fed.u128 (double_word_at words 6)
    ++ fed.u128 (double_word_at words 8))))
