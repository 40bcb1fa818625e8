-- The words of a board, computed and updated.
use Rattle.std.proofs.Common.{◌≡◌, ◌∙◌, ◌≤◌, ◌<◌, ◌+◌, ◌-◌, ◌*◌, ◌/◌, ◌%◌, ◌^◌, ℕ, zero, suc, List, [], ◌∷◌, Option, Some, None, refl, sym, ap, arith, get_or, length, map, drop, set, slice_index}
use Rattle.std.specs.List.{slice_range}
use Rattle.std.proofs.Math.ListN.{get_or-map}
use Rattle.std.proofs.Math.Seq.{drop-length, take-set-lt}
use Rattle.std.proofs.Math.Nat.{pow-le-pow_right, pow-suc}
use Rattle.std.proofs.Math.Pow.{pow_mono}
use Rattle.std.proofs.lemmas.Nat.{shl_below, shl_whole}
use Rattle.std.proofs.lemmas.List.{drop_more, drop-set-add, drop-set-lt, get_or-drop, get_or-take, length-drop, length-map, length-take-le, map-set, take-set-le}
use Rattle.shogi_core.specs.declared.piece.Color.{Color}
use Rattle.shogi_core.specs.declared.piece.Color.TheVariants.{Black, White}
use Rattle.shogi_core.specs.declared.piece.Piece.{Piece}
use Rattle.shogi_core.specs.declared.piece.Role.{Role}
use Rattle.shogi_core.specs.declared.piece.Role.TheVariants as role
use Rattle.shogi_core.specs.Movement.{Cells, piece_at}
use Rattle.shogi_core.specs.Same.{role_number}
use Rattle.shogi_core.specs.Words.{board_words, cell_number, cells_word, number_in_base_32, piece_number}

-- each number is below 32
abbrev pub AreDigits : List ℕ → Type 0
AreDigits [] = Unit {0}
AreDigits (d ∷ ds) = (d < 32) × AreDigits ds

role_fits : (r : Role) → role_number r < 14
role_fits role.King = omega arith
role_fits _ = omega arith

pub cell_fits : (cell : Option Piece) → cell_number cell < 32
cell_fits None = omega arith
cell_fits (Some piece) = go piece.color
  where
    go : (color : Color) → piece_number color piece.role < 32
    go Black = omega (arith, role_fits piece.role)
    go White = omega (arith, role_fits piece.role)

-- n digits are below 32 to the n
number_fits : (ds : List ℕ) → AreDigits ds → number_in_base_32 ds < 32 ^ length ds
unfolding number_in_base_32
number_fits [] fits = omega arith
number_fits (d ∷ ds) fits =
    let rest = number_fits ds fits.1 in
    rw (pow-suc 32 (length ds)) (omega (arith, rest, fits.0))

pub cells_are_digits : (cells : Cells) → AreDigits (map cell_number cells)
cells_are_digits [] = tt
cells_are_digits (cell ∷ cells) = (cell_fits cell, cells_are_digits cells)

-- a word is below 32 to the number of its cells
word_below : (cells : Cells) (most : ℕ) → length cells ≤ most → number_in_base_32 (map cell_number cells) < 32 ^ most
word_below cells most few =
    let fits = number_fits (map cell_number cells) (cells_are_digits cells) in
    let below : number_in_base_32 (map cell_number cells) < 32 ^ length cells = rw (length-map cells cell_number) at fits in
    let more : 32 ^ length cells ≤ 32 ^ most = pow-le-pow_right {n = 32} (omega arith) {i = length cells} {j = most} few in
    omega (arith, below, more)

-- the word of no cells is 0
pub word_start : (cells : Cells) → 0 ≡ number_in_base_32 (map cell_number (drop (length cells) cells))
unfolding number_in_base_32
word_start cells = rw (drop-length cells) refl

-- a word with one more cell in front
pub word_step : (cells : Cells) (at word number : ℕ) → at < length cells → word ≡ number_in_base_32 (map cell_number (drop (at + 1) cells))
    → number ≡ cell_number (get_or cells at None) → 32 * word + number ≡ number_in_base_32 (map cell_number (drop at cells))
unfolding number_in_base_32
word_step cells at word number below rest is = rw (drop_more cells at None below, rest, is) (omega arith)

-- a word has room for the next cell
pub word_room : (cells : Cells) (at word number : ℕ) → 0 < at → at ≤ length cells → length cells ≤ 12 → number < 32
    → word ≡ number_in_base_32 (map cell_number (drop at cells)) → 32 * word + number < 2 ^ 64
word_room cells at word number some below few digit is =
    let fits = word_below (drop at cells) 11 (omega (arith, length-drop at cells)) in
    omega (arith, fits, is)

-- a number after one of its digits is changed
number_set : (ds : List ℕ) (k d : ℕ) → k < length ds
    → number_in_base_32 (set ds k d) + slice_index ds k * 32 ^ k ≡ number_in_base_32 ds + d * 32 ^ k
unfolding number_in_base_32
number_set [] k d below = absurd (omega arith)
number_set (e ∷ ds) zero d below = omega arith
number_set (e ∷ ds) (suc k) d below =
    let rest = number_set ds k d (omega arith) in
    rw (pow-suc 32 k) (omega (arith, rest))

-- a digit is contained in its number
number_has : (ds : List ℕ) (k : ℕ) → k < length ds → slice_index ds k * 32 ^ k ≤ number_in_base_32 ds
unfolding number_in_base_32
number_has [] k below = absurd (omega arith)
number_has (e ∷ ds) zero below = omega arith
number_has (e ∷ ds) (suc k) below =
    let rest = number_has ds k (omega arith) in
    rw (pow-suc 32 k) (omega (arith, rest))

-- a shift by five bits is one place in base 32
pow_32 : (k : ℕ) → 2 ^ (5 * k) ≡ 32 ^ k
pow_32 zero = refl
pow_32 (suc k) =
    let five : 5 * suc k ≡ suc (suc (suc (suc (suc (5 * k))))) = omega arith in
    rw (five, pow-suc 2 (suc (suc (suc (suc (5 * k))))), pow-suc 2 (suc (suc (suc (5 * k)))), pow-suc 2 (suc (suc (5 * k))), pow-suc 2 (suc (5 * k)), pow-suc 2 (5 * k), pow-suc 32 k, pow_32 k)
    (omega arith)

-- shifting a cell's digit to its place loses no bits
pub out_whole : (word place out : ℕ) → word < 32 ^ 12 → out * 32 ^ place ≤ word → out * 2 ^ (5 * place) % 2 ^ 64 ≡ out * 32 ^ place
out_whole word place out fits there = rw (pow_32 place) (omega (arith, fits, there))

pub put_whole : (place put : ℕ) → place < 12 → put < 32 → put * 2 ^ (5 * place) % 2 ^ 64 ≡ put * 32 ^ place
put_whole place put few digit = shl_whole put 5 (5 * place) 64 digit (omega arith) ∙ ap (λ n. put * n) (pow_32 place)

-- a shifted digit is below 32 to the 12
pub put_fits : (place put : ℕ) → place < 12 → put < 32 → put * 32 ^ place < 32 ^ 12
put_fits place put few digit = rw (← pow_32 place) (omega (arith, shl_below put 5 (5 * place) digit, pow_mono {i = 5 + 5 * place} {j = 60} (omega arith)))

-- the digit of a square in its part
part_at : (cells : Cells) (from to s k : ℕ) → s ≡ from + k → s < to → to ≤ length cells → slice_index (map cell_number (slice_range cells from to)) k ≡ cell_number (piece_at cells s)
part_at cells from to s k is below fits =
    get_or-map cell_number (slice_range cells from to) k None
    ∙ ap cell_number (get_or-take (to - from) (drop from cells) k None (omega arith) ∙ (get_or-drop from cells k None ∙ ap (λ n. get_or cells n None) (sym is)))

part_length : (cells : Cells) (from to : ℕ) → from ≤ to → to ≤ length cells → length (map cell_number (slice_range cells from to)) ≡ to - from
part_length cells from to order fits = length-map (slice_range cells from to) cell_number ∙ length-take-le (to - from) (drop from cells) (omega (arith, length-drop from cells))

-- a square's digit is contained in the word of its part
part_has : (cells : Cells) (from to s k : ℕ) → s ≡ from + k → s < to → to ≤ length cells → cell_number (piece_at cells s) * 32 ^ k ≤ cells_word cells from to
part_has cells from to s k is below fits =
    let len = part_length cells from to (omega arith) fits in
    rw (part_at cells from to s k is below fits) at (number_has (map cell_number (slice_range cells from to)) k (omega (arith, len)))

-- a part's word after a write in it
part_set : (cells : Cells) (from to s k : ℕ) (piece : Option Piece) → s ≡ from + k → s < to
    → map cell_number (slice_range (set cells s piece) from to) ≡ set (map cell_number (slice_range cells from to)) k (cell_number piece)
part_set cells from to s k piece is below =
    rw (is, drop-set-add from cells k piece, take-set-lt (to - from) (drop from cells) k piece (omega arith)) (map-set cell_number (slice_range cells from to) k piece)

part_put : (cells : Cells) (from to s k : ℕ) (piece : Option Piece) → s ≡ from + k → s < to → to ≤ length cells
    → cells_word (set cells s piece) from to + cell_number (piece_at cells s) * 32 ^ k ≡ cells_word cells from to + cell_number piece * 32 ^ k
part_put cells from to s k piece is below fits =
    let len = part_length cells from to (omega arith) fits in
    let digits = number_set (map cell_number (slice_range cells from to)) k (cell_number piece) (omega (arith, len)) in
    rw (part_set cells from to s k piece is below) (rw (part_at cells from to s k is below fits) at digits)

-- a write outside a part leaves its word
part_after : (cells : Cells) (from to s : ℕ) (piece : Option Piece) → s < from → cells_word (set cells s piece) from to ≡ cells_word cells from to
part_after cells from to s piece before = rw (drop-set-lt from cells s piece before) refl

part_before : (cells : Cells) (from to s : ℕ) (piece : Option Piece) → from ≤ to → to ≤ s → cells_word (set cells s piece) from to ≡ cells_word cells from to
part_before cells from to s piece order past =
    let is : s ≡ from + (s - from) = omega arith in
    let dropped : drop from (set cells s piece) ≡ set (drop from cells) (s - from) piece = ap (λ n. drop from (set cells n piece)) is ∙ drop-set-add from cells (s - from) piece in
    rw (dropped, take-set-le (to - from) (drop from cells) (s - from) piece (omega arith)) refl

-- the word of a part is below 32 to the 12
part_fits : (cells : Cells) (from to : ℕ) → from ≤ to → to ≤ length cells → to ≤ from + 12 → cells_word cells from to < 32 ^ 12
part_fits cells from to order fits few =
    word_below (slice_range cells from to) 12 (omega (arith, length-take-le (to - from) (drop from cells) (omega (arith, length-drop from cells))))

module _ (cells : Cells) (s : ℕ) (len : length cells ≡ 81) (low : s < 81) where
  fits_at : (j : ℕ) → slice_index (board_words cells) j < 32 ^ 12
  fits_at zero = part_fits cells 0 12 (omega arith) (omega arith) (omega arith)
  fits_at (suc zero) = part_fits cells 12 24 (omega arith) (omega arith) (omega arith)
  fits_at (suc (suc zero)) = part_fits cells 24 36 (omega arith) (omega arith) (omega arith)
  fits_at (suc (suc (suc zero))) = part_fits cells 36 48 (omega arith) (omega arith) (omega arith)
  fits_at (suc (suc (suc (suc zero)))) = part_fits cells 48 60 (omega arith) (omega arith) (omega arith)
  fits_at (suc (suc (suc (suc (suc zero))))) = part_fits cells 60 72 (omega arith) (omega arith) (omega arith)
  fits_at (suc (suc (suc (suc (suc (suc zero)))))) = part_fits cells 72 81 (omega arith) (omega arith) (omega arith)
  fits_at (suc (suc (suc (suc (suc (suc (suc j))))))) = omega arith

  -- each word is below 32 to the 12
  pub words_fit : slice_index (board_words cells) (s / 12) < 32 ^ 12
  words_fit = fits_at (s / 12)

  has_at : (j : ℕ) → s / 12 ≡ j → cell_number (piece_at cells s) * 32 ^ (s % 12) ≤ slice_index (board_words cells) j
  has_at zero e = part_has cells 0 12 s (s % 12) (omega arith) (omega arith) (omega arith)
  has_at (suc zero) e = part_has cells 12 24 s (s % 12) (omega arith) (omega arith) (omega arith)
  has_at (suc (suc zero)) e = part_has cells 24 36 s (s % 12) (omega arith) (omega arith) (omega arith)
  has_at (suc (suc (suc zero))) e = part_has cells 36 48 s (s % 12) (omega arith) (omega arith) (omega arith)
  has_at (suc (suc (suc (suc zero)))) e = part_has cells 48 60 s (s % 12) (omega arith) (omega arith) (omega arith)
  has_at (suc (suc (suc (suc (suc zero))))) e = part_has cells 60 72 s (s % 12) (omega arith) (omega arith) (omega arith)
  has_at (suc (suc (suc (suc (suc (suc zero)))))) e = part_has cells 72 81 s (s % 12) (omega arith) (omega arith) (omega arith)
  has_at (suc (suc (suc (suc (suc (suc (suc j))))))) e = absurd (omega arith)

  -- a square's digit is contained in its word
  pub words_have : cell_number (piece_at cells s) * 32 ^ (s % 12) ≤ slice_index (board_words cells) (s / 12)
  words_have = has_at (s / 12) refl

same_words : {a b c d e f g k l m n o p q : ℕ} → a ≡ k → b ≡ l → c ≡ m → d ≡ n → e ≡ o → f ≡ p → g ≡ q
    → a ∷ b ∷ c ∷ d ∷ e ∷ f ∷ g ∷ [] ≡ k ∷ l ∷ m ∷ n ∷ o ∷ p ∷ q ∷ []
same_words ea eb ec ed ee ef eg = rw (ea, eb, ec, ed, ee, ef, eg) refl

module _ (cells : Cells) (s : ℕ) (piece : Option Piece) (word : ℕ) (len : length cells ≡ 81) (low : s < 81) where
  abbrev Exchanged : ℕ → Type 0
  Exchanged before = word + cell_number (piece_at cells s) * 32 ^ (s % 12) ≡ before + cell_number piece * 32 ^ (s % 12)

  -- the changed word is that of the part with the square
  new : (from to : ℕ) → s ≡ from + s % 12 → s < to → to ≤ 81 → Exchanged (cells_word cells from to) → word ≡ cells_word (set cells s piece) from to
  new from to is below fits exchanged = omega (arith, exchanged, part_put cells from to s (s % 12) piece is below (omega arith))

  -- the words of the other parts stay
  after : (from to : ℕ) → s < from → cells_word cells from to ≡ cells_word (set cells s piece) from to
  after from to h = sym (part_after cells from to s piece h)

  before : (from to : ℕ) → from ≤ to → to ≤ s → cells_word cells from to ≡ cells_word (set cells s piece) from to
  before from to order h = sym (part_before cells from to s piece order h)

  put_at : (j : ℕ) → s / 12 ≡ j → Exchanged (slice_index (board_words cells) j) → set (board_words cells) j word ≡ board_words (set cells s piece)
  put_at zero e h =
      same_words (new 0 12 (omega arith) (omega arith) (omega arith) h) (after 12 24 (omega arith)) (after 24 36 (omega arith)) (after 36 48 (omega arith))
      (after 48 60 (omega arith)) (after 60 72 (omega arith)) (after 72 81 (omega arith))
  put_at (suc zero) e h =
      same_words (before 0 12 (omega arith) (omega arith)) (new 12 24 (omega arith) (omega arith) (omega arith) h) (after 24 36 (omega arith)) (after 36 48 (omega arith))
      (after 48 60 (omega arith)) (after 60 72 (omega arith)) (after 72 81 (omega arith))
  put_at (suc (suc zero)) e h =
      same_words (before 0 12 (omega arith) (omega arith)) (before 12 24 (omega arith) (omega arith)) (new 24 36 (omega arith) (omega arith) (omega arith) h) (after 36 48 (omega arith))
      (after 48 60 (omega arith)) (after 60 72 (omega arith)) (after 72 81 (omega arith))
  put_at (suc (suc (suc zero))) e h =
      same_words (before 0 12 (omega arith) (omega arith)) (before 12 24 (omega arith) (omega arith)) (before 24 36 (omega arith) (omega arith)) (new 36 48 (omega arith) (omega arith) (omega arith) h)
      (after 48 60 (omega arith)) (after 60 72 (omega arith)) (after 72 81 (omega arith))
  put_at (suc (suc (suc (suc zero)))) e h =
      same_words (before 0 12 (omega arith) (omega arith)) (before 12 24 (omega arith) (omega arith)) (before 24 36 (omega arith) (omega arith)) (before 36 48 (omega arith) (omega arith))
      (new 48 60 (omega arith) (omega arith) (omega arith) h) (after 60 72 (omega arith)) (after 72 81 (omega arith))
  put_at (suc (suc (suc (suc (suc zero))))) e h =
      same_words (before 0 12 (omega arith) (omega arith)) (before 12 24 (omega arith) (omega arith)) (before 24 36 (omega arith) (omega arith)) (before 36 48 (omega arith) (omega arith))
      (before 48 60 (omega arith) (omega arith)) (new 60 72 (omega arith) (omega arith) (omega arith) h) (after 72 81 (omega arith))
  put_at (suc (suc (suc (suc (suc (suc zero)))))) e h =
      same_words (before 0 12 (omega arith) (omega arith)) (before 12 24 (omega arith) (omega arith)) (before 24 36 (omega arith) (omega arith)) (before 36 48 (omega arith) (omega arith))
      (before 48 60 (omega arith) (omega arith)) (before 60 72 (omega arith) (omega arith)) (new 72 81 (omega arith) (omega arith) (omega arith) h)
  put_at (suc (suc (suc (suc (suc (suc (suc j))))))) e h = absurd (omega arith)

  -- the words with one changed match the cells after the write
  pub words_put : Exchanged (slice_index (board_words cells) (s / 12)) → set (board_words cells) (s / 12) word ≡ board_words (set cells s piece)
  words_put = put_at (s / 12) refl
