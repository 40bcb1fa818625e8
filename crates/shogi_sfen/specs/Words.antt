-- The words of a text: its maximal runs of bytes other than space and tab (USI and SFEN, the fields of a line).
use Rattle.std.specs.Borrow.{Bor}
use Rattle.std.specs.Prelude.{◌≡◌, ℕ, Option, Some, None, zero, suc, ◌==◌, ◌||◌, Bool, true, false, not, List, [], ◌∷◌, drop, filter}
use Rattle.std.specs.List.{slice_split, position_or_len}
use Rattle.shogi_sfen.specs.declared.byte.TheConstants.{SPACE, TAB}

-- the byte is a space or a tab
abbrev pub is_blank : ℕ → Bool
is_blank byte = byte == SPACE || byte == TAB

-- the byte belongs to a word
abbrev pub is_word_byte : ℕ → Bool
is_word_byte byte = not (is_blank byte)

-- the text is not empty
abbrev pub has_bytes : List ℕ → Bool
has_bytes [] = false
has_bytes (byte ∷ bytes) = true

-- the parts between blanks, without empty ones
unfoldable pub words : List ℕ → List (List ℕ)
words text = filter has_bytes (slice_split is_blank text)

-- the text from its first word on
abbrev pub from_word : List ℕ → List ℕ
from_word text = drop (position_or_len is_word_byte text) text

-- the text after its first word
unfoldable pub after_word : List ℕ → List ℕ
after_word text = drop (position_or_len is_blank (from_word text)) (from_word text)

-- the bytes end a word before them: there are none, or they begin with a blank
abbrev pub EndsWord : List ℕ → Type 0
EndsWord [] = Unit {0}
EndsWord (byte ∷ bytes) = is_blank byte ≡ true

-- the text after its first n words
abbrev pub rest_after : ℕ → List ℕ → List ℕ
rest_after zero text = text
rest_after (suc n) text = rest_after n (after_word text)

-- the next word was given and the text after it is left, or there is none and the whole text is left
abbrev pub GivesWord : List ℕ → Option (Bor (List ℕ)) → List ℕ → Type 0
GivesWord text None rest = (words text ≡ []) × (rest ≡ text)
GivesWord text (Some word) rest = (words text ≡ word.now ∷ words rest) × (rest ≡ after_word text)
