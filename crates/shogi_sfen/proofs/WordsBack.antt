-- The words of a written position are read as its parts.
use Rattle.std.proofs.Common.{◌≡◌, ℕ, ◌+◌, ◌/◌, ◌%◌, ◌<◌, true, false, cond, refl, sym, ◌∙◌, ap, List, [], ◌∷◌, ◌++◌, get_or, append_assoc, append-nil, Option, Some, None}
use Rattle.std.specs.Prelude.{◌==◌, zero, suc, nat_lt, filter, codes, Ok, slice_get}
use Rattle.std.specs.List.{flat_map, range_with_len, slice_split, list_all, All}
use Rattle.std.specs.Option.{option_and_then}
use Rattle.std.proofs.lemmas.Bool.{cond-true, and_from, and_parts, not-true, cond_both}
use Rattle.std.proofs.lemmas.List.Splits.{slice_split_none, slice_split_at}
use Rattle.std.proofs.lemmas.List.Folds.{list_all-append}
use Rattle.std.proofs.lemmas.List.Sums.{AllPass-from_list_all}
use Rattle.shogi_core.specs.declared.piece.Color.{Color}
use Rattle.shogi_core.specs.declared.piece.Color.TheVariants.{Black, White}
use Rattle.shogi_core.specs.declared.piece.Kind.{Kind}
use Rattle.shogi_core.specs.declared.piece.Kind.TheVariants as kinds
use Rattle.shogi_core.specs.declared.validity.PositionFault.{PositionFault}
use Rattle.shogi_core.specs.Movement.{Cells}
use Rattle.shogi_core.specs.Position.{Shogi, HandCounts, count_in_hand}
use Rattle.shogi_core.specs.Validity.{IsValid}
use Rattle.shogi_sfen.specs.Words.{EndsWord, is_blank, is_word_byte, has_bytes, words}
use Rattle.shogi_sfen.specs.Letters.{letter_of, cased_for}
use Rattle.shogi_sfen.specs.BoardTexts.{board_of}
use Rattle.shogi_sfen.specs.HandTexts.{hands_of}
use Rattle.shogi_sfen.specs.Sfen.{side_of, judged, position_of_parts, position_at, end_of}
use Rattle.shogi_sfen.specs.Written.{cells_text, rank_cells, rank_text, board_text, count_digits, held_text, kinds_in_text, side_held_text, or_hyphen, hands_text, side_text, position_text}
use Rattle.shogi_sfen.proofs.WriteLaws.{few_held}
use Rattle.shogi_sfen.proofs.WrittenBack.{is_plain, plain_digit, plain_cells, board_of-board_text, hands_of-hands_text}

inner_plain : (text : List ℕ) → list_all is_plain text ≡ true → list_all is_word_byte text ≡ true
inner_plain [] e = refl
inner_plain (b ∷ bs) e =
    let parts = and_parts (is_plain b) (list_all is_plain bs) e in
    and_from (is_word_byte b) (list_all is_word_byte bs) ((and_parts _ (is_word_byte b) parts.0).1) (inner_plain bs parts.1)

inner_both : (xs ys : List ℕ) → list_all is_word_byte xs ≡ true → list_all is_word_byte ys ≡ true → list_all is_word_byte (xs ++ ys) ≡ true
inner_both xs ys e f = list_all-append is_word_byte xs ys ∙ and_from (list_all is_word_byte xs) (list_all is_word_byte ys) e f

inner_digit : (n : ℕ) → is_word_byte (n + 48) ≡ true
inner_digit n = (and_parts _ (is_word_byte (n + 48)) (plain_digit n)).1

inner_ranks : (cells : Cells) (n rank : ℕ) → list_all is_word_byte (flat_map (rank_text cells) (range_with_len rank n)) ≡ true
inner_ranks cells zero rank = refl
inner_ranks cells (suc n) rank =
    inner_both (rank_text cells rank) (flat_map (rank_text cells) (range_with_len (rank + 1) n))
    (inner_both (cond (rank == 0) [] (codes "/")) (cells_text 0 (rank_cells cells rank)) (cond_both (rank == 0) [] (codes "/") (λ (t : List ℕ). list_all is_word_byte t ≡ true) (λ e. refl) (λ e. refl)) (inner_plain (cells_text 0 (rank_cells cells rank)) (plain_cells (rank_cells cells rank) 0)))
    (inner_ranks cells n (rank + 1))

inner_count : (n : ℕ) → list_all is_word_byte (count_digits n) ≡ true
inner_count n =
    cond_both (nat_lt n 2) [] _ (λ (t : List ℕ). list_all is_word_byte t ≡ true) (λ e. refl)
    (λ e. cond_both (nat_lt n 10) ((n + 48) ∷ []) ((n / 10 + 48) ∷ (n % 10 + 48) ∷ []) (λ (t : List ℕ). list_all is_word_byte t ≡ true)
    (λ f. and_from (is_word_byte (n + 48)) true (inner_digit n) refl)
    (λ f. and_from (is_word_byte (n / 10 + 48)) _ (inner_digit (n / 10)) (and_from (is_word_byte (n % 10 + 48)) true (inner_digit (n % 10)) refl)))

inner_letter : (color : Color) (kind : Kind) → list_all is_word_byte (cased_for color (letter_of kind) ∷ []) ≡ true
inner_letter Black kinds.Pawn = refl
inner_letter White kinds.Pawn = refl
inner_letter Black kind = refl
inner_letter White kind = refl

inner_held : (color : Color) (kind : Kind) (n : ℕ) → list_all is_word_byte (held_text color kind n) ≡ true
inner_held color kind n =
    cond_both (n == 0) [] (count_digits n ++ cased_for color (letter_of kind) ∷ []) (λ (t : List ℕ). list_all is_word_byte t ≡ true) (λ e. refl)
    (λ e. inner_both (count_digits n) (cased_for color (letter_of kind) ∷ []) (inner_count n) (inner_letter color kind))

inner_kinds : (color : Color) (count : Kind → ℕ) (ks : List Kind) → list_all is_word_byte (flat_map (λ kind. held_text color kind (count kind)) ks) ≡ true
inner_kinds color count [] = refl
inner_kinds color count (kind ∷ ks) = inner_both (held_text color kind (count kind)) _ (inner_held color kind (count kind)) (inner_kinds color count ks)

inner_hyphen : (text : List ℕ) → list_all is_word_byte text ≡ true → list_all is_word_byte (or_hyphen text) ≡ true
inner_hyphen [] e = refl
inner_hyphen (b ∷ bs) e = e

some_hyphen : (text : List ℕ) → has_bytes (or_hyphen text) ≡ true
some_hyphen [] = refl
some_hyphen (b ∷ bs) = refl

inner_hands : (hands : HandCounts) → list_all is_word_byte (hands_text hands) ≡ true
unfolding hands_text
inner_hands hands = inner_hyphen (side_held_text hands Black ++ side_held_text hands White) (inner_both (side_held_text hands Black) (side_held_text hands White) (inner_kinds Black (count_in_hand hands Black) kinds_in_text) (inner_kinds White (count_in_hand hands White) kinds_in_text))

some_hands : (hands : HandCounts) → has_bytes (hands_text hands) ≡ true
unfolding hands_text
some_hands hands = some_hyphen (side_held_text hands Black ++ side_held_text hands White)

inner_board : (cells : Cells) → list_all is_word_byte (board_text cells) ≡ true
unfolding board_text
inner_board cells = inner_ranks cells 9 0

no_board : board_of [] ≡ None
unfolding board_of
no_board = refl

some_board : (text : List ℕ) (cells : Cells) → board_of text ≡ Some cells → has_bytes text ≡ true
some_board [] cells e = let f : None ≡ Some cells = sym no_board ∙ e in cc
some_board (b ∷ bs) cells e = refl

inner_side : (side : Color) → list_all is_word_byte (side_text side) ≡ true
inner_side Black = refl
inner_side White = refl

some_side : (side : Color) → has_bytes (side_text side) ≡ true
some_side Black = refl
some_side White = refl

side_back : (side : Color) → side_of (side_text side) ≡ Some side
side_back Black = refl
side_back White = refl

not_blank : (text : List ℕ) → list_all is_word_byte text ≡ true → All (λ x. is_blank x ≡ false) text
not_blank text e = λ k d below. not-true (is_blank (get_or text k d)) (AllPass-from_list_all is_word_byte text e k d below)

-- a word before a space is the first word
words_at : (word rest : List ℕ) → list_all is_word_byte word ≡ true → has_bytes word ≡ true → words (word ++ (32 ∷ rest)) ≡ word ∷ words rest
unfolding words
words_at word rest inner some =
    ap (filter has_bytes) (slice_split_at is_blank word 32 rest (not_blank word inner) refl) ∙ cond-true (has_bytes word) (word ∷ filter has_bytes (slice_split is_blank rest)) (filter has_bytes (slice_split is_blank rest)) some

-- a word before a blank or the end comes first
last_word : (word tail : List ℕ) → list_all is_word_byte word ≡ true → has_bytes word ≡ true → EndsWord tail → slice_get (words (word ++ tail)) 0 ≡ Some word
unfolding words
last_word word [] inner some ends =
    ap (λ (t : List ℕ). slice_get (words t) 0) (append-nil word)
    ∙ (ap (λ (ps : List (List ℕ)). slice_get (filter has_bytes ps) 0) (slice_split_none is_blank word (not_blank word inner))
    ∙ ap (λ (ws : List (List ℕ)). slice_get ws 0) (cond-true (has_bytes word) (word ∷ []) [] some))
last_word word (b ∷ bs) inner some ends =
    ap (λ (ps : List (List ℕ)). slice_get (filter has_bytes ps) 0) (slice_split_at is_blank word b bs (not_blank word inner) ends)
    ∙ ap (λ (ws : List (List ℕ)). slice_get ws 0) (cond-true (has_bytes word) (word ∷ filter has_bytes (slice_split is_blank bs)) (filter has_bytes (slice_split is_blank bs)) some)

-- the three words of a written position
record Spoken (text board side hands : List ℕ) : Type 0 where
  one : slice_get (words text) 0 ≡ Some board
  two : slice_get (words text) 1 ≡ Some side
  three : slice_get (words text) 2 ≡ Some hands

spoken : (p : Shogi) → IsValid p → (tail : List ℕ) → EndsWord tail → Spoken (position_text p ++ tail) (board_text p.cells) (side_text p.side) (hands_text p.hands)
unfolding position_text
spoken p valid tail ends =
    let board : List ℕ = board_text p.cells in
    let side : List ℕ = side_text p.side in
    let hands : List ℕ = hands_text p.hands in
    let regrouped : position_text p ++ tail ≡ board ++ (32 ∷ (side ++ (32 ∷ (hands ++ tail)))) =
    append_assoc board (32 ∷ (side ++ (32 ∷ hands))) tail ∙ ap (λ (t : List ℕ). board ++ (32 ∷ t)) (append_assoc side (32 ∷ hands) tail) in
    let all : words (position_text p ++ tail) ≡ board ∷ (side ∷ words (hands ++ tail)) =
    ap words regrouped
    ∙ (words_at board (side ++ (32 ∷ (hands ++ tail))) (inner_board p.cells) (some_board board p.cells (board_of-board_text p.cells valid.cells_fit))
    ∙ ap (λ (ws : List (List ℕ)). board ∷ ws) (words_at side (hands ++ tail) (inner_side p.side) (some_side p.side))) in
    record {
      one = ap (λ (ws : List (List ℕ)). slice_get ws 0) all;
      two = ap (λ (ws : List (List ℕ)). slice_get ws 1) all;
      three = ap (λ (ws : List (List ℕ)). slice_get ws 2) all ∙ last_word hands tail (inner_hands p.hands) (some_hands p.hands) ends;
    }

-- a written position is read back, before a blank or the end of the text
pub written_back : (p : Shogi) → IsValid p → (tail : List ℕ) → EndsWord tail → position_at (position_text p ++ tail) ≡ Ok (p, end_of (position_text p ++ tail))
unfolding position_at
written_back p valid tail ends =
    let text : List ℕ = position_text p ++ tail in
    let said : Spoken text (board_text p.cells) (side_text p.side) (hands_text p.hands) = spoken p valid tail ends in
    let small : (color : Color) (kind : Kind) → count_in_hand p.hands color kind < 100 = few_held p valid in
    ap (λ (o : Option Cells). position_of_parts o (option_and_then side_of (slice_get (words text) 1)) (option_and_then hands_of (slice_get (words text) 2)) (end_of text)) (ap (option_and_then board_of) said.one ∙ board_of-board_text p.cells valid.cells_fit)
    ∙ (ap (λ (o : Option Color). position_of_parts (Some p.cells) o (option_and_then hands_of (slice_get (words text) 2)) (end_of text)) (ap (option_and_then side_of) said.two ∙ side_back p.side)
    ∙ (ap (λ (o : Option HandCounts). position_of_parts (Some p.cells) (Some p.side) o (end_of text)) (ap (option_and_then hands_of) said.three ∙ hands_of-hands_text p.hands valid.hands_fit small)
    ∙ ap (λ (o : Option PositionFault). judged o p (end_of text)) valid.no_fault))
