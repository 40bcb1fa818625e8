-- Reading a move text against the texts of moves.
use Rattle.std.proofs.Common.{◌≡◌, ℕ, ◌+◌, ◌-◌, ◌*◌, ◌/◌, ◌%◌, ◌<◌, Bool, true, false, cond, refl, sym, ◌∙◌, ap, subst, arith, List, [], ◌∷◌, length, Option, Some, None, inl, inr}
use Rattle.std.specs.Prelude.{◌==◌, ◌&&◌, nat_lt, slice_index, codes}
use Rattle.std.proofs.lemmas.Bool.{cond-true, cond-false, and_from, and_parts, lt-ltb, ltb-true, eqb-true, ne_eqb, cases_Bool}
use Rattle.std.proofs.lemmas.Option.{cond_some}
use Rattle.shogi_core.specs.declared.piece.Kind.{Kind}
use Rattle.shogi_core.specs.declared.moves.Move.{Move}
use Rattle.shogi_core.specs.declared.moves.Move.TheVariants.{Board, Drop}
use Rattle.shogi_sfen.specs.Letters.{letter_of, kind_named}
use Rattle.shogi_sfen.specs.MoveTexts.{text_of}
use Rattle.shogi_sfen.specs.Reading.{square_read, board_read, drop_read, short_read, long_read, move_read}
use Rattle.shogi_sfen.proofs.LetterLaws.{kind_named-passes, kind_named-letter}

-- a square's text is read as that square
square_back : (s : ℕ) → s < 81 → square_read (s / 9 + 49) (s % 9 + 97) ≡ Some s
square_back s h =
    cond-true (nat_lt 48 (s / 9 + 49) && nat_lt (s / 9 + 49) 58 && nat_lt 96 (s % 9 + 97) && nat_lt (s % 9 + 97) 106) _ _
    (and_from _ _ (and_from _ _ (and_from _ _ (lt-ltb 48 (s / 9 + 49) (omega arith)) (lt-ltb (s / 9 + 49) 58 (omega arith))) (lt-ltb 96 (s % 9 + 97) (omega arith))) (lt-ltb (s % 9 + 97) 106 (omega arith)))
    ∙ ap Some (omega arith)

not_star : (s : ℕ) → (s % 9 + 97 == 42) ≡ false
not_star s = ne_eqb (s % 9 + 97) 42 (λ e. omega arith)

board_back : (a b : Option ℕ) (from to : ℕ) (promote : Bool) → a ≡ Some from → b ≡ Some to → board_read a b promote ≡ Some (Board from to promote)
board_back a b from to promote e f = rw (e, f) refl

drop_back : (a : Option Kind) (b : Option ℕ) (kind : Kind) (to : ℕ) → a ≡ Some kind → b ≡ Some to → drop_read a b ≡ Some (Drop kind to)
drop_back a b kind to e f = rw (e, f) refl

-- the text of a move is read as that move
pub move_read-board : (from to : ℕ) (promote : Bool) → from < 81 → to < 81 → move_read (text_of (Board from to promote)) ≡ Some (Board from to promote)
unfolding move_read
move_read-board from to false hf ht =
    cond-false (from % 9 + 97 == 42) _ _ (not_star from) ∙ board_back _ _ from to false (square_back from hf) (square_back to ht)
move_read-board from to true hf ht = board_back _ _ from to true (square_back from hf) (square_back to ht)

pub move_read-drop : (kind : Kind) (to : ℕ) → to < 81 → move_read (text_of (Drop kind to)) ≡ Some (Drop kind to)
unfolding move_read
move_read-drop kind to h = drop_back _ _ kind to (kind_named-letter kind) (square_back to h)

-- a square that was read has this text
record IsSquareText (file rank s : ℕ) : Type 0 where
  on_board : s < 81
  file_is : file ≡ s / 9 + 49
  rank_is : rank ≡ s % 9 + 97

square_from : (file rank s : ℕ) → square_read file rank ≡ Some s → IsSquareText file rank s
square_from file rank s e =
    let both = cond_some (nat_lt 48 file && nat_lt file 58 && nat_lt 96 rank && nat_lt rank 106) ((file - 49) * 9 + (rank - 97)) s e in
    let fourth = and_parts (nat_lt 48 file && nat_lt file 58 && nat_lt 96 rank) (nat_lt rank 106) both.0 in
    let third = and_parts (nat_lt 48 file && nat_lt file 58) (nat_lt 96 rank) fourth.0 in
    let second = and_parts (nat_lt 48 file) (nat_lt file 58) third.0 in
    let a : 48 < file = ltb-true 48 file second.0 in
    let b : file < 58 = ltb-true file 58 second.1 in
    let c : 96 < rank = ltb-true 96 rank third.1 in
    let d : rank < 106 = ltb-true rank 106 fourth.1 in
    let f : (file - 49) * 9 + (rank - 97) ≡ s = both.1 in
    record { on_board = omega arith; file_is = omega arith; rank_is = omega arith }

-- a move between squares on the board
unfoldable pub IsOnBoard : Move → Type 0
IsOnBoard (Board from to promote) = (from < 81) × (to < 81)
IsOnBoard (Drop kind to) = to < 81

-- a move that was read from this text
pub record IsMoveText (text : List ℕ) (m : Move) : Type 0 where
  pub on_board : IsOnBoard m
  pub spelled : text_of m ≡ text

board_parts : (a b c d : ℕ) (promote : Bool) (tail : List ℕ) (m : Move) → cond promote (codes "+") [] ≡ tail → (x y : Option ℕ) → square_read a b ≡ x → square_read c d ≡ y → board_read x y promote ≡ Some m → IsMoveText (a ∷ b ∷ c ∷ d ∷ tail) m
unfolding IsOnBoard
board_parts a b c d promote tail m t (Some from) (Some to) ex ey e =
    let f : IsSquareText a b from = square_from a b from ex in
    let g : IsSquareText c d to = square_from c d to ey in
    let same : Board from to promote ≡ m = cc in
    let spelled : text_of (Board from to promote) ≡ a ∷ b ∷ c ∷ d ∷ tail = rw (f.file_is, f.rank_is, g.file_is, g.rank_is, t) refl in
    let made : IsMoveText (a ∷ b ∷ c ∷ d ∷ tail) (Board from to promote) = record { on_board = (f.on_board, g.on_board); spelled = spelled } in
    subst (IsMoveText (a ∷ b ∷ c ∷ d ∷ tail)) same made
board_parts a b c d promote tail m t (Some from) None ex ey e = cc
board_parts a b c d promote tail m t None (Some to) ex ey e = cc
board_parts a b c d promote tail m t None None ex ey e = cc

drop_parts : (a b c : ℕ) (m : Move) → (x : Option Kind) (y : Option ℕ) → kind_named a ≡ x → square_read b c ≡ y → drop_read x y ≡ Some m → IsMoveText (a ∷ 42 ∷ b ∷ c ∷ []) m
unfolding IsOnBoard
drop_parts a b c m (Some kind) (Some to) ex ey e =
    let f : a ≡ letter_of kind = kind_named-passes a kind ex in
    let g : IsSquareText b c to = square_from b c to ey in
    let same : Drop kind to ≡ m = cc in
    let spelled : text_of (Drop kind to) ≡ a ∷ 42 ∷ b ∷ c ∷ [] = rw (f, g.file_is, g.rank_is) refl in
    let made : IsMoveText (a ∷ 42 ∷ b ∷ c ∷ []) (Drop kind to) = record { on_board = g.on_board; spelled = spelled } in
    subst (IsMoveText (a ∷ 42 ∷ b ∷ c ∷ [])) same made
drop_parts a b c m (Some kind) None ex ey e = cc
drop_parts a b c m None (Some to) ex ey e = cc
drop_parts a b c m None None ex ey e = cc

short_from : (a b c d : ℕ) (m : Move) → short_read (a ∷ b ∷ c ∷ d ∷ []) ≡ Some m → IsMoveText (a ∷ b ∷ c ∷ d ∷ []) m
short_from a b c d m e = elim (cases_Bool (b == 42)) [
  | inl star ↦
      let h = drop_parts a c d m (kind_named a) (square_read c d) refl refl (sym (cond-true (b == 42) _ _ star) ∙ e) in
      subst (λ (x : ℕ). IsMoveText (a ∷ x ∷ c ∷ d ∷ []) m) (sym (eqb-true b 42 star)) h
  | inr other ↦ board_parts a b c d false [] m refl (square_read a b) (square_read c d) refl refl (sym (cond-false (b == 42) _ _ other) ∙ e)
]

long_from : (a b c d f : ℕ) (m : Move) → long_read (a ∷ b ∷ c ∷ d ∷ f ∷ []) ≡ Some m → IsMoveText (a ∷ b ∷ c ∷ d ∷ f ∷ []) m
long_from a b c d f m e = elim (cases_Bool (f == 43)) [
  | inl plus ↦
      let h = board_parts a b c d true (43 ∷ []) m refl (square_read a b) (square_read c d) refl refl (sym (cond-true (f == 43) _ _ plus) ∙ e) in
      subst (λ (x : ℕ). IsMoveText (a ∷ b ∷ c ∷ d ∷ x ∷ []) m) (sym (eqb-true f 43 plus)) h
  | inr other ↦ let none : None ≡ Some m = sym (cond-false (f == 43) _ _ other) ∙ e in cc
]

-- a text of four or five bytes is the list of its bytes
pub four : (text : List ℕ) → length text ≡ 4 → text ≡ slice_index text 0 ∷ slice_index text 1 ∷ slice_index text 2 ∷ slice_index text 3 ∷ []
four [] e = absurd (omega arith)
four (a ∷ []) e = absurd (omega arith)
four (a ∷ b ∷ []) e = absurd (omega arith)
four (a ∷ b ∷ c ∷ []) e = absurd (omega arith)
four (a ∷ b ∷ c ∷ d ∷ []) e = refl
four (a ∷ b ∷ c ∷ d ∷ f ∷ more) e = absurd (omega arith)

pub five : (text : List ℕ) → length text ≡ 5 → text ≡ slice_index text 0 ∷ slice_index text 1 ∷ slice_index text 2 ∷ slice_index text 3 ∷ slice_index text 4 ∷ []
five [] e = absurd (omega arith)
five (a ∷ []) e = absurd (omega arith)
five (a ∷ b ∷ []) e = absurd (omega arith)
five (a ∷ b ∷ c ∷ []) e = absurd (omega arith)
five (a ∷ b ∷ c ∷ d ∷ []) e = absurd (omega arith)
five (a ∷ b ∷ c ∷ d ∷ f ∷ []) e = refl
five (a ∷ b ∷ c ∷ d ∷ f ∷ g ∷ more) e = absurd (omega arith)

-- a move that is read has this text
pub move_read-some : (text : List ℕ) (m : Move) → move_read text ≡ Some m → IsMoveText text m
unfolding move_read
move_read-some text m e = elim (cases_Bool (length text == 4)) [
  | inl is_four ↦
      let h : short_read text ≡ Some m = sym (cond-true (length text == 4) _ _ is_four) ∙ e in
      subst (λ (t : List ℕ). IsMoveText t m) (sym (four text (eqb-true (length text) 4 is_four))) (short_from (slice_index text 0) (slice_index text 1) (slice_index text 2) (slice_index text 3) m h)
  | inr other ↦ elim (cases_Bool (length text == 5)) [
    | inl is_five ↦
        let h : long_read text ≡ Some m = sym (cond-true (length text == 5) _ _ is_five) ∙ (sym (cond-false (length text == 4) _ _ other) ∙ e) in
        subst (λ (t : List ℕ). IsMoveText t m) (sym (five text (eqb-true (length text) 5 is_five))) (long_from (slice_index text 0) (slice_index text 1) (slice_index text 2) (slice_index text 3) (slice_index text 4) m h)
    | inr neither ↦ let none : None ≡ Some m = sym (cond-false (length text == 5) _ _ neither) ∙ (sym (cond-false (length text == 4) _ _ other) ∙ e) in cc
  ]
]
