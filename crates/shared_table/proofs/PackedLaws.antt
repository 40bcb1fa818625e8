-- A key can be unpacked from its words.
use Rattle.std.proofs.Common.{◌≡◌, ◌∙◌, ◌≤◌, ◌<◌, ◌+◌, ◌-◌, ◌*◌, ◌/◌, ◌%◌, ℕ, List, [], ◌∷◌, ◌++◌, Option, Some, None, refl, sym, ap, ap₂, arith, length, map, drop, slice_index}
use Rattle.std.specs.Bool.{Decides}
use Rattle.std.specs.Cmp.Lexicographic.{pointwise}
use Rattle.std.specs.List.{range_with_len, slice_range}
use Rattle.std.specs.Prelude.{nat_eq}
use Rattle.std.proofs.lemmas.List.{ext_get_or, length-drop, length-map, length-take-le, take_all}
use Rattle.std.proofs.lemmas.Bool.Decides.{Decides-eqb, same_from_decides}
use Rattle.std.proofs.lemmas.List.Folds.{drop_split}
use Rattle.std.proofs.lemmas.List.FromFn.{get_or-map-range_with_len, length-map-range_with_len}
use Rattle.std.proofs.lemmas.Slice.Eq.{slice_eq-Decides}
use Rattle.shogi_core.specs.declared.piece.Color.{Color}
use Rattle.shogi_core.specs.declared.piece.Color.TheVariants.{Black, White}
use Rattle.shogi_core.specs.declared.piece.Kind.{Kind}
use Rattle.shogi_core.specs.declared.piece.Kind.TheVariants as kinds
use Rattle.shogi_core.specs.declared.piece.Piece.{Piece}
use Rattle.shogi_core.specs.declared.piece.Role.{Role}
use Rattle.shogi_core.specs.declared.piece.Role.TheVariants as role
use Rattle.shogi_core.specs.Movement.{Cells}
use Rattle.shogi_core.specs.Pieces.{set_size}
use Rattle.shogi_core.specs.Position.{HandCounts, Shogi, count_in_hand}
use Rattle.shogi_core.specs.Same.{role_number}
use Rattle.shogi_core.specs.Steps.{color_number}
use Rattle.shogi_core.specs.Validity.{IsValid}
use Rattle.shogi_core.specs.Words.{board_words, cell_number, cells_word, number_in_base_32, piece_number}
use Rattle.shogi_core.proofs.Faults.{faultless_from}
use Rattle.shogi_core.proofs.WordLaws.{AreDigits, cells_are_digits}
use Rattle.shogi_eval.specs.declared.eval.Eval.{Eval}
use Rattle.shogi_eval.specs.declared.eval.Eval.TheVariants.{Plain, Hand, Exchange}
use Rattle.shared_table.specs.Keys.{eval_number, is_same_key, key_of}
use Rattle.shared_table.specs.KeyLaws.{key_same}
use Rattle.shared_table.specs.Packed.{AreWords, cell_of_number, cells_in, counts_of, depth_in, digits_in_base_32, eval_of_number, eval_in, key_in, position_in, side_of_number, words_of}

black_back : (r : Role) → cell_of_number (role_number r + 1) ≡ Some (record { color = Black; role = r })
black_back role.King = refl
black_back _ = refl

white_back : (r : Role) → cell_of_number (role_number r + 15) ≡ Some (record { color = White; role = r })
white_back role.King = refl
white_back _ = refl

-- a square's content can be unpacked from its number
pub cell_back : (cell : Option Piece) → cell_of_number (cell_number cell) ≡ cell
cell_back None = refl
cell_back (Some piece) = go piece.color refl
  where
    go : (color : Color) → piece.color ≡ color → cell_of_number (piece_number color piece.role) ≡ Some piece
    go Black e = black_back piece.role ∙ ap (λ (c : Color). Some (record { color = c; role = piece.role })) (sym e)
    go White e = white_back piece.role ∙ ap (λ (c : Color). Some (record { color = c; role = piece.role })) (sym e)

-- digits can be unpacked from their number
pub digits_back : (ds : List ℕ) → AreDigits ds → digits_in_base_32 (length ds) (number_in_base_32 ds) ≡ ds
unfolding digits_in_base_32 number_in_base_32
digits_back [] fits = refl
digits_back (d ∷ ds) fits =
    let low : (d + 32 * number_in_base_32 ds) % 32 ≡ d = omega (arith, fits.0) in
    let high : (d + 32 * number_in_base_32 ds) / 32 ≡ number_in_base_32 ds = omega (arith, fits.0) in
    rw (low, high) (ap (λ (rest : List ℕ). d ∷ rest) (digits_back ds fits.1))

all_back : (cells : Cells) → map cell_of_number (map cell_number cells) ≡ cells
all_back [] = refl
all_back (cell ∷ cells) = ap₂ (λ (c : Option Piece) (cs : Cells). c ∷ cs) (cell_back cell) (all_back cells)

-- the squares of a word can be unpacked
pub cells_back : (cells : Cells) (n : ℕ) → length cells ≡ n → cells_in n (number_in_base_32 (map cell_number cells)) ≡ cells
cells_back cells n len =
    let digits = digits_back (map cell_number cells) (cells_are_digits cells) in
    let same : length (map cell_number cells) ≡ n = length-map cells cell_number ∙ len in
    ap (map cell_of_number) (ap (λ k. digits_in_base_32 k (number_in_base_32 (map cell_number cells))) (sym same) ∙ digits) ∙ all_back cells

set_size_fits : (kind : Kind) → set_size kind ≤ 18
set_size_fits kinds.Pawn = omega arith
set_size_fits _ = omega arith

-- a count in hand is a digit
held_fits : (p : Shogi) (side : Color) (kind : Kind) → IsValid p → count_in_hand p.hands side kind < 32
held_fits p Black kind valid = omega (arith, (faultless_from p valid.no_fault).counts kind, set_size_fits kind)
held_fits p White kind valid = omega (arith, (faultless_from p valid.no_fault).counts kind, set_size_fits kind)

counts_are_digits : (p : Shogi) (side : Color) → IsValid p → AreDigits (counts_of p.hands side)
counts_are_digits p side valid = (
  held_fits p side kinds.Pawn valid,
  (
    held_fits p side kinds.Lance valid,
    (
      held_fits p side kinds.Knight valid,
      (
        held_fits p side kinds.Silver valid,
        (
          held_fits p side kinds.Gold valid,
          (
            held_fits p side kinds.Bishop valid,
            (held_fits p side kinds.Rook valid, tt),
          ),
        ),
      ),
    ),
  ),
)

-- the counts of a side can be unpacked
counts_back : (p : Shogi) (side : Color) → IsValid p → digits_in_base_32 7 (number_in_base_32 (counts_of p.hands side)) ≡ counts_of p.hands side
counts_back p side valid = digits_back (counts_of p.hands side) (counts_are_digits p side valid)

-- a list is that of its items in order
listed : (xs : List ℕ) (n : ℕ) → length xs ≡ n → map (slice_index xs) (range_with_len 0 n) ≡ xs
listed xs n len =
    let same : length (map (slice_index xs) (range_with_len 0 n)) ≡ n = length-map-range_with_len (slice_index xs) 0 n in
    ext_get_or 0 (map (slice_index xs) (range_with_len 0 n)) xs (same ∙ sym len) (λ i below.
    get_or-map-range_with_len (slice_index xs) 0 n i i 0 (omega (arith, same, below)) (omega arith))

-- the counts of both sides make the whole list
hands_back : (hands : HandCounts) → length hands ≡ 14 → counts_of hands Black ++ counts_of hands White ≡ hands
hands_back hands len = listed hands 14 len

side_back : (side : Color) (n : ℕ) → side_of_number ((color_number side + 2 * n) % 2) ≡ side
side_back Black n = let e : (0 + 2 * n) % 2 ≡ 0 = omega arith in rw e refl
side_back White n = let e : (1 + 2 * n) % 2 ≡ 1 = omega arith in rw e refl

side_fits : (side : Color) → color_number side < 2
side_fits Black = omega arith
side_fits White = omega arith

eval_fits : (eval : Eval) → eval_number eval < 3
eval_fits Plain = omega arith
eval_fits Hand = omega arith
eval_fits Exchange = omega arith

eval_back : (side : Color) (eval : Eval) (depth : ℕ) → eval_of_number ((color_number side + 2 * (eval_number eval + 3 * depth)) / 2 % 3) ≡ eval
eval_back side eval depth = go eval refl
  where
    go : (e : Eval) → eval ≡ e → eval_of_number ((color_number side + 2 * (eval_number e + 3 * depth)) / 2 % 3) ≡ e
    go Plain is = let e : (color_number side + 2 * (0 + 3 * depth)) / 2 % 3 ≡ 0 = omega (arith, side_fits side) in rw e refl
    go Hand is = let e : (color_number side + 2 * (1 + 3 * depth)) / 2 % 3 ≡ 1 = omega (arith, side_fits side) in rw e refl
    go Exchange is = let e : (color_number side + 2 * (2 + 3 * depth)) / 2 % 3 ≡ 2 = omega (arith, side_fits side) in rw e refl

depth_back : (side : Color) (eval : Eval) (depth : ℕ) → (color_number side + 2 * (eval_number eval + 3 * depth)) / 6 ≡ depth
depth_back side eval depth = omega (arith, side_fits side, eval_fits eval)

-- the parts of a board make the whole board
parts_back : (cells : Cells) → length cells ≡ 81
    → slice_range cells 0 12 ++ (slice_range cells 12 24 ++ (slice_range cells 24 36 ++ (slice_range cells 36 48
    ++ (slice_range cells 48 60 ++ (slice_range cells 60 72 ++ slice_range cells 72 81))))) ≡ cells
parts_back cells len = sym (
    drop_split cells 0 12 (omega arith) ∙ ap (λ rest. slice_range cells 0 12 ++ rest) (
    drop_split cells 12 24 (omega arith) ∙ ap (λ rest. slice_range cells 12 24 ++ rest) (
    drop_split cells 24 36 (omega arith) ∙ ap (λ rest. slice_range cells 24 36 ++ rest) (
    drop_split cells 36 48 (omega arith) ∙ ap (λ rest. slice_range cells 36 48 ++ rest) (
    drop_split cells 48 60 (omega arith) ∙ ap (λ rest. slice_range cells 48 60 ++ rest) (
    drop_split cells 60 72 (omega arith) ∙ ap (λ rest. slice_range cells 60 72 ++ rest) (
    sym (take_all 9 (drop 72 cells) (omega (arith, length-drop 72 cells))))))))))

-- the length of a part of the board
part_length : (cells : Cells) (from to : ℕ) → length cells ≡ 81 → from ≤ to → to ≤ 81 → length (slice_range cells from to) ≡ to - from
part_length cells from to len order fits = length-take-le (to - from) (drop from cells) (omega (arith, length-drop from cells))

-- the board can be unpacked
board_back : (cells : Cells) → length cells ≡ 81
    → cells_in 12 (cells_word cells 0 12) ++ (cells_in 12 (cells_word cells 12 24) ++ (cells_in 12 (cells_word cells 24 36)
    ++ (cells_in 12 (cells_word cells 36 48) ++ (cells_in 12 (cells_word cells 48 60) ++ (cells_in 12 (cells_word cells 60 72)
    ++ cells_in 9 (cells_word cells 72 81)))))) ≡ cells
board_back cells len =
    join (part 0 12 12 (omega arith) (omega arith) (omega arith)) (join (part 12 24 12 (omega arith) (omega arith) (omega arith))
    (join (part 24 36 12 (omega arith) (omega arith) (omega arith)) (join (part 36 48 12 (omega arith) (omega arith) (omega arith))
    (join (part 48 60 12 (omega arith) (omega arith) (omega arith)) (join (part 60 72 12 (omega arith) (omega arith) (omega arith))
    (part 72 81 9 (omega arith) (omega arith) (omega arith))))))) ∙ parts_back cells len
  where
    join : {a b c d : Cells} → a ≡ b → c ≡ d → a ++ c ≡ b ++ d
    join e f = ap₂ (λ (x y : Cells). x ++ y) e f

    part : (from to n : ℕ) → from ≤ to → to ≤ 81 → to - from ≡ n → cells_in n (cells_word cells from to) ≡ slice_range cells from to
    part from to n order fits count = cells_back (slice_range cells from to) n (part_length cells from to len order fits ∙ count)

abbrev pub position_of : Cells → HandCounts → Color → Shogi
position_of cells hands side = record { cells = cells; hands = hands; side = side }

pub same_parts : {c d : Cells} {h k : HandCounts} {s t : Color} → c ≡ d → h ≡ k → s ≡ t → position_of c h s ≡ position_of d k t
same_parts {c} {d} {h} {k} {s} {t} a b e =
    ap (λ (x : Cells). position_of x h s) a ∙ (ap (λ (x : HandCounts). position_of d x s) b ∙ ap (position_of d k) e)

-- the position can be unpacked
pub position_back : (p : Shogi) (eval : Eval) (depth : ℕ) → IsValid p → position_in (words_of (key_of p eval depth)) ≡ p
unfolding position_in words_of
position_back p eval depth valid = same_parts (board_back p.cells valid.cells_fit)
    (ap₂ (λ (x y : List ℕ). x ++ y) (counts_back p Black valid) (counts_back p White valid) ∙ hands_back p.hands valid.hands_fit)
    (side_back p.side (eval_number eval + 3 * depth))

eval_in_back : (p : Shogi) (eval : Eval) (depth : ℕ) → eval_in (words_of (key_of p eval depth)) ≡ eval
unfolding words_of
eval_in_back p eval depth = eval_back p.side eval depth

depth_in_back : (p : Shogi) (eval : Eval) (depth : ℕ) → depth_in (words_of (key_of p eval depth)) ≡ depth
unfolding words_of
depth_in_back p eval depth = depth_back p.side eval depth

same_key : {p q : Shogi} {e f : Eval} {d n : ℕ} → p ≡ q → e ≡ f → d ≡ n → key_of p e d ≡ key_of q f n
same_key {p} {q} {e} {f} {d} {n} a b k =
    ap (λ (x : Shogi). key_of x e d) a ∙ (ap (λ (x : Eval). key_of q x d) b ∙ ap (key_of q f) k)

-- the key can be unpacked
pub key_back : (p : Shogi) (eval : Eval) (depth : ℕ) → IsValid p → key_in (words_of (key_of p eval depth)) ≡ key_of p eval depth
key_back p eval depth valid = same_key (position_back p eval depth valid) (eval_in_back p eval depth) (depth_in_back p eval depth)

-- the words of a valid position, an evaluation and a depth are words of a key
pub words_are : (p : Shogi) (eval : Eval) (depth : ℕ) → IsValid p → depth < 256 → AreWords (words_of (key_of p eval depth))
words_are p eval depth valid fits = record {
  valid = rw (position_back p eval depth valid) valid;
  same = ap words_of (key_back p eval depth valid);
  depth_fits = rw (depth_in_back p eval depth) fits;
}

-- words are equal exactly if their keys are
pub words_decide : (a b : List ℕ) → AreWords a → AreWords b → Decides (pointwise nat_eq a b) (key_in a ≡ key_in b)
words_decide a b v w =
    let same = slice_eq-Decides Decides-eqb a b _ refl in
    ((λ e. ap key_in (same.0 e)), (λ e. same.1 (sym v.same ∙ (ap words_of e ∙ w.same))))

-- the test of words is the test of keys
pub words_test : (a b : List ℕ) → AreWords a → AreWords b → pointwise nat_eq a b ≡ is_same_key (key_in a) (key_in b)
words_test a b v w = same_from_decides _ _ (words_decide a b v w) (key_same (key_in a) (key_in b))

-- the ten words, one by one
pub words_made : (p : Shogi) (eval : Eval) (depth : ℕ) (board : List ℕ) (hands : HandCounts) (side : Color) → board ≡ board_words p.cells → hands ≡ p.hands → side ≡ p.side
    → (a b c : ℕ) → a ≡ number_in_base_32 (counts_of hands Black) → b ≡ number_in_base_32 (counts_of hands White)
    → c ≡ color_number side + 2 * (eval_number eval + 3 * depth)
    → slice_index board 0 ∷ slice_index board 1 ∷ slice_index board 2 ∷ slice_index board 3 ∷ slice_index board 4 ∷ slice_index board 5 ∷ slice_index board 6
    ∷ a ∷ b ∷ c ∷ [] ≡ words_of (key_of p eval depth)
unfolding words_of
words_made p eval depth board hands side same_board same_hands same_side a b c ea eb ec = rw (ea, eb, ec, same_board, same_hands, same_side) refl
