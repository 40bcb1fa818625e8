-- A written position is read back as itself.
use Rattle.std.proofs.Common.{◌≡◌, ℕ, ◌+◌, ◌-◌, ◌*◌, ◌/◌, ◌%◌, ◌≤◌, ◌<◌, Bool, true, false, not, refl, sym, ◌∙◌, ap, arith, List, [], ◌∷◌, ◌++◌, length, take, get_or, append_assoc, append-nil, Option, Some, None, inl, inr, zero-add}
use Rattle.std.specs.Prelude.{◌==◌, ◌&&◌, zero, suc, map, codes}
use Rattle.std.specs.List.{flat_map, range_with_len, slice_split, list_all, All}
use Rattle.std.specs.Option.{option_map}
use Rattle.std.specs.Str.{bytes_eq}
use Rattle.std.proofs.lemmas.Slice.Eq.{bytes_eq-Decides}
use Rattle.std.proofs.lemmas.Bool.{cond-true, cond-false, and_from, and_parts, or_from, eq-eqb, ne_eqb, cases_Bool, not-true, not_from_false, cond_both}
use Rattle.std.proofs.lemmas.List.Splits.{slice_split_none, slice_split_at}
use Rattle.std.proofs.lemmas.List.Folds.{list_all-append}
use Rattle.std.proofs.lemmas.List.Sums.{AllPass-from_list_all}
use Rattle.std.proofs.lemmas.List.Concat.{get_or-flat_map}
use Rattle.std.proofs.lemmas.List.FromFn.{length-map-range_with_len, get_or-map-range_with_len, get_or-range_with_len, length-range_with_len}
use Rattle.std.proofs.lemmas.List.{length-append}
use Rattle.shogi_core.specs.declared.piece.Color.{Color}
use Rattle.shogi_core.specs.declared.piece.Color.TheVariants.{Black, White}
use Rattle.shogi_core.specs.declared.piece.Kind.{Kind}
use Rattle.shogi_core.specs.declared.piece.Role.{Role}
use Rattle.shogi_core.specs.declared.piece.Role.TheVariants.{Pawn}
use Rattle.shogi_core.specs.Movement.{Cells, piece_at}
use Rattle.shogi_core.specs.Position.{HandCounts, count_in_hand}
use Rattle.shogi_sfen.specs.Words.{is_blank}
use Rattle.shogi_sfen.specs.BoardTexts.{is_slash, ranks_of, both_joined, joined, squares_of, board_from, board_of}
use Rattle.shogi_sfen.specs.HandTexts.{hands_from, hands_of, no_hands}
use Rattle.shogi_sfen.specs.Written.{run_text, cells_text, rank_cells, rank_text, board_text, held_text, kinds_in_text, side_held_text, or_hyphen, hands_text}
use Rattle.shogi_sfen.specs.Letters.{piece_text, piece_named}
use Rattle.shogi_sfen.proofs.RanksBack.{rank_of-cells_text}
use Rattle.shogi_sfen.proofs.BoardLaws.{arranged}
use Rattle.shogi_sfen.proofs.HandsBack.{held_back}
use Rattle.shogi_sfen.proofs.HoldingLaws.{added, holding-held, holding_same}

-- the hands after all counts of a side were added
all_added : Color → (Kind → ℕ) → List Kind → HandCounts → HandCounts
all_added color count [] hands = hands
all_added color count (kind ∷ ks) hands = all_added color count ks (added hands color kind (count kind))

kinds_back : (color : Color) (count : Kind → ℕ) → ((kind : Kind) → count kind < 100) → (ks : List Kind) (hands : HandCounts) (rest : List ℕ)
    → hands_from hands None (flat_map (λ kind. held_text color kind (count kind)) ks ++ rest) ≡ hands_from (all_added color count ks hands) None rest
unfolding all_added
kinds_back color count small [] hands rest = refl
kinds_back color count small (kind ∷ ks) hands rest =
    let others : List ℕ = flat_map (λ kind. held_text color kind (count kind)) ks in
    ap (hands_from hands None) (append_assoc (held_text color kind (count kind)) others rest)
    ∙ (held_back color kind (count kind) hands (others ++ rest) (small kind) ∙ kinds_back color count small ks (added hands color kind (count kind)) rest)

-- adding both sides' counts gives the hands
all_back : (hands : HandCounts) → length hands ≡ 14 → all_added White (count_in_hand hands White) kinds_in_text (all_added Black (count_in_hand hands Black) kinds_in_text no_hands) ≡ hands
unfolding all_added
all_back hands len = holding_same (λ color kind. 0 + count_in_hand hands color kind) (count_in_hand hands) (λ color kind. omega arith) ∙ sym (holding-held hands len)

pub finished : (text : List ℕ) (hands : HandCounts) → hands_from no_hands None text ≡ Some hands → hands_of (or_hyphen text) ≡ Some hands
unfolding hands_of piece_named
finished [] hands e = e
finished (b ∷ bs) hands e = elim (cases_Bool (bytes_eq (b ∷ bs) (codes "-"))) [
  | inl hyphen ↦
      let same : b ∷ bs ≡ codes "-" = (bytes_eq-Decides (b ∷ bs) (codes "-")).0 hyphen in
      let none : None ≡ Some hands = ap (hands_from no_hands None) (sym same) ∙ e in cc
  | inr other ↦ cond-false (bytes_eq (b ∷ bs) (codes "-")) _ _ other ∙ e
]

pub hands_of-hands_text : (hands : HandCounts) → length hands ≡ 14 → ((color : Color) (kind : Kind) → count_in_hand hands color kind < 100) → hands_of (hands_text hands) ≡ Some hands
unfolding hands_text
hands_of-hands_text hands len small =
    let black : List ℕ = side_held_text hands Black in
    let white : List ℕ = side_held_text hands White in
    let done : hands_from no_hands None (black ++ white) ≡ Some hands =
    ap (λ (t : List ℕ). hands_from no_hands None (black ++ t)) (sym (append-nil white))
    ∙ (kinds_back Black (count_in_hand hands Black) (small Black) kinds_in_text no_hands (white ++ [])
    ∙ (kinds_back White (count_in_hand hands White) (small White) kinds_in_text (all_added Black (count_in_hand hands Black) kinds_in_text no_hands) []
    ∙ ap Some (all_back hands len))) in
    finished (black ++ white) hands done

-- the byte is neither a slash nor a blank
abbrev pub is_plain : ℕ → Bool
is_plain byte = not (is_slash byte) && not (is_blank byte)

pub plain_digit : (n : ℕ) → is_plain (n + 48) ≡ true
plain_digit n =
    and_from _ _ (not_from_false (n + 48 == 47) (ne_eqb (n + 48) 47 (λ e. omega arith)))
    (not_from_false _ (or_from (n + 48 == 32) (n + 48 == 9) (ne_eqb (n + 48) 32 (λ e. omega arith)) (ne_eqb (n + 48) 9 (λ e. omega arith))))

pub plain_both : (xs ys : List ℕ) → list_all is_plain xs ≡ true → list_all is_plain ys ≡ true → list_all is_plain (xs ++ ys) ≡ true
plain_both xs ys e f = list_all-append is_plain xs ys ∙ and_from (list_all is_plain xs) (list_all is_plain ys) e f

plain_run : (n : ℕ) → list_all is_plain (run_text n) ≡ true
plain_run n = cond_both (n == 0) [] ((n + 48) ∷ []) (λ (t : List ℕ). list_all is_plain t ≡ true) (λ e. refl) (λ e. and_from (is_plain (n + 48)) true (plain_digit n) refl)

pub plain_piece : (color : Color) (role : Role) → list_all is_plain (piece_text (record { color = color; role = role })) ≡ true
plain_piece Black Pawn = refl
plain_piece White Pawn = refl
plain_piece Black role = refl
plain_piece White role = refl

pub plain_cells : (cells : Cells) (run : ℕ) → list_all is_plain (cells_text run cells) ≡ true
plain_cells [] run = plain_run run
plain_cells (None ∷ cells) run = plain_cells cells (run + 1)
plain_cells (Some piece ∷ cells) run =
    plain_both (run_text run) (piece_text piece ++ cells_text 0 cells) (plain_run run) (plain_both (piece_text piece) (cells_text 0 cells) (plain_piece piece.color piece.role) (plain_cells cells 0))

pub no_slash : (text : List ℕ) → list_all is_plain text ≡ true → All (λ x. is_slash x ≡ false) text
no_slash text e = λ k d below. not-true (is_slash (get_or text k d)) ((and_parts (not (is_slash (get_or text k d))) (not (is_blank (get_or text k d))) (AllPass-from_list_all is_plain text e k d below)).0)

module _ (cells : Cells) where
  -- the text of a rank
  abbrev pub part : ℕ → List ℕ
  part rank = cells_text 0 (rank_cells cells rank)

  later_rank : (rank : ℕ) → rank_text cells (rank + 1) ≡ 47 ∷ part (rank + 1)
  later_rank rank = ap (λ (t : List ℕ). t ++ part (rank + 1)) (cond-false (rank + 1 == 0) [] (codes "/") (ne_eqb (rank + 1) 0 (λ e. omega arith)))

  -- the written ranks are the parts between slashes
  parts_from : (n rank : ℕ) → slice_split is_slash (part rank ++ flat_map (rank_text cells) (range_with_len (rank + 1) n)) ≡ map part (range_with_len rank (suc n))
  parts_from zero rank = ap (slice_split is_slash) (append-nil (part rank)) ∙ slice_split_none is_slash (part rank) (no_slash (part rank) (plain_cells (rank_cells cells rank) 0))
  parts_from (suc n) rank =
      let others : List ℕ = flat_map (rank_text cells) (range_with_len (rank + 1 + 1) n) in
      ap (λ (t : List ℕ). slice_split is_slash (part rank ++ (t ++ others))) (later_rank rank)
      ∙ (slice_split_at is_slash (part rank) 47 (part (rank + 1) ++ others) (no_slash (part rank) (plain_cells (rank_cells cells rank) 0)) refl
      ∙ ap (λ (ps : List (List ℕ)). part rank ∷ ps) (parts_from n (rank + 1)))

  ranks_back : (n rank : ℕ) → ranks_of (map part (range_with_len rank n)) ≡ Some (flat_map (rank_cells cells) (range_with_len rank n))
  ranks_back zero rank = refl
  ranks_back (suc n) rank =
      ap (λ (o : Option Cells). both_joined o (ranks_of (map part (range_with_len (rank + 1) n)))) (rank_of-cells_text (rank_cells cells rank) (length-map-range_with_len (λ i. piece_at cells ((8 - i) * 9 + rank)) 0 9))
      ∙ ap (joined (rank_cells cells rank)) (ranks_back n (rank + 1))

  nine_each : (n rank : ℕ) → length (flat_map (rank_cells cells) (range_with_len rank n)) ≡ 9 * n
  nine_each zero rank = refl
  nine_each (suc n) rank =
      let one : length (rank_cells cells rank) ≡ 9 = length-map-range_with_len (λ i. piece_at cells ((8 - i) * 9 + rank)) 0 9 in
      let others : length (flat_map (rank_cells cells) (range_with_len (rank + 1) n)) ≡ 9 * n = nine_each n (rank + 1) in
      length-append (rank_cells cells rank) (flat_map (rank_cells cells) (range_with_len (rank + 1) n)) ∙ omega arith

  take_range : (i a n : ℕ) → i ≤ n → take i (range_with_len a n) ≡ range_with_len a i
  take_range zero a n h = refl
  take_range (suc i) a zero h = absurd (omega arith)
  take_range (suc i) a (suc n) h = ap (λ (r : List ℕ). a ∷ r) (take_range i (a + 1) n (omega arith))

  square_at_place : (rank i : ℕ) → rank < 9 → i < 9 → get_or (flat_map (rank_cells cells) (range_with_len 0 9)) (rank * 9 + i) None ≡ piece_at cells ((8 - i) * 9 + rank)
  square_at_place rank i hr hi =
      let f : ℕ → Cells = rank_cells cells in
      let before : length (flat_map f (take rank (range_with_len 0 9))) ≡ rank * 9 = ap (λ (r : List ℕ). length (flat_map f r)) (take_range rank 0 9 (omega arith)) ∙ (nine_each rank 0 ∙ omega arith) in
      let which : get_or (range_with_len 0 9) rank 0 ≡ rank = get_or-range_with_len 0 9 rank 0 hr ∙ zero-add rank in
      let one : length (f (get_or (range_with_len 0 9) rank 0)) ≡ 9 = length-map-range_with_len (λ i. piece_at cells ((8 - i) * 9 + get_or (range_with_len 0 9) rank 0)) 0 9 in
      let len : length (range_with_len 0 9) ≡ 9 = length-range_with_len 0 9 in
      ap (λ (k : ℕ). get_or (flat_map f (range_with_len 0 9)) (k + i) None) (sym before)
      ∙ (get_or-flat_map f (range_with_len 0 9) rank i 0 None (omega arith) (omega arith)
      ∙ (ap (λ (r : ℕ). get_or (f r) i None) which
      ∙ get_or-map-range_with_len (λ i. piece_at cells ((8 - i) * 9 + rank)) 0 9 i i None hi (zero-add i)))

  -- the cells of the ranks, put in their places, are the board
  pub board_from-ranks : length cells ≡ 81 → board_from (flat_map (rank_cells cells) (range_with_len 0 9)) ≡ cells
  board_from-ranks len =
      sym (arranged cells (flat_map (rank_cells cells) (range_with_len 0 9)) len (λ k below.
      sym (square_at_place (k % 9) (8 - k / 9) (omega arith) (omega arith) ∙ ap (λ (s : ℕ). piece_at cells s) (omega arith))))

  pub board_of-board_text : length cells ≡ 81 → board_of (board_text cells) ≡ Some cells
  unfolding board_of board_text
  board_of-board_text len =
      let all : slice_split is_slash (flat_map (rank_text cells) (range_with_len 0 9)) ≡ map part (range_with_len 0 9) = parts_from 8 0 in
      let nine : (length (map part (range_with_len 0 9)) == 9) ≡ true = eq-eqb (length (map part (range_with_len 0 9))) 9 (length-map-range_with_len part 0 9) in
      ap (λ (ps : List (List ℕ)). option_map board_from (squares_of ps)) all
      ∙ (ap (option_map board_from) (cond-true (length (map part (range_with_len 0 9)) == 9) (ranks_of (map part (range_with_len 0 9))) None nine ∙ ranks_back 9 0)
      ∙ ap Some (board_from-ranks len))
