-- Boards rank by rank.
use Rattle.std.proofs.Common.{◌≡◌, ◌≢◌, ℕ, ◌+◌, ◌*◌, ◌≤◌, ◌<◌, refl, sym, ◌∙◌, ap, arith, List, [], ◌∷◌, ◌++◌, length, take, drop, get_or, append_assoc, append-nil, Option, Some, None, inl, inr}
use Rattle.std.specs.Prelude.{◌==◌, map}
use Rattle.std.specs.List.{slice_split, position_or_len, range_with_len}
use Rattle.std.proofs.Math.ListN.{set}
use Rattle.std.proofs.lemmas.List.{length-append, ext_get_or, get_or-set_same, get_or-set_other}
use Rattle.std.proofs.lemmas.List.FromFn.{get_or-map-range_with_len, length-map-range_with_len}
use Rattle.std.proofs.lemmas.List.Splits.{slice_split_first, slice_split_none, length-slice_split}
use Rattle.std.proofs.lemmas.List.Sums.{fails_before_first}
use Rattle.std.specs.Prelude.{count_by}
use Rattle.std.proofs.lemmas.Bool.{cases_eq, cond-true, cond-false, eq-eqb, ne_eqb, cond_both}
use Rattle.shogi_core.specs.declared.piece.Piece.{Piece}
use Rattle.shogi_core.specs.Movement.{Cells, piece_at}
use Rattle.shogi_sfen.specs.BoardTexts.{joined, rank_of, both_joined, ranks_of, is_slash, squares_of, place_in_text, board_from}

joined-joined : (a b : Cells) (more : Option Cells) → joined a (joined b more) ≡ joined (a ++ b) more
joined-joined a b None = refl
joined-joined a b (Some c) = ap Some (sym (append_assoc a b c))

-- the state after some ranks were read
pub record HasRanks (word rest : List ℕ) (squares : Cells) (n : ℕ) : Type 0 where
  pub parts : length (slice_split is_slash word) ≡ n + length (slice_split is_slash rest)
  pub ranks : ranks_of (slice_split is_slash word) ≡ joined squares (ranks_of (slice_split is_slash rest))
  pub len : length squares ≡ 9 * n

unit : (o : Option Cells) → o ≡ joined [] o
unit None = refl
unit (Some c) = refl

-- a text is its part before the first slash and the rest
one_part : (rest : List ℕ) → length rest ≤ position_or_len is_slash rest → slice_split is_slash rest ≡ rest ∷ []
one_part rest h = slice_split_none is_slash rest (λ k d below. fails_before_first is_slash rest k d (omega arith))

first_part : (rest : List ℕ) (n : ℕ) → n ≡ position_or_len is_slash rest → n < length rest → slice_split is_slash rest ≡ take n rest ∷ slice_split is_slash (drop (n + 1) rest)
first_part rest n e h =
    let here : position_or_len is_slash rest < length rest = omega arith in
    slice_split_first is_slash rest 0 here ∙ ap (λ (k : ℕ). take k rest ∷ slice_split is_slash (drop (k + 1) rest)) (sym e)

-- one more rank is read
pub ranks-step : (word rest : List ℕ) (squares rank new : Cells) (n k : ℕ) → HasRanks word rest squares n → k ≡ position_or_len is_slash rest → k < length rest
    → rank_of (take k rest) ≡ Some rank → length rank ≡ 9 → new ≡ squares ++ rank → HasRanks word (drop (k + 1) rest) new (n + 1)
ranks-step word rest squares rank new n k has e h r nine add =
    let split : slice_split is_slash rest ≡ take k rest ∷ slice_split is_slash (drop (k + 1) rest) = first_part rest k e h in
    let count : length (slice_split is_slash rest) ≡ length (take k rest ∷ slice_split is_slash (drop (k + 1) rest)) = ap length split in
    let before : length (slice_split is_slash word) ≡ n + length (slice_split is_slash rest) = has.parts in
    let old : length squares ≡ 9 * n = has.len in
    let grown : length new ≡ length squares + length rank = ap length add ∙ length-append squares rank in
    record {
      parts = omega arith;
      ranks = has.ranks ∙ (ap (λ (ps : List (List ℕ)). joined squares (ranks_of ps)) split
          ∙ (ap (λ (o : Option Cells). joined squares (both_joined o (ranks_of (slice_split is_slash (drop (k + 1) rest))))) r
          ∙ (joined-joined squares rank (ranks_of (slice_split is_slash (drop (k + 1) rest))) ∙ ap (λ (c : Cells). joined c (ranks_of (slice_split is_slash (drop (k + 1) rest)))) (sym add))));
      len = omega arith;
    }

some_part : (rest : List ℕ) → 0 < length (slice_split is_slash rest)
some_part rest = let n : length (slice_split is_slash rest) ≡ count_by is_slash rest + 1 = length-slice_split is_slash rest in omega arith

-- other than nine parts give no board
other_count : (parts : List (List ℕ)) → (length parts ≡ 9 → ⊥) → squares_of parts ≡ None
other_count parts h = cond-false (length parts == 9) _ _ (ne_eqb (length parts) 9 h)

no_ranks : (parts : List (List ℕ)) → ranks_of parts ≡ None → squares_of parts ≡ None
no_ranks parts e = cond_both (length parts == 9) (ranks_of parts) None (λ (o : Option Cells). o ≡ None) (λ t. e) (λ t. refl)

-- a missing slash gives no board
pub ranks-short : (word rest : List ℕ) (squares : Cells) (n k : ℕ) → HasRanks word rest squares n → n < 8 → k ≡ position_or_len is_slash rest → k ≡ length rest → squares_of (slice_split is_slash word) ≡ None
ranks-short word rest squares n k has small e f =
    let count : length (slice_split is_slash rest) ≡ 1 = ap length (one_part rest (omega arith)) in
    let all : length (slice_split is_slash word) ≡ n + length (slice_split is_slash rest) = has.parts in
    other_count (slice_split is_slash word) (λ nine. omega arith)

-- a wrong rank gives no board
pub ranks-wrong : (word rest : List ℕ) (squares : Cells) (n k : ℕ) → HasRanks word rest squares n → k ≡ position_or_len is_slash rest → k < length rest → rank_of (take k rest) ≡ None → squares_of (slice_split is_slash word) ≡ None
ranks-wrong word rest squares n k has e h r =
    no_ranks (slice_split is_slash word) (has.ranks ∙ (ap (λ (ps : List (List ℕ)). joined squares (ranks_of ps)) (first_part rest k e h)
    ∙ ap (λ (o : Option Cells). joined squares (both_joined o (ranks_of (slice_split is_slash (drop (k + 1) rest))))) r))

-- a slash after the ninth rank gives no board
pub ranks-long : (word rest : List ℕ) (squares : Cells) (k : ℕ) → HasRanks word rest squares 8 → k ≡ position_or_len is_slash rest → k < length rest → squares_of (slice_split is_slash word) ≡ None
ranks-long word rest squares k has e h =
    let count : length (slice_split is_slash rest) ≡ length (take k rest ∷ slice_split is_slash (drop (k + 1) rest)) = ap length (first_part rest k e h) in
    let some : 0 < length (slice_split is_slash (drop (k + 1) rest)) = some_part (drop (k + 1) rest) in
    let all : length (slice_split is_slash word) ≡ 8 + length (slice_split is_slash rest) = has.parts in
    other_count (slice_split is_slash word) (λ nine. omega arith)

pub ranks-last_wrong : (word rest : List ℕ) (squares : Cells) (n : ℕ) → HasRanks word rest squares n → length rest ≤ position_or_len is_slash rest → rank_of rest ≡ None → squares_of (slice_split is_slash word) ≡ None
ranks-last_wrong word rest squares n has e r =
    no_ranks (slice_split is_slash word) (has.ranks ∙ (ap (λ (ps : List (List ℕ)). joined squares (ranks_of ps)) (one_part rest e)
    ∙ ap (λ (o : Option Cells). joined squares (both_joined o (Some []))) r))

pub ranks-last : (word rest : List ℕ) (squares rank new : Cells) → HasRanks word rest squares 8 → length rest ≤ position_or_len is_slash rest → rank_of rest ≡ Some rank → new ≡ squares ++ rank
    → squares_of (slice_split is_slash word) ≡ Some new
ranks-last word rest squares rank new has e r add =
    let count : length (slice_split is_slash rest) ≡ 1 = ap length (one_part rest e) in
    let all : length (slice_split is_slash word) ≡ 8 + length (slice_split is_slash rest) = has.parts in
    cond-true (length (slice_split is_slash word) == 9) _ _ (eq-eqb (length (slice_split is_slash word)) 9 (omega arith))
    ∙ (has.ranks ∙ (ap (λ (ps : List (List ℕ)). joined squares (ranks_of ps)) (one_part rest e)
    ∙ (ap (λ (o : Option Cells). joined squares (both_joined o (Some []))) r
    ∙ (ap (λ (c : Cells). Some (squares ++ c)) (append-nil rank) ∙ ap Some (sym add)))))

pub place_below : (square : ℕ) → square < 81 → place_in_text square < 81
place_below square below = omega arith

-- one more square is in its place
pub placed : (cells squares : Cells) (square : ℕ) (cell : Option Piece) → length cells ≡ 81 → square < 81 → cell ≡ get_or squares (place_in_text square) None
    → ((k : ℕ) → k < square → get_or cells k None ≡ get_or squares (place_in_text k) None)
    → (k : ℕ) → k < square + 1 → get_or (set cells square cell) k None ≡ get_or squares (place_in_text k) None
placed cells squares square cell len below is before k lt = elim (cases_eq k square) [
  | inl same ↦ ap (λ (i : ℕ). get_or (set cells square cell) i None) same ∙ (get_or-set_same cells square cell None (omega arith) ∙ (is ∙ ap (λ (i : ℕ). get_or squares (place_in_text i) None) (sym same)))
  | inr apart ↦ get_or-set_other cells square k cell None apart ∙ before k (let a : k ≢ square = apart in omega arith)
]

-- cells put in their places are the board
pub arranged : (cells squares : Cells) → length cells ≡ 81 → ((k : ℕ) → k < 81 → get_or cells k None ≡ get_or squares (place_in_text k) None) → cells ≡ board_from squares
arranged cells squares len each =
    let f : ℕ → Option Piece = λ (s : ℕ). piece_at squares (place_in_text s) in
    let other : length (map f (range_with_len 0 81)) ≡ 81 = length-map-range_with_len f 0 81 in
    ext_get_or None cells (map f (range_with_len 0 81)) (omega arith) (λ i below. each i (omega arith) ∙ sym (get_or-map-range_with_len f 0 81 i i None (omega arith) (omega arith)))
