-- A board is read if and only if it is spelled.
use Rattle.std.proofs.Common.{◌≡◌, ℕ, ◌+◌, ◌-◌, ◌*◌, ◌<◌, Bool, true, false, cond, refl, sym, ◌∙◌, ap, arith, List, [], ◌∷◌, ◌++◌, length, get_or, Option, Some, None, zero-add}
use Rattle.std.specs.Prelude.{◌==◌, zero, suc, map}
use Rattle.std.specs.List.{flat_map, range_with_len, slice_split, join_with_byte, All}
use Rattle.std.specs.Option.{option_map}
use Rattle.std.proofs.lemmas.Bool.{cond-true, eqb-true, eq-eqb}
use Rattle.std.proofs.lemmas.List.{ext_get_or, get_or_append_left, get_or-append-add}
use Rattle.std.proofs.lemmas.List.Splits.{slice_split_none, slice_split_at, join_with_byte-slice_split}
use Rattle.std.proofs.lemmas.List.FromFn.{length-map-range_with_len, get_or-map-range_with_len}
use Rattle.shogi_core.specs.declared.piece.Piece.{Piece}
use Rattle.shogi_core.specs.Movement.{Cells, piece_at}
use Rattle.shogi_sfen.specs.BoardTexts.{rank_of, both_joined, ranks_of, is_slash, place_in_text, board_from, squares_of, board_of}
use Rattle.shogi_sfen.specs.Written.{rank_cells}
use Rattle.shogi_sfen.specs.Spelling.{SpellsRank, SpellsBoard}
use Rattle.shogi_sfen.proofs.WrittenBack.{board_from-ranks}
use Rattle.shogi_sfen.proofs.SpelledRanks.{SpellsRank-read, rank_of-spelled, no_slash_in}

-- two lists of cells that were both read
record AreBoth (o more : Option Cells) (squares : Cells) : Type 0 where
  first : Cells
  others : Cells
  one : o ≡ Some first
  two : more ≡ Some others
  all : first ++ others ≡ squares

are_both : (o more : Option Cells) (squares : Cells) → both_joined o more ≡ Some squares → AreBoth o more squares
are_both None more squares e = cc
are_both (Some first) None squares e = cc
are_both (Some first) (Some others) squares e = record { first = first; others = others; one = refl; two = refl; all = cc }

-- a rank that was read and its place in the cells
record IsRankAt (parts : List (List ℕ)) (squares : Cells) (k : ℕ) : Type 0 where
  cells : Cells
  read : rank_of (get_or parts k []) ≡ Some cells
  nine : length cells ≡ 9
  each : (i : ℕ) → i < 9 → get_or cells i None ≡ get_or squares (k * 9 + i) None

rank_at : (parts : List (List ℕ)) (squares : Cells) → ranks_of parts ≡ Some squares → (k : ℕ) → k < length parts → IsRankAt parts squares k
rank_at [] squares e k below = absurd (omega arith)
rank_at (part ∷ parts) squares e zero below =
    let b : AreBoth (rank_of part) (ranks_of parts) squares = are_both (rank_of part) (ranks_of parts) squares e in
    let s : SpellsRank part b.first = SpellsRank-read part b.first b.one in
    let nine : length b.first ≡ 9 = s.nine in
    record {
      cells = b.first;
      read = b.one;
      nine = nine;
      each = λ i small. sym (ap (λ (c : Cells). get_or c (0 * 9 + i) None) (sym b.all) ∙ (ap (λ (n : ℕ). get_or (b.first ++ b.others) n None) (omega arith) ∙ get_or_append_left b.first b.others None i (omega arith)));
    }
rank_at (part ∷ parts) squares e (suc k) below =
    let b : AreBoth (rank_of part) (ranks_of parts) squares = are_both (rank_of part) (ranks_of parts) squares e in
    let s : SpellsRank part b.first = SpellsRank-read part b.first b.one in
    let nine : length b.first ≡ 9 = s.nine in
    let r : IsRankAt parts b.others k = rank_at parts b.others b.two k (omega arith) in
    record {
      cells = r.cells;
      read = r.read;
      nine = r.nine;
      each = λ i small. r.each i small ∙ sym (ap (λ (c : Cells). get_or c (suc k * 9 + i) None) (sym b.all)
          ∙ (ap (λ (n : ℕ). get_or (b.first ++ b.others) n None) (omega arith) ∙ get_or-append-add b.first b.others (k * 9 + i) None));
    }

-- a rank that was read is a rank of the board
rank_there : (parts : List (List ℕ)) (squares : Cells) (k : ℕ) (r : IsRankAt parts squares k) → k < 9 → r.cells ≡ rank_cells (board_from squares) k
rank_there parts squares k r small =
    let place : ℕ → Option Piece = λ (s : ℕ). piece_at squares (place_in_text s) in
    let square : ℕ → Option Piece = λ (i : ℕ). piece_at (board_from squares) ((8 - i) * 9 + k) in
    let nine : length r.cells ≡ 9 = r.nine in
    let len : length (map square (range_with_len 0 9)) ≡ 9 = length-map-range_with_len square 0 9 in
    ext_get_or None r.cells (map square (range_with_len 0 9)) (omega arith)
    (λ i below.
    let few : i < 9 = omega arith in
    r.each i few
    ∙ (ap (λ (n : ℕ). get_or squares n None) (omega arith)
    ∙ sym (get_or-map-range_with_len square 0 9 i i None few (zero-add i)
    ∙ get_or-map-range_with_len place 0 81 ((8 - i) * 9 + k) ((8 - i) * 9 + k) None (omega arith) (zero-add ((8 - i) * 9 + k)))))

-- nine ranks that were read
record AreNine (parts : List (List ℕ)) (squares : Cells) : Type 0 where
  nine : length parts ≡ 9
  ranks : ranks_of parts ≡ Some squares

at_nine : (b : Bool) (parts : List (List ℕ)) (squares : Cells) → (length parts == 9) ≡ b → cond b (ranks_of parts) None ≡ Some squares → AreNine parts squares
at_nine true parts squares t e = record { nine = eqb-true (length parts) 9 t; ranks = e }
at_nine false parts squares t e = cc

-- a board that was read
record IsBoardOf (o : Option Cells) (cells : Cells) : Type 0 where
  squares : Cells
  found : o ≡ Some squares
  same : board_from squares ≡ cells

is_board : (o : Option Cells) (cells : Cells) → option_map board_from o ≡ Some cells → IsBoardOf o cells
is_board None cells e = cc
is_board (Some squares) cells e = record { squares = squares; found = refl; same = cc }

-- a board that is read is spelled
pub SpellsBoard-read : (text : List ℕ) (cells : Cells) → board_of text ≡ Some cells → SpellsBoard text cells
unfolding board_of
SpellsBoard-read text cells e =
    let parts : List (List ℕ) = slice_split is_slash text in
    let b : IsBoardOf (squares_of parts) cells = is_board (squares_of parts) cells e in
    let n : AreNine parts b.squares = at_nine (length parts == 9) parts b.squares refl b.found in
    let nine : length parts ≡ 9 = n.nine in
    record {
      cells_fit = ap length (sym b.same) ∙ length-map-range_with_len (λ (s : ℕ). piece_at b.squares (place_in_text s)) 0 81;
      ranks = parts;
      nine = nine;
      each = λ k below.
          let r : IsRankAt parts b.squares k = rank_at parts b.squares n.ranks k (omega arith) in
          SpellsRank-read (get_or parts k []) (rank_cells cells k) (r.read ∙ ap Some (rank_there parts b.squares k r below ∙ ap (λ (c : Cells). rank_cells c k) b.same));
      spelled = join_with_byte-slice_split 47 text;
    }

-- parts without slashes are the parts between the slashes
parts_between : (parts : List (List ℕ)) → 0 < length parts → ((k : ℕ) → k < length parts → All (λ x. is_slash x ≡ false) (get_or parts k [])) → slice_split is_slash (join_with_byte 47 parts) ≡ parts
parts_between [] some plain = absurd (omega arith)
parts_between (part ∷ []) some plain = slice_split_none is_slash part (plain 0 (omega arith))
parts_between (part ∷ next ∷ parts) some plain =
    slice_split_at is_slash part 47 (join_with_byte 47 (next ∷ parts)) (plain 0 (omega arith)) refl
    ∙ ap (λ (ps : List (List ℕ)). part ∷ ps) (parts_between (next ∷ parts) (omega arith) (λ k below. plain (suc k) (omega arith)))

-- spelled ranks are read one after another
ranks_read : (cells : Cells) (parts : List (List ℕ)) (a : ℕ) → ((k : ℕ) → k < length parts → rank_of (get_or parts k []) ≡ Some (rank_cells cells (a + k)))
    → ranks_of parts ≡ Some (flat_map (rank_cells cells) (range_with_len a (length parts)))
ranks_read cells [] a each = refl
ranks_read cells (part ∷ parts) a each =
    let here : rank_of part ≡ Some (rank_cells cells a) = each 0 (omega arith) ∙ ap (λ (n : ℕ). Some (rank_cells cells n)) (omega arith) in
    let later : ranks_of parts ≡ Some (flat_map (rank_cells cells) (range_with_len (a + 1) (length parts))) =
    ranks_read cells parts (a + 1) (λ k below. each (suc k) (omega arith) ∙ ap (λ (n : ℕ). Some (rank_cells cells n)) (omega arith)) in
    ap (λ (o : Option Cells). both_joined o (ranks_of parts)) here ∙ ap (both_joined (Some (rank_cells cells a))) later

-- a board that is spelled is read
pub board_of-spelled : (text : List ℕ) (cells : Cells) → SpellsBoard text cells → board_of text ≡ Some cells
unfolding board_of
board_of-spelled text cells s =
    let nine : length s.ranks ≡ 9 = s.nine in
    let split : slice_split is_slash text ≡ s.ranks =
    ap (slice_split is_slash) (sym s.spelled) ∙ parts_between s.ranks (omega arith) (λ k below. no_slash_in (get_or s.ranks k []) (rank_cells cells k) (s.each k (omega arith))) in
    let read : ranks_of s.ranks ≡ Some (flat_map (rank_cells cells) (range_with_len 0 9)) =
    ranks_read cells s.ranks 0 (λ k below. rank_of-spelled (get_or s.ranks k []) (rank_cells cells k) (s.each k (omega arith)) ∙ ap (λ (n : ℕ). Some (rank_cells cells n)) (sym (zero-add k)))
    ∙ ap (λ (n : ℕ). Some (flat_map (rank_cells cells) (range_with_len 0 n))) nine in
    ap (λ (ps : List (List ℕ)). option_map board_from (squares_of ps)) split
    ∙ (ap (option_map board_from) (cond-true (length s.ranks == 9) (ranks_of s.ranks) None (eq-eqb (length s.ranks) 9 nine) ∙ read)
    ∙ ap Some (board_from-ranks cells s.cells_fit))
