-- Written items are read as themselves, and a written rank as its cells.
use Rattle.std.proofs.Common.{◌≡◌, ℕ, ◌+◌, ◌≤◌, false, refl, sym, ◌∙◌, ap, arith, List, [], ◌∷◌, ◌++◌, length, append-nil, Option, Some, None, add-one}
use Rattle.std.specs.Prelude.{◌==◌, ◌&&◌, zero, suc, nat_lt, replicate}
use Rattle.std.specs.List.{flat_map}
use Rattle.std.proofs.lemmas.Bool.{cond-true, cond-false, and_from, lt-ltb, eq-eqb, ne_eqb}
use Rattle.shogi_core.specs.declared.piece.Color.{Color}
use Rattle.shogi_core.specs.declared.piece.Color.TheVariants.{Black, White}
use Rattle.shogi_core.specs.declared.piece.Role.{Role}
use Rattle.shogi_core.specs.declared.piece.Role.TheVariants.{Pawn}
use Rattle.shogi_core.specs.Movement.{Cells}
use Rattle.shogi_sfen.specs.declared.board_text.RankItem.{RankItem}
use Rattle.shogi_sfen.specs.declared.board_text.RankItem.TheVariants.{Empty, Occupied}
use Rattle.shogi_sfen.specs.Letters.{piece_named, piece_text}
use Rattle.shogi_sfen.specs.Items.{RunFits, item_cells, item_text}
use Rattle.shogi_sfen.specs.BoardTexts.{is_first_plus, onto_items, items_from, squares_in, only_nine, rank_of}
use Rattle.shogi_sfen.specs.Written.{run_text, cells_text}

piece_back : (color : Color) (role : Role) (rest : List ℕ)
    → items_from false (piece_text (record { color = color; role = role }) ++ rest) ≡ onto_items (Some (Occupied (record { color = color; role = role }))) (items_from false rest)
unfolding piece_named
piece_back Black Pawn rest = refl
piece_back White Pawn rest = refl
piece_back Black role rest = refl
piece_back White role rest = refl

-- an item before other items is read
pub item_back : (item : RankItem) (rest : List ℕ) → RunFits item → items_from false (item_text item ++ rest) ≡ onto_items (Some item) (items_from false rest)
item_back (Empty n) rest h =
    let low : 1 ≤ n = h.0 in
    let high : n ≤ 9 = h.1 in
    cond-false (is_first_plus false (n + 48)) _ _ (ne_eqb (n + 48) 43 (λ e. omega arith))
    ∙ ap (λ o. onto_items o (items_from false rest)) (cond-true (nat_lt 48 (n + 48) && nat_lt (n + 48) 58) _ _ (and_from _ _ (lt-ltb 48 (n + 48) (omega arith)) (lt-ltb (n + 48) 58 (omega arith))) ∙ ap (λ (m : ℕ). Some (Empty m)) (omega arith))
item_back (Occupied piece) rest h = piece_back piece.color piece.role rest

more_squares : (item : RankItem) (items : Option (List RankItem)) (cells : Cells) → squares_in items ≡ Some cells → squares_in (onto_items (Some item) items) ≡ Some (item_cells item ++ cells)
more_squares item None cells e = cc
more_squares item (Some items) cells e = let same : flat_map item_cells items ≡ cells = cc in ap (λ (c : Cells). Some (item_cells item ++ c)) same

-- an item's cells come first
in_front : (item : RankItem) (rest : List ℕ) (cells : Cells) → RunFits item → squares_in (items_from false rest) ≡ Some cells → squares_in (items_from false (item_text item ++ rest)) ≡ Some (item_cells item ++ cells)
in_front item rest cells h e = ap squares_in (item_back item rest h) ∙ more_squares item (items_from false rest) cells e

-- a run of empty squares is read
run_back : (n : ℕ) (rest : List ℕ) (cells : Cells) → n ≤ 9 → squares_in (items_from false rest) ≡ Some cells → squares_in (items_from false (run_text n ++ rest)) ≡ Some (replicate n None ++ cells)
run_back zero rest cells h e = e
run_back (suc k) rest cells h e =
    ap (λ (t : List ℕ). squares_in (items_from false (t ++ rest))) (cond-false (suc k == 0) [] ((suc k + 48) ∷ []) (ne_eqb (suc k) 0 (λ z. omega arith)))
    ∙ in_front (Empty (suc k)) rest cells (omega arith, h) e

one_more_empty : (n : ℕ) (cells : Cells) → replicate (suc n) None ++ cells ≡ replicate n None ++ (None ∷ cells)
one_more_empty zero cells = refl
one_more_empty (suc n) cells = ap (λ (c : Cells). None ∷ c) (one_more_empty n cells)

cells_back : (cells : Cells) (run : ℕ) → run + length cells ≤ 9 → squares_in (items_from false (cells_text run cells)) ≡ Some (replicate run None ++ cells)
cells_back [] run h = ap (λ (t : List ℕ). squares_in (items_from false t)) (sym (append-nil (run_text run))) ∙ run_back run [] [] (omega arith) refl
cells_back (None ∷ cells) run h =
    cells_back cells (run + 1) (omega arith) ∙ ap Some (ap (λ (n : ℕ). replicate n None ++ cells) (add-one run) ∙ one_more_empty run cells)
cells_back (Some piece ∷ cells) run h =
    run_back run (piece_text piece ++ cells_text 0 cells) (Some piece ∷ cells) (omega arith) (in_front (Occupied piece) (cells_text 0 cells) cells tt (cells_back cells 0 (omega arith)))

-- nine cells are written and read back
pub rank_of-cells_text : (cells : Cells) → length cells ≡ 9 → rank_of (cells_text 0 cells) ≡ Some cells
unfolding rank_of
rank_of-cells_text cells nine =
    ap only_nine (cells_back cells 0 (omega arith)) ∙ cond-true (length cells == 9) _ _ (eq-eqb (length cells) 9 nine)
