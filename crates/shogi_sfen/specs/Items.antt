-- The items of a rank's text (SFEN, board): numbers of empty squares, and pieces.
use Rattle.std.specs.Prelude.{ℕ, ◌+◌, ◌≤◌, List, [], ◌∷◌, Some, None, replicate}
use Rattle.shogi_core.specs.Movement.{Cells}
use Rattle.shogi_sfen.specs.declared.byte.TheConstants.{ZERO}
use Rattle.shogi_sfen.specs.declared.board_text.RankItem.{RankItem}
use Rattle.shogi_sfen.specs.declared.board_text.RankItem.TheVariants.{Empty, Occupied}
use Rattle.shogi_sfen.specs.declared.board_text.TheConstants.{RANK_SQUARES}
use Rattle.shogi_sfen.specs.Letters.{piece_text}

-- a run has one to nine squares
abbrev pub RunFits : RankItem → Type 0
RunFits (Empty n) = (1 ≤ n) × (n ≤ RANK_SQUARES)
RunFits (Occupied piece) = Unit {0}

-- the cells of an item
abbrev pub item_cells : RankItem → Cells
item_cells (Empty n) = replicate n None
item_cells (Occupied piece) = Some piece ∷ []

-- the text of an item: one digit, or the text of the piece
abbrev pub item_text : RankItem → List ℕ
item_text (Empty n) = (n + ZERO) ∷ []
item_text (Occupied piece) = piece_text piece
