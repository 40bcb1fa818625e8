-- How a rank grows item by item.
use Rattle.std.specs.Prelude.{◌≡◌, ◌+◌, ◌<◌, Bool, true, false, ◌++◌, Option, Some, None, length}
use Rattle.shogi_core.specs.Movement.{Cells}
use Rattle.shogi_sfen.specs.declared.board_text.RankItem.{RankItem}
use Rattle.shogi_sfen.specs.declared.board_text.TheConstants.{RANK_SQUARES}
use Rattle.shogi_sfen.specs.Items.{item_cells}

-- the item's squares were appended, or there is no item or no room for them
abbrev pub TakesItem : Option RankItem → Cells → Cells → Bool → Type 0
TakesItem None old new taken = taken ≡ false
TakesItem (Some item) old new true = new ≡ old ++ item_cells item
TakesItem (Some item) old new false = RANK_SQUARES < length old + length (item_cells item)
