use Rattle.std.proofs.Common.{refl}
use Rattle.shogi_core.proofs.Opening.{start_black, start_white, start_kings, start_sliders, start_words}
use Rattle.shogi_core.proofs.board.Board.start.Goals as goal

pub invariant_of-result : goal.invariant_of-result
invariant_of-result c = rw c.start_cells.ensures (refl, start_black, start_white, start_kings, start_sliders, start_words)
