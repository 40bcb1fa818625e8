use Rattle.shogi_core.specs.Cell.{is_slider}
use Rattle.shogi_core.proofs.MaskLaws.{has_bit-places, places_fit}
use Rattle.shogi_core.proofs.board.Board.sliders.Goals as goal

pub invariant_of-result : goal.invariant_of-result
invariant_of-result c = record { fits = rw c.self.invariant.4 (places_fit is_slider c.self.inside.cells) }

pub returns : goal.returns
returns c = record { squares = λ n h. rw (c.self.invariant.4, ← c.self.view_is) (has_bit-places is_slider c.self.inside.cells n h) }
