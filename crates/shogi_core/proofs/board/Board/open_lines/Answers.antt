use Rattle.shogi_core.specs.declared.piece.Color.TheVariants.{Black}
use Rattle.shogi_core.proofs.SeenLaws.{lined_bits}
use Rattle.shogi_core.proofs.board.Board.open_lines.Goals as goal

pub returns : goal.returns
returns c = record {
  squares = λ n h. rw c.bitor.ensures
      (lined_bits c.args.self.now c.args.square n c.four_slides.result.bits c.four_slides-2.result.bits
      (c.four_slides.ensures.straight c.down.ensures Black n h) (c.four_slides-2.ensures.diagonal c.up_left.ensures Black n h));
}
