use Rattle.std.proofs.Common.{arith, refl, ◌∙◌}
use Rattle.std.proofs.lemmas.List.{length-set}
use Rattle.shogi_sfen.proofs.BoardLaws.{arranged, place_below, placed}
use Rattle.shogi_sfen.proofs.board_text.arrange.Goals as goal

pub returns : goal.returns
returns c = arranged c.loop-square.cells c.args.squares.now c.loop-square.invariant.len (λ k below. c.loop-square.invariant.each k (omega arith))

pub bounds-squares-square : goal.bounds-squares-square
bounds-squares-square c = rw c.requires (place_below c.loop-square.square c.loop-square-test.true)

pub loop-square-preserved : goal.loop-square-preserved
loop-square-preserved c = record {
  len = length-set _ c.loop-square.square _ ∙ c.loop-square.invariant.len;
  each = placed c.loop-square.cells c.args.squares.now c.loop-square.square _ c.loop-square.invariant.len c.loop-square-test.true refl c.loop-square.invariant.each;
}
