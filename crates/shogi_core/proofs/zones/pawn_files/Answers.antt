use Rattle.std.proofs.Common.{rules, arith}
use Rattle.std.proofs.lemmas.Nat.{or_lt}
use Rattle.shogi_core.proofs.PawnFiles.{pawn_files_right}
use Rattle.shogi_core.proofs.zones.pawn_files.Goals as goal

pub returns : goal.returns
returns c = record {
  squares =
      pawn_files_right c.args.p.now.cells c.args.side _ c.own.result.bits c.sliders.result.bits c.kings.result.bits c.union.result.bits c.reveal_invariant.ensures.cells_fit (or_lt 128 c.sliders.result.bits c.kings.result.bits (omega (arith, c.sliders.result.fits)) (omega (arith, c.kings.result.fits)))
      (rw c.as_board-board.ensures at c.own.ensures.squares) (rw c.as_board-board.ensures at c.sliders.ensures.squares) (rw c.as_board-board.ensures at c.kings.ensures.squares) (λ k led h p. search rules) (rw (c.without-steppers.ensures, c.bitor.ensures) at c.union.ensures.union);
}
