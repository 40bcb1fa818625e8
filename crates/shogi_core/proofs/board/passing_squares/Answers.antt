use Rattle.std.proofs.Common.{◌≡◌, ◌∙◌, sym, arith}
use Rattle.shogi_core.specs.Movement.{piece_at}
use Rattle.shogi_core.specs.Masks.{passes, places_of}
use Rattle.shogi_core.proofs.MaskLaws.{mask_none, mask_on, mask_off}
use Rattle.shogi_core.proofs.board.passing_squares.Goals as goal
use Rattle.shogi_core.proofs.board.passing_squares.Goals.{then-test, else-test}

pub loop-square-init : goal.loop-square-init
loop-square-init g c = λ test tells. sym (mask_none (passes test c.args.cells.now))

pub loop-square-preserved : goal.loop-square-preserved
loop-square-preserved g c = λ test tells.
    let told : c.test.result ≡ test (piece_at c.args.cells.now c.loop-square.square) = tells _ _ c.test.ensures in
    elim c.if-test.branch [
      | then-test w ↦ rw (w.mask-is, c.loop-square.invariant test tells) (mask_on c.loop-square.square (passes test c.args.cells.now) (omega arith) (sym told ∙ w.if-test.true))
      | else-test w ↦ rw w.mask-is (c.loop-square.invariant test tells ∙ mask_off c.loop-square.square (passes test c.args.cells.now) (sym told ∙ w.if-test.false))
    ]

pub returns : goal.returns
unfolding places_of
returns g c = λ test tells.
    let all : c.loop-square.square ≡ 81 = omega arith in
    rw all at c.loop-square.invariant test tells
