use Rattle.std.proofs.Common.{sym, ◌∙◌}
use Rattle.analogous_moves.specs.SpareMoves.{IsFreeStep}
use Rattle.analogous_moves.proofs.SpareMoves.{some_found, spare_by_three, unbound}
use Rattle.analogous_moves.proofs.spare_moves.has_spare_moves.Goals as goal

pub returns : goal.returns
returns c = λ e.
    let last = some_found (IsFreeStep c.args.p.now.cells c.except.result.bits c.with.result.bits) c.free_step-3.result c.free_step-3.ensures (sym c.is_some.ensures ∙ e) in
    spare_by_three c.args.p.now c.args.king c.without-pieces.result.bits c.except-others.result.bits c.except.result.bits c.none.result.bits c.none-2.result.bits c.with-taken.result.bits c.with.result.bits c.in-Some.one c.in-Some-free_step.two last.0
    (unbound c.args.p.now c.args.king c.own.result.bits c.line_mask.result.bits c.with-lines.result.bits c.without-pieces.result.bits (rw (c.opponent.ensures, c.side.ensures, c.as_board.ensures) at c.own.ensures.squares) c.line_mask.ensures.squares c.with-lines.ensures c.with-lines.result.fits c.without-pieces.ensures)
    c.except-others.ensures c.except.ensures c.with-taken.ensures c.with.ensures c.in-Some.ensures c.in-Some-free_step.ensures last.1
