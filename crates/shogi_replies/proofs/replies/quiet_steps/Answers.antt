use Rattle.std.proofs.Common.{◌∙◌, sym, ap}
use Rattle.std.proofs.lemmas.Bool.{both_ways}
use Rattle.shogi_core.specs.Bits.{has_bit}
use Rattle.shogi_core.specs.Cell.{is_immobile}
use Rattle.shogi_core.proofs.BitLaws.{has_bit-none}
use Rattle.shogi_replies.proofs.ReplyLaws.{steps_found}
use Rattle.shogi_replies.proofs.replies.quiet_steps.Goals as goal

pub returns-in-None : goal.returns-in-None
returns-in-None c = rw c.none.ensures (λ t h e. absurd (both_ways (has_bit 0 t) (has_bit-none t) e))

pub returns-in-Some : goal.returns-in-Some
returns-in-Some c =
    let stands : _ = sym c.at-cell.ensures ∙ c.in-Some.is in
    rw (c.without.ensures, c.bitand-steps.ensures) (steps_found c.args.p.now.cells c.in-Some.piece c.args.from c.step_squares.result.bits c.free.result.bits c.dead_squares.result.bits stands c.dead_squares.result.fits
    c.step_squares.ensures.squares (rw c.as_board.ensures at c.free.ensures.squares) (λ n h. c.dead_squares.ensures.squares n h ∙ ap (is_immobile n) (sym stands)))
