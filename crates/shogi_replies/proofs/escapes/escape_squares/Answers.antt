use Rattle.std.proofs.Common.{◌∙◌, sym}
use Rattle.std.proofs.lemmas.Bool.{and_parts, not-true}
use Rattle.shogi_moves.proofs.EscapeLaws.{found_escapes}
use Rattle.shogi_replies.proofs.escapes.escape_squares.Goals as goal

pub returns : goal.returns
returns c = found_escapes c.args.p.now c.king_steps.result.bits c.unattacked.result.bits c.reveal_invariant.ensures c.king_steps.ensures
    (λ n h e. (
    let parts = and_parts _ _ (sym (rw (c.side.ensures, c.as_board.ensures) at c.unattacked.ensures.squares n h) ∙ e) in
    (parts.0, not-true _ parts.1)))
