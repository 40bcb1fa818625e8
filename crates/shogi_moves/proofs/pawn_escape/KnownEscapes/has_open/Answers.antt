use Rattle.std.proofs.Common.{◌≡◌, ◌∙◌, ap, sym}
use Rattle.std.proofs.lemmas.Bool.{not-true}
use Rattle.shogi_core.specs.Pieces.{opponent_of}
use Rattle.shogi_moves.proofs.DestinationLaws.{some_there}
use Rattle.shogi_moves.proofs.EscapeLaws.{found_open}
use Rattle.shogi_moves.proofs.pawn_escape.KnownEscapes.has_open.Goals as goal

pub returns : goal.returns
returns c = λ e.
    let side : c.opponent.result ≡ opponent_of c.args.self.now.position.now.side = c.opponent.ensures ∙ ap opponent_of c.side.ensures in
    found_open c.args.self.now.position.now c.args.self.now.squares.bits c.args.closed.bits c.kings-kings.result.bits c.except.result.bits c.args.to c.args.self.now.right c.args.closed.fits c.kings-kings.result.fits c.except.result.fits
    (rw (side, c.as_board.ensures) at c.kings-kings.ensures.squares) (some_there _ _ c.is_empty.ensures c.if-is_empty.false) (sym c.has.ensures ∙ c.if-has.false)
    (rw c.without.ensures at c.except.ensures) (some_there _ _ c.is_empty-2.ensures (not-true _ e))
