use Rattle.std.proofs.Common.{◌≡◌, ◌≢◌, ◌∙◌, [], true, ap, sym, subst}
use Rattle.std.proofs.lemmas.Bool.{not-true}
use Rattle.shogi_core.specs.declared.moves.Move.{Move}
use Rattle.shogi_core.specs.Pieces.{opponent_of}
use Rattle.shogi_moves.specs.After.{after}
use Rattle.shogi_moves.specs.Legal.{is_legal}
use Rattle.shogi_moves.specs.LegalMoves.{legal_codes}
use Rattle.shogi_moves.proofs.DestinationLaws.{some_there}
use Rattle.shogi_replies.proofs.KingReplies.{covered_board, taken_drop}
use Rattle.shogi_replies.proofs.replies.KnownReplies.leaves_king_move.Goals as goal

pub returns-else-not-has_no_sniper : goal.returns-else-not-has_no_sniper
returns-else-not-has_no_sniper c = λ e legal. subst (λ (m : Move). legal_codes (after c.args.self.now.position.now m) ≢ []) (sym c.in-Board.is)
    (covered_board c.args.self.now.position.now c.in-Board.from c.in-Board.to c.step_squares.result.bits c.in-Board.promote c.in-Some.piece c.reveal_invariant.ensures c.reveal_invariant-in-Board.ensures c.reveal_invariant-in-Board-2.ensures
    (subst (λ (m : Move). is_legal c.args.self.now.position.now m ≡ true) c.in-Board.is legal)
    ((rw c.at.ensures at (sym c.piece_moved.ensures)) ∙ c.in-Some.is)
    (sym c.is_sliding.ensures ∙ c.if-is_sliding.false)
    (c.has_no_sniper.ensures c.if-not-has_no_sniper.false)
    c.step_squares.ensures.squares (c.has_open.ensures e))

pub returns-then-has : goal.returns-then-has
returns-then-has c = λ e legal.
    let side : c.opponent.result ≡ opponent_of c.args.self.now.position.now.side = c.opponent.ensures ∙ ap opponent_of c.side.ensures in
    subst (λ (m : Move). legal_codes (after c.args.self.now.position.now m) ≢ []) (sym c.in-Drop.is)
    (taken_drop c.args.self.now.position.now c.in-Drop.kind c.args.self.now.escapes.bits c.kings.result.bits c.in-Drop.to c.reveal_invariant.ensures c.reveal_invariant-in-Drop.ensures c.args.self.now.escaping c.kings.result.fits
    (rw (side, c.as_board.ensures) at c.kings.ensures.squares) (some_there _ _ c.is_empty-then-has.ensures (not-true _ e)) (sym c.has.ensures ∙ c.if-has.true))
