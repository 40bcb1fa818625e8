use Rattle.std.proofs.Common.{Bool, not, ap, ◌∙◌, refl}
use Rattle.std.specs.Prelude.{◌&&◌, ◌==◌}
use Rattle.shogi_core.specs.Pieces.{opponent_of}
use Rattle.shogi_moves.specs.After.{piece_moved}
use Rattle.static_exchange.proofs.UnderWay.{exchange_after_legal}
use Rattle.static_exchange.proofs.square_exchange.SquareExchange.after_move.Goals as goal

pub returns-clause-exchange : goal.returns-clause-exchange
returns-clause-exchange c =
    let p = c.args.p.now in
    let mine = rw (c.as_board-board.ensures, c.opponent-other.ensures, c.side-side.ensures) at c.own.ensures.squares in
    let theirs = rw (c.as_board-board.ensures, c.side-side.ensures) at c.own-2.ensures.squares in
    exchange_after_legal p c.args.from c.args.to c.args.promote c.reveal_invariant.ensures c.reveal_invariant-2.ensures c.reveal_invariant-3.ensures c.requires _ c.as_board-board.ensures refl
    (c.piece_moved.ensures ∙ ap (piece_moved c.args.promote) (rw c.as_board-board.ensures at c.at.ensures)) (c.opponent-other.ensures ∙ ap opponent_of c.side-side.ensures)
    (λ n h. c.except.ensures n ∙ ap (λ (b : Bool). b && not (n == c.args.to)) (mine n h))
    (λ n h. c.except-2.ensures n ∙ ap (λ (b : Bool). b && not (n == c.args.from)) (theirs n h))
