use Rattle.std.proofs.Common.{◌≡◌, Bool, Option, refl, sym, ap, ◌∙◌}
use Rattle.shogi_core.specs.declared.piece.Piece.{Piece}
use Rattle.shogi_core.specs.Movement.{piece_at}
use Rattle.shogi_core.specs.Pieces.{opponent_of}
use Rattle.shogi_core.specs.Zones.{may_promote}
use Rattle.shogi_moves.specs.After.{piece_moved}
use Rattle.static_exchange.specs.Takers.{promotes}
use Rattle.static_exchange.proofs.UnderWay.{after_exchange, first_same}
use Rattle.static_exchange.proofs.square_exchange.SquareExchange.after.Goals as goal

pub returns-clause-after : goal.returns-clause-after
returns-clause-after c = λ p e t.
    let x = c.args.self.now in
    let at : c.at-cell.result ≡ piece_at p.cells c.args.from = c.at-cell.ensures ∙ sym (first_same p x c.reveal_invariant.ensures e c.args.from t) in
    let may : c.may_promote.result ≡ promotes p x.square c.args.from = c.may_promote.ensures ∙ ap (λ (cell : Option Piece). may_promote cell c.args.from x.square) at in
    let stands : c.piece_moved.result ≡ piece_moved (promotes p x.square c.args.from) (piece_at p.cells c.args.from) =
    c.piece_moved.ensures ∙ (ap (λ (b : Bool). piece_moved b c.at-cell.result) may ∙ ap (piece_moved (promotes p x.square c.args.from)) at) in
    after_exchange p x c.reveal_invariant.ensures e c.args.from t _ refl refl stands (c.opponent.ensures ∙ ap opponent_of e.side) refl (λ n. c.except.ensures n)
