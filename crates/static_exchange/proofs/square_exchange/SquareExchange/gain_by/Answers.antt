use Rattle.std.proofs.Common.{◌≡◌, ◌∙◌, ap, sym, arith, Bool, Option}
use Rattle.std.proofs.lemmas.Int.{ints}
use Rattle.shogi_core.specs.declared.piece.Piece.{Piece}
use Rattle.shogi_core.specs.Movement.{piece_at}
use Rattle.shogi_core.specs.Zones.{may_promote}
use Rattle.shogi_eval.specs.declared.eval.Eval.TheVariants.{Exchange}
use Rattle.shogi_eval.specs.Material.{promotion_gain, taken_gain}
use Rattle.static_exchange.specs.Takers.{promotes}
use Rattle.static_exchange.proofs.UnderWay.{first_same}
use Rattle.static_exchange.proofs.Won.{gain_first}
use Rattle.static_exchange.proofs.square_exchange.SquareExchange.gain_by.Goals as goal

pub returns-clause-gain : goal.returns-clause-gain
returns-clause-gain c = λ p e t.
    let x = c.args.self.now in
    let law : _ = gain_first p x.square c.args.from e.valid c.reveal_invariant.ensures t in
    let at : c.at-cell.result ≡ piece_at p.cells c.args.from = c.at-cell.ensures ∙ sym (first_same p x c.reveal_invariant.ensures e c.args.from t) in
    let taken : c.taken_gain.result ≡ taken_gain Exchange (piece_at p.cells x.square) = c.taken_gain.ensures.value ∙ ap (taken_gain Exchange) (sym e.stands) in
    let may : c.may_promote-promote.result ≡ promotes p x.square c.args.from = c.may_promote-promote.ensures ∙ ap (λ (cell : Option Piece). may_promote cell c.args.from x.square) at in
    let promotion : c.promotion_gain.result ≡ promotion_gain (promotes p x.square c.args.from) (piece_at p.cells c.args.from) =
    c.promotion_gain.ensures.value ∙ (ap (λ (b : Bool). promotion_gain b c.at-cell.result) may ∙ ap (promotion_gain (promotes p x.square c.args.from)) at) in
    omega (arith, ints, law, taken, promotion)
