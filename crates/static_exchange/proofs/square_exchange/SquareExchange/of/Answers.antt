use Rattle.std.proofs.Common.{rules, ◌≡◌, false, sym, ◌∙◌}
use Rattle.std.proofs.lemmas.Bool.{both_ways, false_from_ne_true}
use Rattle.shogi_core.specs.Bits.{has_bit}
use Rattle.shogi_core.specs.Cell.{is_piece_of}
use Rattle.shogi_core.specs.Movement.{piece_at}
use Rattle.shogi_core.specs.Pieces.{opponent_of}
use Rattle.static_exchange.specs.Takers.{is_taker}
use Rattle.static_exchange.proofs.Cheapest.{taker_none, takes_foe}
use Rattle.static_exchange.proofs.square_exchange.SquareExchange.of.Goals as goal

pub returns-then-not-has-clause-if_none : goal.returns-then-not-has-clause-if_none
returns-then-not-has-clause-if_none c = λ _.
    let p = c.args.p.now in
    let clear : has_bit c.own-theirs.result.bits c.args.square ≡ false = search rules in
    let off : is_piece_of (opponent_of p.side) (piece_at p.cells c.args.square) ≡ false = sym ((rw (c.as_board-board.ensures, c.opponent.ensures, c.side-side.ensures) at c.own-theirs.ensures.squares) c.args.square c.reveal_invariant-2.ensures) ∙ clear in
    taker_none p c.args.square c.reveal_invariant.ensures c.reveal_invariant-2.ensures (λ n h some. false_from_ne_true (is_taker p c.args.square n) (λ l.
    both_ways (is_piece_of (opponent_of p.side) (piece_at p.cells c.args.square)) off (takes_foe p c.args.square n some l)))
