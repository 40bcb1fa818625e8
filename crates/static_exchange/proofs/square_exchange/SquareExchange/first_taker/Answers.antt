use Rattle.std.proofs.Common.{rules, ◌≡◌, ◌<◌, ℕ, true, arith, sym, ap, ◌∙◌}
use Rattle.shogi_core.specs.Bits.{has_bit}
use Rattle.shogi_core.proofs.BitLaws.{has_bit-none}
use Rattle.static_exchange.specs.Takers.{is_taker}
use Rattle.static_exchange.proofs.Cheapest.{first_of_all, none_out, taker_found, taker_none}
use Rattle.static_exchange.proofs.UnderWay.{first_in, some_stands}
use Rattle.static_exchange.proofs.square_exchange.SquareExchange.first_taker.Goals as goal

pub pieces-init : goal.pieces-init
pieces-init c = record {
  fits = c.reachers-left.result.fits;
  reach = λ p e n h on. sym (c.reachers-left.ensures p e n h) ∙ on;
  others = λ p e n h out. none_out p c.args.self.now.square c.reachers-left.result.bits n (c.reachers-left.ensures p e n h) out;
}

pub returns-then-may_take-clause-first : goal.returns-then-may_take-clause-first
returns-then-may_take-clause-first c = λ p e.
    let x = c.args.self.now in
    let low : c.first_of-from.result < 81 = search rules in
    let legal : is_taker p x.square c.first_of-from.result ≡ true = sym (c.may_take.ensures p e (c.pieces.invariant.reach p e c.first_of-from.result low c.first_of-from.ensures.among)) ∙ c.if-may_take.true in
    record {
      here = low;
      taker_is =
          taker_found p x.square c.first_of-from.result e.valid c.reveal_invariant.ensures low (some_stands p x c.reveal_invariant.ensures e) legal
          (first_of_all p x.square c.pieces.left c.first_of-from.result (c.pieces.invariant.others p e)
          (first_in p x c.reveal_invariant.ensures e c.pieces.left c.first_of-from.result low c.first_of-from.ensures.among (c.pieces.invariant.reach p e) c.first_of-from.ensures.first));
      legal = legal;
    }

pub returns-clause-if_none : goal.returns-clause-if_none
returns-clause-if_none c = λ _ p e. taker_none p c.args.self.now.square e.valid c.reveal_invariant.ensures (λ n h some. c.pieces.invariant.others p e n h (ap (λ (m : ℕ). has_bit m n) (omega (arith, c.pieces-test.false)) ∙ has_bit-none n))
