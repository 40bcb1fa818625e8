use Rattle.std.proofs.Common.{ℕ, arith, ap, ◌∙◌}
use Rattle.shogi_core.specs.Bits.{has_bit}
use Rattle.shogi_core.proofs.BitLaws.{has_bit-none}
use Rattle.static_exchange.proofs.Won.{begins_off, won_exactly}
use Rattle.static_exchange.proofs.exchanges.won_elsewhere.Goals as goal

pub squares-init : goal.squares-init
squares-init c = record {
  fits = c.except-left.result.fits;
  range = c.requires.range;
  window = c.requires.window;
  won = c.requires.won;
  others = begins_off c.args.p.now c.targets.result.bits c.except-left.result.bits c.args.last c.args.floor c.targets.ensures c.except-left.ensures c.requires.last;
}

pub returns-clause-below : goal.returns-clause-below
returns-clause-below c = λ _. won_exactly c.args.p.now c.squares.most c.squares.invariant.won (λ s h. c.squares.invariant.others s h (ap (λ (m : ℕ). has_bit m s) (omega (arith, c.squares-test.false)) ∙ has_bit-none s))
