use Rattle.std.proofs.Common.{◌≡◌, ℕ, false, Bool, sym, ap, ◌∙◌, arith}
use Rattle.std.specs.Prelude.{◌||◌}
use Rattle.shogi_core.specs.Attack.{slider_attacks_from}
use Rattle.shogi_core.specs.Bits.{has_bit}
use Rattle.shogi_core.specs.Below.{some_below}
use Rattle.shogi_core.specs.Rays.{direction_at}
use Rattle.shogi_core.proofs.Below.{some_below_none, some_below_more}
use Rattle.shogi_core.proofs.BitLaws.{has_bit-none}
use Rattle.shogi_core.proofs.SliderAttacks.{one_more_slider, no_more_slider}
use Rattle.shogi_core.proofs.attack.sliders_among.Goals as goal

pub directions-init : goal.directions-init
directions-init c = λ color seen shows n h.
    rw (c.all-left.ensures, c.none-found.ensures) (has_bit-none n ∙ sym (some_below_none (λ d. slider_attacks_from seen color c.args.square (direction_at d) n)))

pub directions-preserved-in-Some-first_slider : goal.directions-preserved-in-Some-first_slider
directions-preserved-in-Some-first_slider c = λ color seen shows n h.
    rw c.in-Some.ensures.rest (one_more_slider seen color c.args.square n c.in-Some.direction c.directions.found.bits c.with-found.result.bits c.in-Some-first_slider.first
    (rw (sym c.in-Some.ensures.some) at c.directions.invariant color seen shows n h) (c.with-found.ensures n) (c.in-Some-first_slider.ensures.slider color seen shows n h))

pub directions-preserved : goal.directions-preserved
directions-preserved c = λ color seen shows n h.
    rw c.in-Some.ensures.rest (no_more_slider seen color c.args.square n c.in-Some.direction c.directions.found.bits
    (rw (sym c.in-Some.ensures.some) at c.directions.invariant color seen shows n h) (c.in_default-first_slider.ensures.slider color seen shows n h))
