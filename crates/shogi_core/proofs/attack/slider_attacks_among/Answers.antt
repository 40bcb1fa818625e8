use Rattle.std.proofs.Common.{◌≡◌, false, rules, sym, ◌∙◌}
use Rattle.std.proofs.lemmas.Bool.{or_from}
use Rattle.shogi_core.specs.Attack.{slider_attacks_along}
use Rattle.shogi_core.proofs.Below.{some_below_none, some_below_more, some_below_found}
use Rattle.shogi_core.proofs.SliderAttacks.{no_sniper_ahead}
use Rattle.shogi_core.proofs.attack.slider_attacks_among.Goals as goal
use Rattle.shogi_core.proofs.attack.slider_attacks_among.Goals.{else-has_sniper-via-then-has_sniper+else-slider_attacks_past, else-has_sniper-via-else-has_sniper}

pub directions-init : goal.directions-init
directions-init c = λ color seen shows. rw c.all-left.ensures (some_below_none (slider_attacks_along seen color c.args.square))

pub returns-then-slider_attacks_past : goal.returns-then-slider_attacks_past
returns-then-slider_attacks_past c = λ color seen shows. some_below_found 8 (slider_attacks_along seen color c.args.square) c.in-Some.direction c.in-Some.ensures.range (search (rules, c.slider_attacks_past.ensures color seen shows))

pub directions-preserved : goal.directions-preserved
directions-preserved c = λ color seen shows.
    let clear : slider_attacks_along seen color c.args.square c.in-Some.direction ≡ false = elim c.else-has_sniper.branch [
      | else-has_sniper-via-then-has_sniper+else-slider_attacks_past w ↦ sym (w.slider_attacks_past.ensures color seen shows) ∙ w.if-slider_attacks_past.false
      | else-has_sniper-via-else-has_sniper w ↦ no_sniper_ahead seen color c.args.square c.reveal_invariant.ensures c.args.snipers.bits shows.snipers_on c.in-Some.direction c.in-Some.ensures.range (c.has_sniper.ensures.0 w.if-has_sniper.false)
    ] in
    rw c.in-Some.ensures.rest (some_below_more c.in-Some.direction (slider_attacks_along seen color c.args.square) ∙ or_from _ _ (rw (sym c.in-Some.ensures.some) at c.directions.invariant color seen shows) clear)
