use Rattle.std.proofs.Common.{◌≡◌, false, sym, ◌∙◌}
use Rattle.std.proofs.lemmas.Bool.{or_from}
use Rattle.shogi_core.specs.Attack.{slider_attacks_along}
use Rattle.shogi_core.proofs.Below.{some_below_none, some_below_more}
use Rattle.shogi_core.proofs.SliderAttacks.{no_sniper_ahead}
use Rattle.shogi_core.proofs.attack.attacking_direction.Goals as goal
use Rattle.shogi_core.proofs.attack.attacking_direction.Goals.{else-has_sniper-via-then-has_sniper+else-slider_attacks_on, else-has_sniper-via-else-has_sniper}

pub directions-init : goal.directions-init
directions-init c = rw c.all-left.ensures (some_below_none (slider_attacks_along c.args.board.now c.args.by c.args.square))

pub directions-preserved : goal.directions-preserved
directions-preserved c =
    let clear : slider_attacks_along c.args.board.now c.args.by c.args.square c.in-Some.direction ≡ false = elim c.else-has_sniper.branch [
      | else-has_sniper-via-then-has_sniper+else-slider_attacks_on w ↦ sym w.slider_attacks_on.ensures ∙ w.if-slider_attacks_on.false
      | else-has_sniper-via-else-has_sniper w ↦ no_sniper_ahead c.args.board.now c.args.by c.args.square c.reveal_invariant.ensures c.args.snipers.bits c.requires.snipers c.in-Some.direction c.in-Some.ensures.range (c.has_sniper.ensures.0 w.if-has_sniper.false)
    ] in
    rw c.in-Some.ensures.rest (some_below_more c.in-Some.direction (slider_attacks_along c.args.board.now c.args.by c.args.square) ∙ or_from _ _ (rw (sym c.in-Some.ensures.some) at c.directions.invariant) clear)
