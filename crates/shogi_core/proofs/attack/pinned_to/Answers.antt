use Rattle.std.proofs.Common.{◌≡◌, false, sym, ◌∙◌}
use Rattle.std.proofs.lemmas.Bool.{or_from}
use Rattle.shogi_core.specs.Attack.{slider_attacks_along}
use Rattle.shogi_core.specs.Pieces.{opponent_of}
use Rattle.shogi_core.proofs.Below.{some_below_none, some_below_more, some_below_found}
use Rattle.shogi_core.proofs.Pins.{no_sniper_there, pins_to_none, pins_to_more}
use Rattle.shogi_core.proofs.SliderAttacks.{no_sniper_ahead}
use Rattle.shogi_core.proofs.attack.pinned_to.Goals as goal
use Rattle.shogi_core.proofs.attack.pinned_to.Goals.{else-has_sniper-via-then-has_sniper+else-slider_check_or_pin, else-has_sniper-via-else-has_sniper}

pub directions-init : goal.directions-init
directions-init c = rw (c.all-left.ensures, c.none-pinned.ensures) (record {
  pins = pins_to_none c.args.board.now c.args.side c.args.square;
  clear = some_below_none (slider_attacks_along c.args.board.now (opponent_of c.args.side) c.args.square);
})

pub directions-preserved : goal.directions-preserved
directions-preserved c =
    let pins = rw (sym c.in-Some.ensures.some) at c.directions.invariant.pins in
    let clear = rw (sym c.in-Some.ensures.some) at c.directions.invariant.clear in
    let missed : slider_attacks_along c.args.board.now (opponent_of c.args.side) c.args.square c.in-Some.direction ≡ false = elim c.else-has_sniper.branch [
      | else-has_sniper-via-then-has_sniper+else-slider_check_or_pin w ↦ sym w.slider_check_or_pin.ensures.shot ∙ w.if-slider_check_or_pin.false
      | else-has_sniper-via-else-has_sniper w ↦ no_sniper_ahead c.args.board.now (opponent_of c.args.side) c.args.square c.reveal_invariant.ensures c.args.snipers.bits c.requires.snipers c.in-Some.direction c.in-Some.ensures.range (c.has_sniper.ensures.0 w.if-has_sniper.false)
    ] in
    rw c.in-Some.ensures.rest (record {
      pins = elim c.else-has_sniper.branch [
        | else-has_sniper-via-then-has_sniper+else-slider_check_or_pin w ↦ rw w.pinned-is (pins_to_more c.args.board.now c.args.side c.args.square c.in-Some.direction c.directions.pinned.bits w.slider_check_or_pin.new.pinned.bits pins w.slider_check_or_pin.ensures.kept (w.slider_check_or_pin.ensures.all w.if-slider_check_or_pin.false))
        | else-has_sniper-via-else-has_sniper w ↦ rw w.pinned-is (pins_to_more c.args.board.now c.args.side c.args.square c.in-Some.direction c.directions.pinned.bits c.directions.pinned.bits pins (λ n e. e)
            (λ n a l h pin. no_sniper_there c.args.board.now c.args.side c.args.square c.in-Some.direction c.args.snipers.bits c.requires.snipers (c.has_sniper.ensures.0 w.if-has_sniper.false) c.directions.pinned.bits n a h pin))
      ];
      clear = some_below_more c.in-Some.direction (slider_attacks_along c.args.board.now (opponent_of c.args.side) c.args.square) ∙ or_from _ _ clear missed;
    })

pub returns-then-slider_check_or_pin-clause-shot : goal.returns-then-slider_check_or_pin-clause-shot
returns-then-slider_check_or_pin-clause-shot c = λ _. sym (some_below_found 8 (slider_attacks_along c.args.board.now (opponent_of c.args.side) c.args.square) c.in-Some.direction c.in-Some.ensures.range (sym c.slider_check_or_pin.ensures.shot ∙ c.if-slider_check_or_pin.true))

pub returns-clause-open : goal.returns-clause-open
returns-clause-open c = rw c.in_default.ensures.none at c.directions.invariant.clear
