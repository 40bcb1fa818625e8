use Rattle.std.proofs.Common.{rules, sym, ◌∙◌, ◌≡◌, ◌<◌, true, false}
use Rattle.shogi_core.specs.Attack.{is_sniper, is_step_among}
use Rattle.shogi_core.specs.Below.{some_below}
use Rattle.shogi_core.specs.Bits.{HasBits}
use Rattle.shogi_core.proofs.SliderAttacks.{steps_alike, snipers_alike, sniper_own, attacked_by_step, attacked_by_slide, no_sniper}
use Rattle.shogi_core.proofs.board.Board.is_attacked_among.Goals as goal

pub returns-then-is_stepped_on_among : goal.returns-then-is_stepped_on_among
returns-then-is_stepped_on_among c = λ color seen shows.
    let low : c.args.square < 81 = search rules in
    let found : true ≡ some_below 81 (is_step_among c.args.self.now c.args.among.bits c.args.square) = search rules in
    attacked_by_step seen color c.args.square low
    (sym (steps_alike c.args.self.now seen color c.args.among.bits shows.attackers shows.same c.args.square) ∙ sym found)

pub returns-then-snipers-eq0 : goal.returns-then-snipers-eq0
returns-then-snipers-eq0 c = λ color seen shows.
    let low : c.args.square < 81 = search rules in
    let none : some_below 81 (is_step_among c.args.self.now c.args.among.bits c.args.square) ≡ false = search rules in
    no_sniper seen color c.args.square low _
    (λ n l. rw (c.bitand-snipers.ensures, c.bitand.ensures) (snipers_alike c.args.self.now seen color c.args.among.bits shows.attackers shows.same c.args.square c.sliders.result.bits c.line_mask.result.bits n l (c.sliders.ensures.squares n l) (c.line_mask.ensures.squares n l)))
    c.if-snipers-eq0.true
    (sym (steps_alike c.args.self.now seen color c.args.among.bits shows.attackers shows.same c.args.square) ∙ none)

pub returns : goal.returns
returns c = λ color seen shows.
    let low : c.args.square < 81 = search rules in
    let none : some_below 81 (is_step_among c.args.self.now c.args.among.bits c.args.square) ≡ false = search rules in
    let snipers : HasBits c.bitand-snipers.result.bits (is_sniper seen color c.args.square) = λ n l. rw (c.bitand-snipers.ensures, c.bitand.ensures) (snipers_alike c.args.self.now seen color c.args.among.bits shows.attackers shows.same c.args.square c.sliders.result.bits c.line_mask.result.bits n l (c.sliders.ensures.squares n l) (c.line_mask.ensures.squares n l)) in
    attacked_by_slide seen color c.args.square low c.slider_attacks_among.result
    (sym (steps_alike c.args.self.now seen color c.args.among.bits shows.attackers shows.same c.args.square) ∙ none)
    (c.slider_attacks_among.ensures color seen (record {
      snipers_on = snipers;
      pieces = shows.pieces;
      same = λ n l e. shows.same n l (shows.attackers n l ∙ sniper_own seen color c.args.square n (sym (snipers n l) ∙ e));
    }))
